-- Keys: keysyms, modifiers, and the bytes that each key sends.
pub mod Keysyms
pub mod Modifiers
pub mod NamedKeys
pub mod Encoding
pub mod KeyLaws
