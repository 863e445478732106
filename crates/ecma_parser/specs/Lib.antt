-- In reading order: the bytes held back, the parameters so far, where they begin, the states, and what a parser has read.
pub mod Waiting
pub mod Held
pub mod Sequence
pub mod Begun
pub mod State
pub mod Past
pub mod Parser
