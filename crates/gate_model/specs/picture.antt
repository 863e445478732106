-- The picture of a screen, and the drawing machine that instructions drive.
pub mod KeyGrid
pub mod Palette
pub mod Font
pub mod Letters
pub mod Lines
pub mod Glyphs
pub mod Pictures
pub mod Layers
pub mod Shape
pub mod Buffers
pub mod Frames
pub mod InstrLaws
