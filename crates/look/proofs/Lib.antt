pub mod Streams
pub mod Seeing
pub mod Coming
pub mod Lines
