pub mod StopMoves
pub mod Resizing
