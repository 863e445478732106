-- What a run of characters makes of a grid, what a grid knows of its cells, and how they are mended.
pub mod Runs
pub mod Held
pub mod Mending
