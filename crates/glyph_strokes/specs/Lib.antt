-- How a key is painted over a cell.
pub mod Strokes
