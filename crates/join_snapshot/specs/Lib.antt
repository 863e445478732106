-- The instructions of a snapshot, and what they leave over any layers.
pub mod Strokes
pub mod Snapshot
