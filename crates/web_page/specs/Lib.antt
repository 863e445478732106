-- The paths of the files.
pub mod Paths
