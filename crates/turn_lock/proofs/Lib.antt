pub mod Elements
pub mod Pairs
pub mod Keeping
pub mod Begins
pub mod Draws
pub mod Looks
pub mod PassesOn
pub mod Raises
pub mod Counts
pub mod Splits
pub mod Joins
mod Worked
