pub mod Rows
pub mod Fills
pub mod Parts
pub mod Sizes
pub mod Places
pub mod Copies
pub mod Playing
pub mod Comparing
pub mod Playable
mod TextLaws
