-- In reading order: how acts are cut, what becomes of each part, how a viewer leaves.
pub mod Parts
pub mod Doing
pub mod Leaving
