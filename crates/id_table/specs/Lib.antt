-- In reading order: what is held under an ID, which IDs are drawn, what a table and a shelf hold and lend.
pub mod Maps
pub mod Draws
pub mod Refused
pub mod Tables
pub mod Shelves
