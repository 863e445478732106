-- In reading order: statuses, instructions and what they ask, the form of a connection, what a door answers and tells,
-- what is written, how a greeting ends and why, what a form leads to, the IDs of names, a door in memory.
pub mod Statuses
pub mod Splits
pub mod Asks
pub mod Forms
pub mod Moved
pub mod Heard
pub mod Doors
pub mod Views
pub mod Texts
pub mod Greetings
pub mod Causes
pub mod Opening
pub mod Names
pub mod Memory
