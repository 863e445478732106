-- In reading order: numbers and lists, text, the screen, its picture, the drawing machine, keys, roles, histories.
pub mod Limits
pub mod Sequences
pub mod text
pub mod terminal
pub mod telnet
pub mod picture
pub mod keys
pub mod session
