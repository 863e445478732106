-- In reading order: numbers, the words, the pieces of the input, hexadecimal digits, what a viewer writes,
-- a run's lines, what a script's line says, which lines an input makes, some lines worked out.
pub mod Numbers
pub mod Words
pub mod Pieces
pub mod Hexadecimal
pub mod Acts
pub mod Lines
pub mod Grammar
pub mod Worked
