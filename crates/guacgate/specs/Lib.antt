-- The words that ask for a text.
pub mod Words
