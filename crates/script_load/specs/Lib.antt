-- In reading order: the words that are drawn, the lines that rounds of them make, and some of these worked out.
pub mod Words
pub mod Rounds
pub mod Draws
pub mod Worked
