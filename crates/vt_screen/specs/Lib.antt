-- What holds of each screen, where a character is printed, and what a control sequence leaves to mend.
pub mod Soundness
pub mod Printed
pub mod Reach
