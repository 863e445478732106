-- In reading order: the forms of the values, the options that the words give.
pub mod Values
pub mod Given
