-- In reading order: the words of the service, what the program did.
pub mod Words
pub mod Program
