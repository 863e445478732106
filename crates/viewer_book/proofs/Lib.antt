pub mod Lists
pub mod Books
mod Places
mod BookFacts
