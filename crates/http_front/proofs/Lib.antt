-- In reading order.
pub mod Tokens
pub mod Growing
mod RefusalFacts
