-- In reading order.
mod Inks
pub mod Filled
pub mod Allowed
