-- In reading order: what a cache holds and what its calls do to it, and how the code holds it.
pub mod Cache
pub mod Packed
pub mod Tied
