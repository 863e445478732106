-- In reading order: the bytes of a subnegotiation, the states, and what a wire has read.
pub mod Kept
pub mod State
pub mod Past
pub mod Parts
pub mod Wire
