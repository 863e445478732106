-- In reading order: how acts are cut, what becomes of parts one after the other, how a viewer leaves.
pub mod Cuts
pub mod Doings
pub mod Leavings
