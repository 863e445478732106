pub mod Apart
pub mod Drawing
pub mod Sweeping
pub mod Crosses
