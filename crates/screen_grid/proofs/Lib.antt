pub mod Windows
pub mod Drawing
pub mod Refitting
pub mod Holding
pub mod MendedPlaces
