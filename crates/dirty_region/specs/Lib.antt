pub mod Places
pub mod Bands
