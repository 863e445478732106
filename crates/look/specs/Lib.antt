-- In reading order: which stream is looked at, what is read of it, which picture of it is shown, and how.
pub mod Choosing
pub mod Stream
pub mod Seen
pub mod Shown
pub mod Faces
pub mod Ppm
pub mod Statuses
