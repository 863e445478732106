-- What threads share may go to other threads.
pub mod Crosses
