-- In reading order: how a session is closed at its link's end, what a pump did, what a sender did.
pub mod Closings
pub mod Pumps
pub mod Senders
