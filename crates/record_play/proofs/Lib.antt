-- In reading order: a recording is read, played, searched and read in one way; a client's stream; what the gateway
-- sent.
pub mod Streams
pub mod Plays
pub mod Finds
pub mod Unique
pub mod Captures
pub mod Sent
