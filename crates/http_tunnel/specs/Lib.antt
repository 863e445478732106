-- In reading order: what a request asks, what a read did, what a place that goes back does, what a read does to the
-- tunnels, what a body asks, what a write does to the tunnels, what a request for a tunnel does, how each is answered.
pub mod Routes
pub mod Reads
pub mod Places
pub mod Tunnels
pub mod Bodies
pub mod Writes
pub mod Connects
pub mod Requests
