-- In reading order: a source whose pastes may be typed, one that was looked at, what asks for messages, what a
-- connection has of the service, what a request read and wrote, what one connection did, how `serve` ends.
pub mod Typings
pub mod Lookaheads
pub mod Messages
pub mod Views
pub mod Requests
pub mod Connections
pub mod Serving
