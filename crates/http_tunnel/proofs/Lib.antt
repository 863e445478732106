-- In reading order: what a look and a read of a reader's pass come to, steps on a shelf, places that go back, a
-- request's read, a body, a request's write, a request for a tunnel, what is answered, that a tunnel may go to another
-- thread.
pub mod Looks
pub mod Shelves
pub mod Places
pub mod TunnelReads
pub mod Bodies
pub mod Writing
pub mod Connecting
pub mod Responses
pub mod Crosses
