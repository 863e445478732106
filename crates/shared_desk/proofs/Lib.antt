-- In reading order: what every pass keeps, what a turn leaves, what a call comes to in it, what others leave alone, what each kind of pass
-- makes of its part, the host's pass, how a session is opened, that passes may go
-- to other threads, what loops over passes rest on, two passes that meet.
mod Passes
mod Turns
mod Acting
mod Alone
pub mod Derived
mod Hosts
mod Openings
pub mod Sends
pub mod Crosses
pub mod Lasting
pub mod Meetings
