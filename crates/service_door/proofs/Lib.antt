-- In reading order: a table before and after a call, a session that is added, one that is lent, one that is stopped, how a
-- session begins, how a viewer joins, how a recorder joins, that a session and its jobs may go to other threads.
mod Tables
mod Adding
mod Lending
mod Stopping
mod Owned
mod Joined
mod Recorded
pub mod Crosses
