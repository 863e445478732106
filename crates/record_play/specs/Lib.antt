-- In reading order: the stamp of an instruction, what is read of a recording and its faults, what is known of it, its
-- syncs, what a player shows, the names of keys, what a log says, what is read of a client's stream, the laws.
pub mod Stamps
pub mod Recorded
pub mod Indexes
pub mod Syncs
pub mod Played
pub mod KeyNames
pub mod KeyLog
pub mod Captured
pub mod Laws
