-- In reading order: what moves over a link, a link in memory, what messages ask, what answers made of the passes, what a
-- viewer's messages did, the whole call, worked examples.
pub mod Links
pub mod MemLinks
pub mod Heard
pub mod Answered
pub mod Runs
pub mod Served
pub mod Worked
