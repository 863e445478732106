-- In reading order: the marks of entries, what contracts see of a pass, what a call on a pass is, what a take gives, a pass's
-- own entries, two passes that meet, the host's pass and what it gives out, what its fields keep, what is given back.
pub mod Marks
pub mod Members
pub mod Called
pub mod Takes
pub mod Own
pub mod Meetings
pub mod Hosts
pub mod HostParts
pub mod Given
