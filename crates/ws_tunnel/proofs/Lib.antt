-- In reading order: what one read came to, two passes that meet, acts that were put, one message, messages one after the
-- other, the beginning, the end, the texts, the door.
pub mod Reading
pub mod Meeting
pub mod Putting
pub mod Replies
pub mod Going
pub mod Starting
pub mod Ending
pub mod Openings
