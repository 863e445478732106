-- In reading order.
mod Entries
mod Buffered
pub mod Copied
mod NewKeys
pub mod Allowed
mod Left
mod Going
mod Counts
mod Strips
mod Moving
mod Leading
mod Marking
mod Banding
mod Holding
mod Walking
mod Drawing
pub mod Alike
mod Ends
