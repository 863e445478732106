-- The instructions of a frame, and how they follow the screen place by place.
pub mod Strokes
pub mod Cells
pub mod Fresh
pub mod Along
pub mod Leads
pub mod Goes
pub mod Matches
pub mod Recent
pub mod Moved
