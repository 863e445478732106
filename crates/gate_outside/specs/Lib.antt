-- In reading order: what a call at the edge moved and what helpers tell, the ends that lie in memory, draws, how jobs start, and a net in memory.
pub mod Edge
pub mod Helpers
pub mod Memory
pub mod Ahead
pub mod Draws
pub mod Starts
pub mod Nets
