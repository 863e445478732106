-- In reading order: the instruction at the front of some bytes, the keys that a text is typed by, what instructions do to
-- the text that is pasted, as the reader tells it too, what stands in their place, and what a source of it has given.
pub mod Fronts
pub mod Typed
pub mod Clips
pub mod Asked
pub mod Pasted
pub mod Sources
