-- In reading order: what a history keeps and what it stands for, the laws about that.
pub mod Keeping
pub mod Laws
