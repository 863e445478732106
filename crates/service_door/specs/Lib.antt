-- In reading order: a session in the table, its recorder, what it begins with, what its door's calls leave of the table.
pub mod Sessions
pub mod Recorders
pub mod Begun
pub mod Doors
