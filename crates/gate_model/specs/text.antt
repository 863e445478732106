-- What instructions are as text, and what a client and a server mean by them.
pub mod Reading
pub mod Statuses
pub mod Text
pub mod Spelling
pub mod Numerals
pub mod ClientMeaning
pub mod HelloMeaning
pub mod ServerMeaning
