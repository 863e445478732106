pub mod HearingLaws
pub mod Values
pub mod Replying
pub mod Behind
pub mod First
pub mod Endings
pub mod Causes
pub mod Refusing
pub mod Touching
pub mod Telling
pub mod InMemory
mod Askable
mod AskFacts
pub mod Undone
pub mod PairLaws
