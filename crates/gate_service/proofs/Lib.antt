-- A byte that was looked at, and pastes that are typed behind it.
mod Looks
mod Typed
mod Fronts
mod Beginning
-- Why a connection ended.
mod Caused
-- What the jobs have may go to other threads.
pub mod Crosses
