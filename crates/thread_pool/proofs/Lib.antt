-- The pool may go to other threads.
pub mod Crosses
