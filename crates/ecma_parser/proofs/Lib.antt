pub mod HeldLaws
pub mod PartLaws
pub mod SequenceLaws
pub mod StringLaws
pub mod StateLaws
pub mod FrontLaws
pub mod ParserLaws
