pub mod Words
pub mod KindTexts
