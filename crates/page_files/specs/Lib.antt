-- In reading order: by whom a request asks for the page, which file it asks for, the text of the answer.
pub mod Asking
pub mod Answers
