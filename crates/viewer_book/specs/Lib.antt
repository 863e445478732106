-- In reading order: the room for stamps, what the book keeps and what each call makes of it, the laws about that.
pub mod Room
pub mod Book
pub mod Laws
