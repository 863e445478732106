pub mod GlyphTests
pub mod GlyphRects
mod BarTable
