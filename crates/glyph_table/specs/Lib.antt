pub mod GlyphRects
