pub mod HexLaws
pub mod GrammarLaws
pub mod PieceLaws
pub mod ActsLaws
pub mod ActsFacts
