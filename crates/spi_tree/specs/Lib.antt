pub mod Trees
pub mod Views
pub mod Pieces
pub mod Formed
pub mod Listed
