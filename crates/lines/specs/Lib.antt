pub mod Numerals
pub mod Pieces
pub mod Forms
pub mod Grammar
pub mod Grids
pub mod Says
