pub mod Appended
pub mod Labels
pub mod PointTexts
pub mod Values
pub mod Escaping
pub mod Pieces
pub mod Points
pub mod Rows
mod Totals
