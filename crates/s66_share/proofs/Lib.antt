pub mod Books
pub mod Dealt
pub mod Seats
pub mod Sums
pub mod Turns
pub mod HintSteps
pub mod LaneMoves
pub mod Passes
