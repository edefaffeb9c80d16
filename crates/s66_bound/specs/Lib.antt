pub mod LeafValues
pub mod Ranks
pub mod InstructionCosts
pub mod TableWords
pub mod LeastWords
pub use LeafValues.{leaf_of, value_of}
pub use Ranks.{rank, IsRanking, AreRanks, AreRanksLeft}
pub use InstructionCosts.{IsCostOf, AreCosts}
pub use TableWords.{timed_by, HasLater, AreThose, HasWorks, HasSingles, HasUsers, AreRegisters, IsTables, AreRemaining}
pub use LeastWords.{AreEnds}
pub use declared.cost.Cost.{Cost}
