pub mod FollowingWords
pub mod Branching
pub mod Orders
pub use FollowingWords.{no_tails, IsSmall, AreSmall, AreSmallWords, HasSmallWords, HasRanks}
pub use Branching.{IsNoSlower, Looks, SearchGoesOn}
pub use Orders.{IsGood, IsLooked}
pub use declared.best_first.allowed.TheConstants.{LANES}
pub use declared.best_first.waits.TheConstants.{WORD_COUNT}
pub use declared.limits.TheConstants.{TAIL_LIMIT, TRANSPOSITIONS_LIMIT}
