pub mod SeatViews
pub mod Locked
pub mod LockTokens
pub mod Hints
pub mod Lanes
pub mod Hands
pub use SeatViews.{Stage, Idle, Founding, Holding, View, idle, holding, all_opened, founding, first_of, rest_of, books_of, SummaryGoesOn, MayBecome, renewed, found_at, first_book}
pub use Locked.{AllAgree, IsOnce, Has, IsFree, IsLockHeld, keep_least, read_best, keep_books, GaveFirst, FoundedAt}
pub use LockTokens.{found, book, IsIdle, IsResting, IsHolding, HaveEvery}
pub use Hints.{HintSeatOf, IsLowest}
pub use Lanes.{LaneId, LaneOf, PassOf, AreLeft}
pub use Hands.{Hand, PARTS, opening_hand, new_hand, spent_hand, one_part_less, joined_hands, HoldsNothing, Balanced, HasPut, HasTakenTickets, HasPartsAtMost, IsSettled}
pub use declared.limits.TheConstants.{CAPACITY_LIMIT, PASS_LIMIT}
