pub mod Hubs
pub mod Supplies
pub mod Workers
pub mod Victims
pub mod Parts
pub use Hubs.{HubOf, SeatOf, HaveSeats, HasGrafted, HasSupply, HasGraftedAndSupply, HasBeenRefused, HasOffered, IsKnown}
pub use Supplies.{after_events, grants, claims, last_claim, supplied, IsClaimed, IsSupplyFor, AreEvents}
pub use Workers.{IsSameSeat, AreSameSeats, LedgerGoesOn, HasTaken, IsSameLocal, IsSameMember, ids_of, seats_of, locals_of, lanes_of, victims_of, MatchesLane, AllMatchLanes, VictimsMatchLanes}
pub use Victims.{VictimOf}
pub use Parts.{ArePartsOf, IsAt, HasPart}
pub use declared.member.Local.{Local}
pub use declared.member.Member.{Member}
pub use declared.supply.Supply.{Supply}
