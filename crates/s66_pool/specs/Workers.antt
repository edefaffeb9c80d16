-- To be believed: what comes back from the workers of a search: each seat that was given out, and a ledger in which the search went on.
use Rattle.std.specs.Prelude.{ℕ, ◌≡◌, ◌<◌, ◌≤◌, All, List, Vec, length, map, slice_index_or}
use Rattle.std.specs.declared.alloc.Global.{Global}
use Rattle.s66_model.specs.{Problem, total_of, best_time}
use Rattle.s66_time.specs.TimedOrder.{TimedOrder}
use Rattle.s66_ledger.specs.{LedgerOf}
use Rattle.s66_share.specs.{LaneId, LaneOf}
use Rattle.s66_pool.specs.Hubs.{SeatOf}
use Rattle.s66_pool.specs.Victims.{VictimOf}
use Rattle.s66_pool.specs.declared.member.Local.{Local}
use Rattle.s66_pool.specs.declared.member.Member.{Member}

-- at the same hub, under the same number
abbrev pub IsSameSeat : SeatOf → SeatOf → Type 0
IsSameSeat seat other = (other.hub ≡ seat.hub) × (other.book.who ≡ seat.book.who)

-- as many, each in its place
abbrev pub AreSameSeats : List SeatOf → List SeatOf → Type 0
AreSameSeats seats others =
    (length others ≡ length seats)
    × ((i : ℕ) (d : SeatOf) → i < length seats → IsSameSeat (slice_index_or seats i d) (slice_index_or others i d))

-- USED WITHIN THE CRATE ALONE

-- the search goes on from one to the other: of the same problem by the same rule, for the same budget and workers, and its best time
-- doesn't rise
abbrev pub LedgerGoesOn : LedgerOf → LedgerOf → Type 0
LedgerGoesOn old new =
    (new.problem ≡ old.problem) × (new.budget ≡ old.budget) × (new.workers ≡ old.workers) × (new.rule ≡ old.rule)
    × (best_time new.problem new.state ≤ best_time old.problem old.state)

-- if the order is one of the ledger's problem, the best time isn't above its total
abbrev pub HasTaken : LedgerOf → TimedOrder → Type 0
HasTaken l timed = timed.problem ≡ l.problem → best_time l.problem l.state ≤ total_of timed.problem timed.numbers

-- a search of one thread, with a walk and marks of these problems
pub record IsLone (l : LedgerOf) (walked marked : Problem) : Type 0 where
  pub walk : walked ≡ l.problem
  pub marks : marked ≡ l.problem
  pub workers : 1 ≤ l.workers

-- with the same lane of its own, and the same ones from which it steals
abbrev pub IsSameLocal : Local → Local → Type 0
IsSameLocal old new = (new.lane.id ≡ old.lane.id) × (new.victims.items ≡ old.victims.items)

abbrev pub IsSameMember : Member → Member → Type 0
IsSameMember old new = IsSameSeat old.seat new.seat × IsSameLocal old.local new.local

-- which lanes these are
abbrev pub ids_of : List LaneOf → List LaneId
ids_of lanes = map (λ (l : LaneOf). l.id) lanes

-- what members have
abbrev pub seats_of : List Member → List SeatOf
seats_of members = map (λ (m : Member). m.seat) members

abbrev pub locals_of : List Member → List Local
locals_of members = map (λ (m : Member). m.local) members

-- the lanes of workers, each at its place, and those from which each may steal
abbrev pub lanes_of : List Local → List LaneId
lanes_of locals = map (λ (l : Local). l.lane.id) locals

abbrev pub victims_of : List Local → List (Vec VictimOf Global)
victims_of locals = map (λ (l : Local). l.victims) locals

-- a victim's lane is that of the worker at its place
abbrev pub MatchesLane : List LaneId → VictimOf → Type 0
MatchesLane lanes v = (v.place < length lanes) × ((d : LaneId) → slice_index_or lanes v.place d ≡ v.lane)

abbrev pub AllMatchLanes : List LaneId → List (Vec VictimOf Global) → Type 0
AllMatchLanes lanes victims = All (λ (v : Vec VictimOf Global). All (MatchesLane lanes) v.items) victims

-- each steals from lanes of these
abbrev pub VictimsMatchLanes : List Local → Type 0
VictimsMatchLanes locals = AllMatchLanes (lanes_of locals) (victims_of locals)
