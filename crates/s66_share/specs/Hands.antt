-- Used by contracts within the crate alone: what the owner of a lane and each pass at it have put and taken, and the rule that all steps of a lane keep.
use mathlib.Core.Option.{some}
use lib.ListN.{get_elem?}
use Rattle.std.specs.Prelude.{ℕ, ◌≡◌, ◌+◌, ◌-◌, ◌≤◌, List, [], ◌++◌}
use Rattle.s66_isa.specs.{weigh}
use Rattle.s66_model.specs.{TicketOf}

-- what the owner or a pass has put and taken, and how many parts it has of the right to know the whole
pub record Hand : Type 0 where
  pub parts : ℕ
  pub put : List TicketOf
  pub taken : List TicketOf

-- one of the owner, and one for each pass
abbrev pub PARTS : ℕ
PARTS = 16

-- the owner's hand at a new lane
abbrev pub opening_hand : Hand
opening_hand = record { parts = PARTS; put = []; taken = [] }

-- that of a new pass
abbrev pub new_hand : Hand
new_hand = record { parts = 1; put = []; taken = [] }

-- that of a pass that was taken back
abbrev pub spent_hand : Hand
spent_hand = record { parts = 0; put = []; taken = [] }

abbrev pub one_part_less : Hand → Hand
one_part_less v = record v { parts = v.parts - 1 }

abbrev pub joined_hands : Hand → Hand → Hand
joined_hands v u = record { parts = v.parts + u.parts; put = v.put ++ u.put; taken = v.taken ++ u.taken }

-- if it has no part, it has put and taken nothing
abbrev pub HoldsNothing : Hand → Type 0
HoldsNothing v = v.parts ≡ 0 → (v.put ≡ []) × (v.taken ≡ [])

-- what all hands put is what all took and what is in the lane, however tickets are weighed
abbrev pub Balanced : List TicketOf → List Hand → Type 0
Balanced tickets hands =
    (weigh (λ v. v.parts) hands ≡ PARTS)
    × ((h : TicketOf → ℕ) → weigh (λ v. weigh h v.put) hands ≡ weigh (λ v. weigh h v.taken) hands + weigh h tickets)
    × ((at : ℕ) (v : Hand) → get_elem? hands at ≡ some v → HoldsNothing v)

abbrev pub HasPut : Hand → List TicketOf → Hand → Type 0
HasPut old tickets new = new ≡ record old { put = old.put ++ tickets }

abbrev pub HasTakenTickets : Hand → List TicketOf → Hand → Type 0
HasTakenTickets old tickets new = new ≡ record old { taken = old.taken ++ tickets }

-- no hand has more than all parts
abbrev pub HasPartsAtMost : Hand → List TicketOf → Type 0
HasPartsAtMost v tickets = v.parts ≤ PARTS

-- if the hand has every part, what it put is what it took and what is in the lane
abbrev pub IsSettled : Hand → List TicketOf → Type 0
IsSettled v tickets = v.parts ≡ PARTS → (h : TicketOf → ℕ) → weigh h v.put ≡ weigh h v.taken + weigh h tickets
