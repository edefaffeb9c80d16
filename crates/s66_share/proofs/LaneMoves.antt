-- Each step of a lane keeps its rule: to put and to take tickets, to deal and to collect passes, and what is learnt from a count.
use mathlib.Core.Option.{some, some-injective, some-ne-none}
use lib.ListN.{get_elem?}
use Rattle.std.proofs.Common.{◌≡◌, ◌≢◌, ℕ, zero, suc, ◌+◌, ◌≤◌, List, [], ◌∷◌, ◌++◌, set, sym, refl, ap, subst, ⊎_elim, arith}
use Rattle.crossbeam_deque.specs.Tasks.{Pushes, Takes, Forks, Merges, Learns}
use Rattle.crossbeam_deque.proofs.Lists.{at_set}
use Rattle.s66_isa.specs.{weigh}
use Rattle.s66_isa.proofs.Lists.{weigh-append}
use Rattle.s66_model.specs.{TicketOf}
use Rattle.s66_share.specs.{Hand, new_hand, spent_hand, one_part_less, joined_hands, HoldsNothing, Balanced, HasPut, HasTakenTickets, HasPartsAtMost, IsSettled}

weigh-at : {X : Type 0} (f : X → ℕ) (xs : List X) (i : ℕ) (v w : X) → get_elem? xs i ≡ some v → weigh f (set xs i w) + f v ≡ weigh f xs + f w
weigh-at f [] i v w e = absurd (some-ne-none v (sym e))
weigh-at f (x ∷ xs) zero v w e = let p : f x ≡ f v = ap f (some-injective x v e) in omega arith
weigh-at f (x ∷ xs) (suc i) v w e = let p = weigh-at f xs i v w e in omega arith

abbrev put_by : (TicketOf → ℕ) → Hand → ℕ
put_by h v = weigh h v.put

abbrev taken_by : (TicketOf → ℕ) → Hand → ℕ
taken_by h v = weigh h v.taken

abbrev AllIdle : List Hand → Type 0
AllIdle hands = (at : ℕ) (v : Hand) → get_elem? hands at ≡ some v → HoldsNothing v

idle-set : (hands : List Hand) (at : ℕ) (w : Hand) → HoldsNothing w → AllIdle hands → AllIdle (set hands at w)
idle-set hands at w is all j u e =
    ⊎_elim (λ (x : (j ≡ at) × (w ≡ u)). subst HoldsNothing x.1 is) (λ (x : (j ≢ at) × (get_elem? hands j ≡ some u)). all j u x.1) (at_set hands at j w u e)

idle-snoc : (hands : List Hand) (w : Hand) → HoldsNothing w → AllIdle hands → AllIdle (hands ++ w ∷ [])
idle-snoc [] w is all zero u e = subst HoldsNothing (some-injective w u e) is
idle-snoc [] w is all (suc j) u e = absurd (some-ne-none u (sym e))
idle-snoc (x ∷ xs) w is all zero u e = all 0 u e
idle-snoc (x ∷ xs) w is all (suc j) u e = idle-snoc xs w is (λ k v. all (suc k) v) j u e

-- one hand puts or takes, and keeps its parts
moved : (port : ℕ) (v w : Hand) (items more : List TicketOf) (hands : List Hand) → 1 ≤ v.parts → w.parts ≡ v.parts → ((h : TicketOf → ℕ) → weigh h w.put + weigh h v.taken + weigh h items ≡ weigh h v.put + weigh h w.taken + weigh h more) → Balanced items hands → get_elem? hands port ≡ some v
    → Balanced more (set hands port w)
moved port v w items more hands some_part parts moves b at = (
  (let s = weigh-at (λ u. u.parts) hands port v w at in let p = b.0 in omega arith),
  (λ h.
      let s = weigh-at (put_by h) hands port v w at in
      let t = weigh-at (taken_by h) hands port v w at in
      let r = b.1 h in
      omega (arith, moves h)),
  idle-set hands port w (λ none. absurd (omega arith)) b.2,
)

pub puts : (port : ℕ) (v : Hand) (ts : List TicketOf) → 1 ≤ v.parts → Pushes Balanced port v ts (HasPut v ts)
puts port v ts some_part items hands b at =
    let w : Hand = record v { put = v.put ++ ts } in
    (w, moved port v w items (items ++ ts) hands some_part refl (λ h. omega (arith, weigh-append h v.put ts, weigh-append h items ts)) b at, refl)

pub takes : (port : ℕ) (v : Hand) → 1 ≤ v.parts → Takes Balanced port v 1 (HasTakenTickets v)
takes port v some_part ts items hands any few b at =
    let w : Hand = record v { taken = v.taken ++ ts } in
    (w, moved port v w (ts ++ items) items hands some_part refl (λ h. omega (arith, weigh-append h v.taken ts, weigh-append h ts items)) b at, refl)

pub deals : (port : ℕ) (v : Hand) → 2 ≤ v.parts → Forks Balanced port v (one_part_less v) new_hand
deals port v two items hands b at =
    let w : Hand = one_part_less v in
    let hs : List Hand = set hands port w in (
      (let s = weigh-at (λ u. u.parts) hands port v w at in let p = b.0 in omega (arith, weigh-append (λ u. u.parts) hs (new_hand ∷ []))),
      (λ h.
          let s = weigh-at (put_by h) hands port v w at in
          let t = weigh-at (taken_by h) hands port v w at in
          let r = b.1 h in
          omega (arith, weigh-append (put_by h) hs (new_hand ∷ []), weigh-append (taken_by h) hs (new_hand ∷ []))),
      idle-snoc hs new_hand (λ none. absurd (omega arith)) (idle-set hands port w (λ none. absurd (omega arith)) b.2),
    )

pub collects : (port : ℕ) (v : Hand) (other : ℕ) (u : Hand) → 1 ≤ v.parts → Merges Balanced port v other u (joined_hands v u) spent_hand
collects port v other u some_part items hands b at differs there =
    let w : Hand = joined_hands v u in
    let hs : List Hand = set hands port w in (
      (let s = weigh-at (λ x. x.parts) hands port v w at in
          let t = weigh-at (λ x. x.parts) hs other u spent_hand there in
          let p = b.0 in
          omega arith),
      (λ h.
          let s = weigh-at (put_by h) hands port v w at in
          let t = weigh-at (taken_by h) hands port v w at in
          let s2 = weigh-at (put_by h) hs other u spent_hand there in
          let t2 = weigh-at (taken_by h) hs other u spent_hand there in
          let r = b.1 h in
          omega (arith, weigh-append h v.put u.put, weigh-append h v.taken u.taken)),
      idle-set hs other spent_hand (λ none. (refl, refl)) (idle-set hands port w (λ none. absurd (omega arith)) b.2),
    )

-- if no hand has a part, none has put or taken anything
none-of : (f : Hand → ℕ) → ((v : Hand) → (v.put ≡ []) × (v.taken ≡ []) → f v ≡ 0) → (hands : List Hand) → AllIdle hands → weigh (λ v. v.parts) hands ≡ 0 → weigh f hands ≡ 0
none-of f nothing [] all no_parts = refl
none-of f nothing (v ∷ hands) all no_parts =
    omega (arith, nothing v (all 0 v refl (omega arith)), none-of f nothing hands (λ at. all (suc at)) (omega arith))

-- who has every part has all that was put and taken
one-of : (f : Hand → ℕ) → ((v : Hand) → (v.put ≡ []) × (v.taken ≡ []) → f v ≡ 0) → (hands : List Hand) (at : ℕ) (v : Hand) → AllIdle hands → get_elem? hands at ≡ some v → weigh (λ u. u.parts) hands ≡ v.parts → weigh f hands ≡ f v
one-of f nothing [] at v all e every = absurd (some-ne-none v (sym e))
one-of f nothing (x ∷ hands) zero v all e every =
    let same : f x ≡ f v = ap f (some-injective x v e) in
    let parts : x.parts ≡ v.parts = ap (λ u. u.parts) (some-injective x v e) in
    omega (arith, none-of f nothing hands (λ at. all (suc at)) (omega arith))
one-of f nothing (x ∷ hands) (suc at) v all e every =
    let here = weigh-at (λ u. u.parts) hands at v spent_hand e in
    omega (arith, nothing x (all 0 x refl (omega arith)), one-of f nothing hands at v (λ k. all (suc k)) e (omega arith))

part-weighs : (hands : List Hand) (at : ℕ) (v : Hand) → get_elem? hands at ≡ some v → v.parts ≤ weigh (λ u. u.parts) hands
part-weighs hands at v e = let s = weigh-at (λ u. u.parts) hands at v spent_hand e in omega arith

pub counts : (port : ℕ) (v : Hand) → Learns Balanced port v (HasPartsAtMost v)
counts port v items hands b at = let s = part-weighs hands port v at in let p = b.0 in omega arith

pub settles : (port : ℕ) (v : Hand) → Learns Balanced port v (IsSettled v)
settles port v items hands b at every h =
    let p = b.0 in
    let s = one-of (put_by h) (λ u no. ap (weigh h) no.0) hands port v b.2 at (omega arith) in
    let t = one-of (taken_by h) (λ u no. ap (weigh h) no.1) hands port v b.2 at (omega arith) in
    let r = b.1 h in
    omega arith
