-- To be believed: when one beginning dominates another of the same numbers, as written and clamped at the next slot. Whatever
-- completes the other then completes it, and takes no more.
--
-- `FORMATS.md`, "Dominated leaves", lists the times that are compared.
use Rattle.std.specs.Prelude.{ℕ, ◌+◌, ◌%◌, ◌≡◌, ◌<◌, ◌≤◌, if◌then◌else◌, max, List, [], ◌∷◌, ◌++◌, get_or, nat_le}
use Rattle.s66_isa.specs.{Kind, Reg, greatest, has, same_kind, touches, stores}
use Rattle.s66_model.specs.Timing.{Problem, Point, copies, points_of, next, next_parcel, done_of, readers_wait, total_of}
use Rattle.s66_model.specs.LegalOrder.{IsLegal, IsBeginning}

-- WHAT IS COMPARED besides what the timing names

-- the place of the next parcel in its word
abbrev pub place_in_word : List Point → ℕ
place_in_word s = next_parcel s % 4

-- one after the greatest start of references to memory, 0 if there are none
abbrev pub references_wait : List Point → ℕ
references_wait s = greatest (λ (p : Point). if touches p.row.memory then p.start + 1 else 0) s

-- and of stores
abbrev pub stores_wait : List Point → ℕ
stores_wait s = greatest (λ (p : Point). if stores p.row.memory then p.start + 1 else 0) s

-- falling times with one more
abbrev pub insert_falling : ℕ → List ℕ → List ℕ
insert_falling t [] = t ∷ []
insert_falling t (u ∷ us) = if nat_le u t then t ∷ (u ∷ us) else u ∷ insert_falling t us

-- when units of a kind are free, the latest first
abbrev pub free_times : Kind → List Point → List ℕ
free_times kind [] = []
free_times kind (p ∷ s) = if same_kind p.row.kind kind then insert_falling p.free (free_times kind s) else free_times kind s

-- NO LATER

-- the times up to which nothing counts: for the readers of a register, and for all else
pub record Clamp : Type 0 where
  pub readers : ℕ
  pub others : ℕ

-- the points q are no later than the points p, or than the clamps
pub record IsNoLater (b : Problem) (c : Clamp) (q p : List Point) : Type 0 where
  pub slot : next q ≤ next p
  pub phase : place_in_word q ≡ place_in_word p
  pub writers : (r : Reg) → done_of q r ≤ max (done_of p r) c.others
  pub readers : (r : Reg) → readers_wait q r ≤ max (readers_wait p r) c.readers
  -- as many of the greatest free times as the kind has copies, place by place
  pub units : (kind : Kind) (i : ℕ) → i < copies b kind → get_or (free_times kind q) i 0 ≤ max (get_or (free_times kind p) i 0) c.others
  pub references : references_wait q ≤ max (references_wait p) c.others
  pub stores : stores_wait q ≤ max (stores_wait p) c.others

-- the same numbers are placed
abbrev pub IsSameSet : List ℕ → List ℕ → Type 0
IsSameSet other prefix = (n : ℕ) → has n other ≡ has n prefix

-- both are beginnings of legal orders, of one set, and other is no later
pub record DominatesBy (c : Clamp) (b : Problem) (other prefix : List ℕ) : Type 0 where
  pub begins : IsBeginning b.block prefix
  pub other_begins : IsBeginning b.block other
  pub same_set : IsSameSet other prefix
  pub no_later : IsNoLater b c (points_of b other) (points_of b prefix)

-- AS WRITTEN: everything counts, and so does the total

abbrev pub no_clamp : Clamp
no_clamp = record { readers = 0; others = 0 }

abbrev pub Dominates : Problem → List ℕ → List ℕ → Type 0
Dominates b other prefix = DominatesBy no_clamp b other prefix × (total_of b other ≤ total_of b prefix)

-- CLAMPED AT THE NEXT SLOT of the prefix: what is past by then doesn't count; for readers what is past one minor cycle later,
-- since every result takes one at least. The total isn't compared: it follows.

abbrev pub clamp_at : ℕ → Clamp
clamp_at now = record { readers = now + 1; others = now }

abbrev pub DominatesClamped : Problem → List ℕ → List ℕ → Type 0
DominatesClamped b other prefix = DominatesBy (clamp_at (next (points_of b prefix))) b other prefix

-- WHAT IT IS FOR

-- whatever completes the prefix completes other, with no greater total
abbrev pub IsNoWorse : Problem → List ℕ → List ℕ → Type 0
IsNoWorse b other prefix =
    (rest : List ℕ) → IsLegal b.block (prefix ++ rest) → IsLegal b.block (other ++ rest) × (total_of b (other ++ rest) ≤ total_of b (prefix ++ rest))
