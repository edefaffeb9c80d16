-- The greatest chain starts at the next slot, or when a register is done that is late.
use Rattle.std.proofs.Common.{ℕ, ◌+◌, ◌≤◌, ◌<◌, ◌≡◌, true, cond, max, List, [], ◌∷◌, length, arith, inl, inr}
use Rattle.std.proofs.lemmas.Bool.{or_cases, or_left, or_right, cond_both, cond-true}
use Rattle.s66_isa.specs.{Reg, greatest, some_of, Among, Row, Write, has_reg, same_reg}
use Rattle.s66_isa.proofs.Lists.{cases_le, le-greatest, greatest-le, greatest-le-greatest, greatest-plus, among-some}
use Rattle.s66_isa.proofs.SameRegister.{same_reg-self, has_reg-le}
use Rattle.s66_model.specs.{Problem, Point, row_at, points_of, next, done_of, is_remaining, remaining, IsBeginning, uses, head, chain, longest_tail, tail_remaining, chain_by, HasLate}
use Rattle.s66_model.proofs.Remaining.{among-remaining}
use Rattle.s66_model.proofs.ChainBound.{writes-le}
use Rattle.s66_model.proofs.Longest.{chain-static}

-- THE LATEST REGISTER OF A ROW

-- the greatest f of the registers that the row reads or writes
abbrev pub used_of : (Reg → ℕ) → Row → ℕ
used_of f r = max (greatest f r.reads) (greatest (λ (w : Write). f w.reg) r.writes)

reads-late : (f : Reg → ℕ) (low : ℕ) (rs : List Reg) → low < greatest f rs → (x : Reg) × (has_reg x rs ≡ true) × (f x ≡ greatest f rs)
reads-late f low [] h = absurd (omega arith)
reads-late f low (x ∷ rs) h =
    elim (cases_le (greatest f rs) (f x)) [
      | inl le ↦ (x, or_left (same_reg x x) (has_reg x rs) (same_reg-self x), omega arith)
      | inr lt ↦ (let (y, among, is) = reads-late f (f x) rs lt in (y, or_right (same_reg y x) (has_reg y rs) among, omega (arith, is)))
    ]

writes-late : (f : Reg → ℕ) (low : ℕ) (ws : List Write) → low < greatest (λ (w : Write). f w.reg) ws → (x : Reg) × (some_of (λ (w : Write). same_reg w.reg x) ws ≡ true) × (f x ≡ greatest (λ (w : Write). f w.reg) ws)
writes-late f low [] h = absurd (omega arith)
writes-late f low (w ∷ ws) h =
    elim (cases_le (greatest (λ (v : Write). f v.reg) ws) (f w.reg)) [
      | inl le ↦ (w.reg, or_left (same_reg w.reg w.reg) (some_of (λ (v : Write). same_reg v.reg w.reg) ws) (same_reg-self w.reg), omega arith)
      | inr lt ↦ (let (y, among, is) = writes-late f (f w.reg) ws lt in (y, or_right (same_reg w.reg y) (some_of (λ (v : Write). same_reg v.reg y) ws) among, omega (arith, is)))
    ]

-- one of them reaches it
pub used-late : (f : Reg → ℕ) (low : ℕ) (r : Row) → low < used_of f r → (x : Reg) × (uses r x ≡ true) × (f x ≡ used_of f r)
used-late f low r h =
    elim (cases_le (greatest (λ (w : Write). f w.reg) r.writes) (greatest f r.reads)) [
      | inl le ↦ (let (x, among, is) = reads-late f low r.reads (omega (arith, h)) in (x, or_left (has_reg x r.reads) (some_of (λ (w : Write). same_reg w.reg x) r.writes) among, omega (arith, is, le)))
      | inr lt ↦ (let (x, among, is) = writes-late f low r.writes (omega (arith, h)) in (x, or_right (has_reg x r.reads) (some_of (λ (w : Write). same_reg w.reg x) r.writes) among, omega (arith, is, lt)))
    ]

pub used-le : (f : Reg → ℕ) (r : Row) (x : Reg) → uses r x ≡ true → f x ≤ used_of f r
used-le f r x used =
    elim (or_cases (has_reg x r.reads) (some_of (λ (w : Write). same_reg w.reg x) r.writes) used) [
      | inl read ↦ omega (arith, has_reg-le f x r.reads read)
      | inr written ↦ omega (arith, writes-le f x r.writes written)
    ]

-- THE PARTS OF A CHAIN

module _ (b : Problem) (prefix : List ℕ) where
  abbrev s : List Point
  s = points_of b prefix

  abbrev value_at : ℕ → ℕ
  value_at n = head s (row_at b n) + longest_tail b n

  abbrev by : Reg → ℕ → ℕ
  by x n = cond (uses (row_at b n) x) (done_of s x + longest_tail b n) 0

  -- a chain starts at the next slot, or when a late register is done
  value-le : (xs : List Reg) → HasLate b prefix xs → (n : ℕ) → Among n (remaining b.block prefix) → value_at n ≤ max (next s + tail_remaining b prefix) (greatest (chain_by b prefix) xs)
  value-le xs late n among =
      let reached : longest_tail b n ≤ tail_remaining b prefix = le-greatest (longest_tail b) n (remaining b.block prefix) among in
      elim (cases_le (used_of (done_of s) (row_at b n)) (next s)) [
        | inl le ↦ omega (arith, le, reached)
        | inr lt ↦
            let (x, used, is) = used-late (done_of s) (next s) (row_at b n) lt in
            let listed = late x (omega (arith, lt, is)) in
            let here : by x n ≤ chain_by b prefix x = le-greatest (by x) n (remaining b.block prefix) among in
            let known : by x n ≡ done_of s x + longest_tail b n = cond-true {A = ℕ} (uses (row_at b n) x) (done_of s x + longest_tail b n) 0 used in
            let within : chain_by b prefix x ≤ greatest (chain_by b prefix) xs = has_reg-le (chain_by b prefix) x xs listed in
            omega (arith, lt, is, here, known, within)
      ]

  pub by-le : (x : Reg) (n : ℕ) → Among n (remaining b.block prefix) → by x n ≤ greatest value_at (remaining b.block prefix)
  by-le x n among =
      let here : value_at n ≤ greatest value_at (remaining b.block prefix) = le-greatest value_at n (remaining b.block prefix) among in
      cond_both (uses (row_at b n) x) (done_of s x + longest_tail b n) 0 (λ t. t ≤ greatest value_at (remaining b.block prefix))
      (λ used. omega (arith, used-le (done_of s) (row_at b n) x used, here))
      (λ not_used. omega arith)

  -- no chain from a register that isn't late is greater than those from the next slot
  pub early-le : (x : Reg) → done_of s x ≤ next s → chain_by b prefix x ≤ next s + tail_remaining b prefix
  early-le x early =
      greatest-le (by x) (next s + tail_remaining b prefix) (remaining b.block prefix) (λ n among.
      let reached : longest_tail b n ≤ tail_remaining b prefix = le-greatest (longest_tail b) n (remaining b.block prefix) among in
      cond_both (uses (row_at b n) x) (done_of s x + longest_tail b n) 0 (λ t. t ≤ next s + tail_remaining b prefix)
      (λ used. omega (arith, early, reached))
      (λ not_used. omega arith))

  -- what the chains are by the longest tail of what remains, and by that of the users of each late register
  pub chain-parts : (xs : List Reg) (n : ℕ) → IsBeginning b.block prefix → is_remaining b.block prefix n ≡ true → HasLate b prefix xs →
      chain b prefix ≡ max (next s + tail_remaining b prefix) (greatest (chain_by b prefix) xs)
  chain-parts xs n begins stays late =
      let below : greatest value_at (remaining b.block prefix) ≤ max (next s + tail_remaining b prefix) (greatest (chain_by b prefix) xs) =
      greatest-le value_at (max (next s + tail_remaining b prefix) (greatest (chain_by b prefix) xs)) (remaining b.block prefix) (value-le xs late) in
      let some : 0 < length (remaining b.block prefix) = among-some n (remaining b.block prefix) (among-remaining b.block prefix n stays) in
      let slot : greatest (λ m. next s + longest_tail b m) (remaining b.block prefix) ≡ next s + tail_remaining b prefix = greatest-plus (next s) (longest_tail b) (remaining b.block prefix) some in
      let first : greatest (λ m. next s + longest_tail b m) (remaining b.block prefix) ≤ greatest value_at (remaining b.block prefix) =
      greatest-le-greatest (λ m. next s + longest_tail b m) value_at (λ m. omega arith) (remaining b.block prefix) in
      let each : greatest (chain_by b prefix) xs ≤ greatest value_at (remaining b.block prefix) =
      greatest-le (chain_by b prefix) (greatest value_at (remaining b.block prefix)) xs (λ x among. greatest-le (by x) (greatest value_at (remaining b.block prefix)) (remaining b.block prefix) (by-le x)) in
      omega (arith, chain-static b prefix begins, below, slot, first, each)
