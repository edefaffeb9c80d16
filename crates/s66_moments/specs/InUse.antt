-- To be believed: when one beginning dominates another of the same numbers in use: what a number that remains will wait for counts only from the moment on at which the number could look at it at the soonest.
use Rattle.std.specs.Prelude.{ℕ, ◌+◌, ◌≡◌, ◌<◌, ◌≤◌, ◌⊎◌, true, max, List, ◌∷◌, ◌++◌, get_or}
use Rattle.s66_isa.specs.{Reg, Among, Write}
use Rattle.s66_model.specs.{Problem, Point, row_at, copies, points_of, next, done_of, memory_wait, readers_wait, total_of, IsLegal, IsBeginning, is_remaining, place_in_word, free_times, IsSameSet}
use Rattle.s66_moments.specs.declared.moment.Stage.TheVariants.{Issue, Start}
use Rattle.s66_moments.specs.declared.moment.Moment.TheVariants.{Origin, At}
use Rattle.s66_moments.specs.Facts.{Fact, Arc, Begins, AreSo, Follows}

-- no order that takes less than low, begins with the prefix and has the known facts has the number n sooner
pub record ComesNoSooner (b : Problem) (low : ℕ) (known : List Fact) (prefix : List ℕ) (n issue start : ℕ) : Type 0 where
  pub issues : Follows b low (Begins prefix ∷ known) (Arc Origin issue (At n Issue) 0)
  pub starts : Follows b low (Begins prefix ∷ known) (Arc Origin start (At n Start) 0)

-- After the points q the number n, if it comes no sooner, finds nothing to wait for that is later than after the points p, or than it looks
-- at that.
pub record FindsNoLater (b : Problem) (q p : List Point) (issue start n : ℕ) : Type 0 where
  -- before it issues it looks at the registers that it writes, and at the units of its kind, place by place
  pub writers : (w : Write) → Among w (row_at b n).writes → done_of q w.reg ≤ max (done_of p w.reg) issue
  pub units : (i : ℕ) → i < copies b (row_at b n).kind → get_or (free_times (row_at b n).kind q) i 0 ≤ max (get_or (free_times (row_at b n).kind p) i 0) issue
  -- before it starts, at its operands and at earlier references to memory
  pub operands : (x : Reg) → Among x (row_at b n).reads → done_of q x ≤ max (done_of p x) start
  pub memory : memory_wait q (row_at b n) ≤ max (memory_wait p (row_at b n)) start
  -- when it has a result, at the readers of its register
  pub readers : (w : Write) → Among w (row_at b n).writes → readers_wait q w.reg ≤ max (readers_wait p w.reg) (start + w.latency)

-- n finds nothing later after another beginning than after the prefix, from the soonest issue and start that can be shown
abbrev pub FindsInUse : Problem → ℕ → List Fact → (other prefix : List ℕ) → ℕ → Type 0
FindsInUse b low known other prefix n =
    (issue start : ℕ) × ComesNoSooner b low known prefix n issue start × FindsNoLater b (points_of b other) (points_of b prefix) issue start n

-- Both are beginnings of legal orders, of one set; what comes next may come as soon; and each number that remains finds nothing later. What
-- is done and free by then counts only if it takes low.
pub record DominatesInUse (b : Problem) (low : ℕ) (known : List Fact) (other prefix : List ℕ) : Type 0 where
  pub begins : IsBeginning b.block prefix
  pub other_begins : IsBeginning b.block other
  pub same_set : IsSameSet other prefix
  pub slot : next (points_of b other) ≤ next (points_of b prefix)
  pub phase : place_in_word (points_of b other) ≡ place_in_word (points_of b prefix)
  pub finds : (n : ℕ) → is_remaining b.block prefix n ≡ true → FindsInUse b low known other prefix n
  pub total : (total_of b other < low) ⊎ (total_of b other ≤ total_of b prefix)

-- WHAT IT IS FOR

-- whatever completes the prefix with a total below low, and has the known facts, completes other, and with a total below low
abbrev pub IsNoWorseBelow : Problem → ℕ → List Fact → List ℕ → List ℕ → Type 0
IsNoWorseBelow b low known other prefix =
    (rest : List ℕ) → IsLegal b.block (prefix ++ rest) → total_of b (prefix ++ rest) < low → AreSo b (prefix ++ rest) known
    → IsLegal b.block (other ++ rest) × (total_of b (other ++ rest) < low)
