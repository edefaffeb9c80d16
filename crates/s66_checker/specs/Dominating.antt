-- To be believed: when one beginning dominates another of the same set, as tests that can be computed: as written, clamped, and in use.
use Rattle.std.specs.Prelude.{ℕ, ◌+◌, ◌==◌, ◌&&◌, ◌||◌, Bool, true, false, max, List, [], ◌∷◌, ◌++◌, get_or, nat_le, nat_lt}
use Rattle.s66_isa.specs.{Instr, Profile, Reg, every, has, rising, all_registers, Row, Write, copies_of, all_kinds}
use Rattle.s66_model.specs.{Rule, NoneNamed, WrittenEarlier, ClampedStanding, Problem, Point, row_at, copies, points_of, next, done_of, memory_wait, readers_wait, total_of, is_ready, remaining}
use Rattle.s66_model.specs.{place_in_word, references_wait, stores_wait, free_times, Clamp, no_clamp, clamp_at}
use Rattle.s66_moments.specs.{Known, issue_at_least, start_at_least}

-- each of these numbers is ready when it comes after the prefix
abbrev pub is_beginning_after : List Instr → List ℕ → List ℕ → Bool
is_beginning_after block prefix [] = true
is_beginning_after block prefix (n ∷ ns) = is_ready block prefix n && is_beginning_after block (prefix ++ n ∷ []) ns

abbrev pub is_same_set : List ℕ → List ℕ → Bool
is_same_set other prefix = every (λ n. has n prefix) other && every (λ n. has n other) prefix

abbrev pub is_beginning : List Instr → List ℕ → Bool
is_beginning block prefix = is_beginning_after block [] prefix

-- smaller at the first place where they differ
abbrev pub is_earlier : List ℕ → List ℕ → Bool
is_earlier [] ms = false
is_earlier (n ∷ ns) [] = false
is_earlier (n ∷ ns) (m ∷ ms) = nat_lt n m || (n == m && is_earlier ns ms)

-- USED BY CONTRACTS: whether one beginning dominates another by a rule, as such a test: the same of numbers, registers and units one by
-- one. `dominating_law` says that it is dominance.

-- NO LATER: the points q than the points p, or than the clamps

-- the word of each register
abbrev pub are_registers_no_later : ℕ → (Reg → ℕ) → (Reg → ℕ) → Bool
are_registers_no_later clamp f g = every (λ r. nat_le (f r) (max (g r) clamp)) all_registers

-- the times at each of n places
abbrev pub are_places_no_later : ℕ → ℕ → List ℕ → List ℕ → Bool
are_places_no_later count clamp xs ys = every (λ i. nat_le (get_or xs i 0) (max (get_or ys i 0) clamp)) (rising count 0)

-- as many of the greatest free times of each kind as there are copies
abbrev pub are_units_no_later : Profile → ℕ → List Point → List Point → Bool
are_units_no_later profile clamp q p =
    every (λ kind. are_places_no_later (copies_of profile kind) clamp (free_times kind q) (free_times kind p)) all_kinds

abbrev pub is_no_later : Profile → Clamp → List Point → List Point → Bool
is_no_later profile c q p =
    nat_le (next q) (next p)
    && place_in_word q == place_in_word p
    && are_registers_no_later c.others (done_of q) (done_of p)
    && are_registers_no_later c.readers (readers_wait q) (readers_wait p)
    && are_units_no_later profile c.others q p
    && nat_le (references_wait q) (max (references_wait p) c.others)
    && nat_le (stores_wait q) (max (stores_wait p) c.others)

-- both are beginnings of legal orders, of one set, and the named one is no later
abbrev pub is_ahead : Clamp → Problem → List ℕ → List ℕ → Bool
is_ahead c b name at =
    is_beginning b.block at
    && is_beginning b.block name
    && is_same_set name at
    && is_no_later b.profile c (points_of b name) (points_of b at)

-- BY A RULE: as written everything counts, and so does the total; clamped what is past by the next slot doesn't

abbrev pub dominates_by : Rule → Problem → List ℕ → List ℕ → Bool
dominates_by NoneNamed b name at = false
dominates_by WrittenEarlier b name at = is_ahead no_clamp b name at && nat_le (total_of b name) (total_of b at)
dominates_by ClampedStanding b name at = is_ahead (clamp_at (next (points_of b at))) b name at

-- IN USE, below a time: what each number that remains finds from the soonest issue and start on that the known facts show

-- the last results in the registers of these writes
abbrev pub are_results_no_later : ℕ → List Point → List Point → List Write → Bool
are_results_no_later issue q p writes = every (λ (w : Write). nat_le (done_of q w.reg) (max (done_of p w.reg) issue)) writes

-- and in these registers
abbrev pub are_operands_no_later : ℕ → List Point → List Point → List Reg → Bool
are_operands_no_later start q p reads = every (λ x. nat_le (done_of q x) (max (done_of p x) start)) reads

-- the readers of a register, when its result is there
abbrev pub is_reader_no_later : ℕ → List Point → List Point → Write → Bool
is_reader_no_later start q p w = nat_le (readers_wait q w.reg) (max (readers_wait p w.reg) (start + w.latency))

abbrev pub are_readers_no_later : ℕ → List Point → List Point → List Write → Bool
are_readers_no_later start q p writes = every (is_reader_no_later start q p) writes

-- an instruction of this row, with so many units of its kind, that comes no sooner
abbrev pub finds_no_later : ℕ → List Point → List Point → (issue start : ℕ) → Row → Bool
finds_no_later count q p issue start r =
    are_results_no_later issue q p r.writes
    && are_places_no_later count issue (free_times r.kind q) (free_times r.kind p)
    && are_operands_no_later start q p r.reads
    && nat_le (memory_wait q r) (max (memory_wait p r) start)
    && are_readers_no_later start q p r.writes

-- a number that remains after both
abbrev pub number_finds_no_later : Problem → Known → List ℕ → List ℕ → ℕ → Bool
number_finds_no_later b known name at n =
    finds_no_later (copies b (row_at b n).kind) (points_of b name) (points_of b at) (issue_at_least b known at n) (start_at_least b known at n) (row_at b n)

-- what `DominatesInUse` asks, computed; `issue_at_least` and `start_at_least` say how soon a number comes
abbrev pub dominates_in_use : Problem → ℕ → Known → List ℕ → List ℕ → Bool
dominates_in_use b low known name at =
    is_beginning b.block at
    && is_beginning b.block name
    && is_same_set name at
    && nat_le (next (points_of b name)) (next (points_of b at))
    && place_in_word (points_of b name) == place_in_word (points_of b at)
    && (nat_lt (total_of b name) low || nat_le (total_of b name) (total_of b at))
    && every (number_finds_no_later b known name at) (remaining b.block at)
