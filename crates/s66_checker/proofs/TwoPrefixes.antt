-- What two prefixes store decides whether one dominates the other.
use Rattle.std.proofs.Common.{ℕ, ◌≤◌, ◌<◌, ◌≡◌, ◌↔◌, ◌∙◌, Bool, IsTrue, true, false, List, length, reverse, refl, sym, ap, le-leb}
use Rattle.std.proofs.lemmas.Bool.{lt-leb}
use Rattle.s66_isa.specs.{Instr, BLOCK_LIMIT, Profile, has, Row, numbers_in, Set}
use Rattle.s66_model.specs.{WrittenEarlier, ClampedStanding, Problem, Point, points_of, next, total_of, IsBeginning, Clamp, no_clamp, clamp_at}
use Rattle.s66_checker.specs.{is_no_later, is_same_set, dominates_by, IsPrefix}
use Rattle.s66_checker.proofs.AheadOf.{set-stated, ahead-is, written-late, written-is}

-- what a prefix keeps of its numbers
pub record Keeps (b : Problem) (numbers : List ℕ) (own : Profile) (placed : Set) (xs : List Point) : Type 0 where
  pub profile : own ≡ b.profile
  pub few : length b.block ≤ BLOCK_LIMIT
  pub begins : IsBeginning b.block numbers
  pub marked : (m : ℕ) → 1 ≤ m → m ≤ BLOCK_LIMIT → has m (numbers_in placed) ≡ has m numbers
  pub timed : reverse xs ≡ points_of b numbers

pub keeps : (block : List Instr) (profile : Profile) (rows : List Row) (all : List Set) (placed : Set) (ns : List ℕ) (xs : List Point) → IsPrefix block profile rows all placed ns xs → Keeps (record { block = block; profile = profile }) ns profile placed xs
keeps block profile rows all placed ns xs is =
    record { profile = refl; few = is.few; begins = is.begins; marked = is.marked; timed = is.timed }

-- the marks of both decide whether they are of one set
pub same-stated : (b : Problem) (name at : List ℕ) (profile other_profile : Profile) (placed other_placed : Set) (xs ys : List Point) (stated : Bool) → Keeps b name profile placed xs → Keeps b at other_profile other_placed ys →
    IsTrue stated ↔ ((m : ℕ) → 1 ≤ m → m ≤ BLOCK_LIMIT → has m (numbers_in placed) ≡ has m (numbers_in other_placed)) → stated ≡ is_same_set name at
same-stated b name at profile other_profile placed other_placed xs ys stated named there is =
    set-stated b.block placed other_placed name at stated named.few named.begins there.begins named.marked there.marked is

module _ (b : Problem) (name at : List ℕ) (profile other_profile : Profile) (placed other_placed : Set) (xs ys : List Point) (named : Keeps b name profile placed xs) (there : Keeps b at other_profile other_placed ys) where
  points-are : (c : Clamp) (no_later : Bool) → no_later ≡ is_no_later profile c (reverse xs) (reverse ys) → no_later ≡ is_no_later b.profile c (points_of b name) (points_of b at)
  points-are c no_later is =
      is ∙ ap (λ (p : Profile). is_no_later p c (reverse xs) (reverse ys)) named.profile
      ∙ ap (λ (s : List Point). is_no_later b.profile c s (reverse ys)) named.timed
      ∙ ap (is_no_later b.profile c (points_of b name)) there.timed

  pub later-total : is_same_set name at ≡ true → total_of b at < total_of b name → false ≡ dominates_by WrittenEarlier b name at
  later-total one late = written-late b name at there.begins named.begins one (lt-leb (total_of b name) (total_of b at) late)

  pub written-stated : is_same_set name at ≡ true → total_of b name ≤ total_of b at → (no_later : Bool) → no_later ≡ is_no_later profile no_clamp (reverse xs) (reverse ys) → no_later ≡ dominates_by WrittenEarlier b name at
  written-stated one le no_later is =
      points-are no_clamp no_later is ∙ written-is b name at there.begins named.begins one (le-leb (total_of b name) (total_of b at) le)

  pub clamped-stated : is_same_set name at ≡ true → (now : ℕ) → now ≡ next (points_of b at) → (no_later : Bool) → no_later ≡ is_no_later profile (clamp_at now) (reverse xs) (reverse ys) → no_later ≡ dominates_by ClampedStanding b name at
  clamped-stated one now e no_later is =
      points-are (clamp_at now) no_later is
      ∙ ap (λ k. is_no_later b.profile (clamp_at k) (points_of b name) (points_of b at)) e
      ∙ sym (ahead-is b name at there.begins named.begins one (clamp_at (next (points_of b at))))
