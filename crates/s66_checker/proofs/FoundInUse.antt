-- What is stated of the numbers that remain after two beginnings: whether each finds nothing later after one of them.
use Rattle.std.proofs.Common.{ℕ, ◌+◌, ◌≤◌, ◌<◌, ◌≡◌, ◌⊎◌, ◌↔◌, ◌∙◌, ◌==◌, ◌||◌, Bool, IsTrue, true, List, [], sym, ap, subst, arith, inl, inr, leb, ltb, le-leb, eq-eqb}
use Rattle.std.proofs.lemmas.Bool.Decides.{Decides-or, Decides-ltb, same_from_decides}
use Rattle.s66_isa.specs.{every, Row}
use Rattle.s66_isa.proofs.Lists.{cases_le}
use Rattle.s66_model.specs.{Problem, Point, next, points_of, total_of, IsBeginning, is_remaining, remaining, place_in_word}
use Rattle.s66_moments.specs.{Known}
use Rattle.s66_checker.specs.{is_beginning, is_same_set, finds_no_later, number_finds_no_later, dominates_in_use}
use Rattle.s66_checker.proofs.GoingTo.{goes_on-Decides}
use Rattle.s66_checker.proofs.NoLater.{le-Decides, last-left as last-of-seven}
use Rattle.s66_checker.proofs.InUseTests.{remaining-Decides}

pub found-stated : (count : ℕ) (xs ys : List Point) (issue start : ℕ) (r : Row) (count2 : ℕ) (xs2 ys2 : List Point) (issue2 start2 : ℕ) (r2 : Row) → count ≡ count2 → xs ≡ xs2 → ys ≡ ys2 → issue ≡ issue2 → start ≡ start2 → r ≡ r2 → finds_no_later count xs ys issue start r ≡ finds_no_later count2 xs2 ys2 issue2 start2 r2
found-stated count xs ys issue start r count2 xs2 ys2 issue2 start2 r2 a b c d e f =
    ap (λ k. finds_no_later k xs ys issue start r) a
    ∙ ap (λ k. finds_no_later count2 k ys issue start r) b
    ∙ ap (λ k. finds_no_later count2 xs2 k issue start r) c
    ∙ ap (λ k. finds_no_later count2 xs2 ys2 k start r) d
    ∙ ap (λ k. finds_no_later count2 xs2 ys2 issue2 k r) e
    ∙ ap (λ k. finds_no_later count2 xs2 ys2 issue2 start2 k) f

-- one number more
pub next-found : (left found : ℕ → Bool) (position : ℕ) → ((n : ℕ) → n ≤ position → left n ≡ true → found n ≡ true) → (left (position + 1) ≡ true → found (position + 1) ≡ true) → (n : ℕ) → n ≤ position + 1 → left n ≡ true → found n ≡ true
next-found left found position before here n le is =
    elim (cases_le n position) [
      | inl past ↦ before n past is
      | inr last ↦
          (let e : position + 1 ≡ n = omega (arith, le, last) in
          subst (λ k. found k ≡ true) e (here (subst (λ k. left k ≡ true) (sym e) is)))
    ]

pub in_use-stated : (b : Problem) (low : ℕ) (known : Known) (name at : List ℕ) (stated : Bool) → IsBeginning b.block name → IsBeginning b.block at → is_same_set name at ≡ true → next (points_of b name) ≤ next (points_of b at) → place_in_word (points_of b name) ≡ place_in_word (points_of b at) → (total_of b name < low) ⊎ (total_of b name ≤ total_of b at) →
    IsTrue stated ↔ ((n : ℕ) → is_remaining b.block at n ≡ true → number_finds_no_later b known name at n ≡ true) → stated ≡ dominates_in_use b low known name at
in_use-stated b low known name at stated named begins same slot phase total is =
    let test = number_finds_no_later b known name at in
    same_from_decides stated (every test (remaining b.block at)) is (remaining-Decides b.block at test)
    ∙ last-of-seven (is_beginning b.block at) (is_beginning b.block name) (is_same_set name at) (leb (next (points_of b name)) (next (points_of b at))) (place_in_word (points_of b name) == place_in_word (points_of b at)) (ltb (total_of b name) low || leb (total_of b name) (total_of b at)) (every test (remaining b.block at))
    ((goes_on-Decides b.block [] at).1 begins) ((goes_on-Decides b.block [] name).1 named) same (le-leb (next (points_of b name)) (next (points_of b at)) slot) (eq-eqb (place_in_word (points_of b name)) (place_in_word (points_of b at)) phase)
    ((Decides-or (ltb (total_of b name) low) (leb (total_of b name) (total_of b at)) (Decides-ltb (total_of b name) low) (le-Decides (total_of b name) (total_of b at))).1 total)
