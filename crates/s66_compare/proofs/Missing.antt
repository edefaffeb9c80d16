-- The first number on which an instruction depends and which isn't there, by the set of all such.
use Rattle.std.proofs.Common.{ℕ, ◌+◌, ◌-◌, ◌≡◌, ◌≤◌, ◌∙◌, Bool, true, false, not, ◌&&◌, List, [], ◌∷◌, length, get_or, refl, ap, leb, ltb, filter}
use Rattle.std.proofs.lemmas.Bool.{cond_both}
use Rattle.s66_isa.specs.{first_that, has, numbers_in, numbers, Instr, BLOCK_LIMIT, Set}
use Rattle.s66_isa.proofs.Sets.{filter-within, numbers_in-filter}
use Rattle.s66_model.specs.{all_needs, depends}
use Rattle.s66_time.proofs.Readiness.{needs-at}
use Rattle.s66_compare.specs.{is_missing}

-- THE FIRST THAT PASSES, by all that do

same-first : (m n : ℕ) (ms ns : List ℕ) → m ∷ ms ≡ n ∷ ns → m ≡ n
same-first m n ms ns is = cc

pub first-some : (test : ℕ → Bool) (ns : List ℕ) (n : ℕ) (later : List ℕ) → filter test ns ≡ n ∷ later → first_that test ns ≡ n
first-some test [] n later is = absurd cc
first-some test (m ∷ ns) n later is =
    cond_both (test m) (m ∷ filter test ns) (filter test ns) (λ zs. zs ≡ n ∷ later → first_that test (m ∷ ns) ≡ n)
    (λ passes first. rw passes (same-first m n (filter test ns) later first))
    (λ fails past. rw fails (first-some test ns n later past))
    is

pub first-none : (test : ℕ → Bool) (ns : List ℕ) → filter test ns ≡ [] → first_that test ns ≡ 0
first-none test [] is = refl
first-none test (m ∷ ns) is =
    cond_both (test m) (m ∷ filter test ns) (filter test ns) (λ zs. zs ≡ [] → first_that test (m ∷ ns) ≡ 0)
    (λ passes first. absurd cc)
    (λ fails past. rw fails (first-none test ns past))
    is

-- ALL THAT ARE MISSING

and-moved : (a b c d : Bool) → ((a && (b && c)) && d) ≡ (a && (b && (c && d)))
and-moved false b c d = refl
and-moved true false c d = refl
and-moved true true c d = refl

-- a set of what n needs, without those that are there
pub missing-are : (block : List Instr) (before missing : Set) (ns needed : List ℕ) (n : ℕ) → length block ≤ BLOCK_LIMIT → 1 ≤ n → n ≤ length block →
    needed ≡ get_or (all_needs block) (n - 1) [] → ((m : ℕ) → has m (numbers_in before) ≡ has m ns) → ((m : ℕ) → has m (numbers_in missing) ≡ (has m needed && not (has m (numbers_in before)))) →
    numbers_in missing ≡ filter (is_missing block ns n) (numbers block)
missing-are block before missing ns needed n few first last needs same without =
    numbers_in-filter missing (is_missing block ns n) (length block) few
    (λ m.
    without m
    ∙ (ap (λ b. has m needed && not b) (same m)
    ∙ (ap (λ ks. has m ks && not (has m ns)) (needs ∙ needs-at block n first last)
    ∙ (ap (λ b. b && not (has m ns)) (filter-within (λ a. depends block a n) (length block) m)
    ∙ and-moved (leb 1 m) (ltb m (length block + 1)) (depends block m n) (not (has m ns))))))
