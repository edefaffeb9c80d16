-- The numbers of a profile are in range, and make it again.
use mathlib.Core.HLevel.{is_prop→PathP}
use Rattle.std.specs.List.{AllByRecursion}
use Rattle.std.proofs.Common.{◌≡◌, ◌≤◌, ℕ, zero, suc, List, [], ◌∷◌, All, length, max, min, slice_index_or, ap, ◌∙◌, refl, sym}
use Rattle.std.proofs.Math.Bridge.{le_prop}
use Rattle.std.proofs.Math.Nat.{max-eq_right, min-eq_right}
use Rattle.std.proofs.lemmas.List.Elements.{All-cons, All-nil}
use Rattle.s66_isa.specs.{entries, IsProfile, nearest, profile_of, Profile}

all-of : (ns : List ℕ) → AllByRecursion (λ n. (1 ≤ n) × (n ≤ 100)) ns → All (λ n. (1 ≤ n) × (n ≤ 100)) ns
all-of [] are = All-nil (λ n. (1 ≤ n) × (n ≤ 100))
all-of (n ∷ ns) are = All-cons (λ m. (1 ≤ m) × (m ≤ 100)) n ns are.0 (all-of ns are.1)

pub entries-in-range : (p : Profile) → IsProfile (entries p)
entries-in-range p = (
  refl,
  all-of (entries p) ((
    (p.least.0, p.greatest.0),
    (
      (p.least.1, p.greatest.1),
      (
        (p.least.2, p.greatest.2),
        (
          (p.least.3, p.greatest.3),
          (
            (p.least.4, p.greatest.4),
            (
              (p.least.5, p.greatest.5),
              (
                (p.least.6, p.greatest.6),
                (
                  (p.least.7, p.greatest.7),
                  (
                    (p.least.8, p.greatest.8),
                    (
                      (p.least.9, p.greatest.9),
                      (
                        (p.units.0, p.few.0),
                        (
                          (p.units.1, p.few.1),
                          (
                            (p.units.2, p.few.2),
                            (
                              (p.units.3, p.few.3),
                              (
                                (p.units.4, p.few.4),
                                (
                                  (p.units.5, p.few.5),
                                  ((p.units.6, p.few.6), tt),
                                ),
                              ),
                            ),
                          ),
                        ),
                      ),
                    ),
                  ),
                ),
              ),
            ),
          ),
        ),
      ),
    ),
  )),
)

nearest-own : (n : ℕ) → 1 ≤ n → n ≤ 100 → nearest n ≡ n
nearest-own n least greatest = ap (max 1) (min-eq_right greatest) ∙ max-eq_right least

pub profile_of-entries : (p : Profile) → profile_of (entries p) ≡ p
unfolding profile_of
profile_of-entries p = λ i. record {
  boolean = same-boolean i;
  shift = same-shift i;
  normalise = same-normalise i;
  add = same-add i;
  longadd = same-longadd i;
  multiply = same-multiply i;
  divide = same-divide i;
  population = same-population i;
  increment = same-increment i;
  load = same-load i;
  units_boolean = same-units_boolean i;
  units_shift = same-units_shift i;
  units_add = same-units_add i;
  units_longadd = same-units_longadd i;
  units_multiply = same-units_multiply i;
  units_divide = same-units_divide i;
  units_increment = same-units_increment i;
  least = is_prop→PathP (λ j. (1 ≤ same-boolean j) × (1 ≤ same-shift j) × (1 ≤ same-normalise j) × (1 ≤ same-add j) × (1 ≤ same-longadd j) × (1 ≤ same-multiply j) × (1 ≤ same-divide j) × (1 ≤ same-population j) × (1 ≤ same-increment j) × (1 ≤ same-load j)) (λ j. λ a b k. (le_prop a.0 b.0 k, le_prop a.1 b.1 k, le_prop a.2 b.2 k, le_prop a.3 b.3 k, le_prop a.4 b.4 k, le_prop a.5 b.5 k, le_prop a.6 b.6 k, le_prop a.7 b.7 k, le_prop a.8 b.8 k, le_prop a.9 b.9 k)) (profile_of (entries p)).least p.least i;
  greatest = is_prop→PathP (λ j. (same-boolean j ≤ 100) × (same-shift j ≤ 100) × (same-normalise j ≤ 100) × (same-add j ≤ 100) × (same-longadd j ≤ 100) × (same-multiply j ≤ 100) × (same-divide j ≤ 100) × (same-population j ≤ 100) × (same-increment j ≤ 100) × (same-load j ≤ 100)) (λ j. λ a b k. (le_prop a.0 b.0 k, le_prop a.1 b.1 k, le_prop a.2 b.2 k, le_prop a.3 b.3 k, le_prop a.4 b.4 k, le_prop a.5 b.5 k, le_prop a.6 b.6 k, le_prop a.7 b.7 k, le_prop a.8 b.8 k, le_prop a.9 b.9 k)) (profile_of (entries p)).greatest p.greatest i;
  units = is_prop→PathP (λ j. (1 ≤ same-units_boolean j) × (1 ≤ same-units_shift j) × (1 ≤ same-units_add j) × (1 ≤ same-units_longadd j) × (1 ≤ same-units_multiply j) × (1 ≤ same-units_divide j) × (1 ≤ same-units_increment j)) (λ j. λ a b k. (le_prop a.0 b.0 k, le_prop a.1 b.1 k, le_prop a.2 b.2 k, le_prop a.3 b.3 k, le_prop a.4 b.4 k, le_prop a.5 b.5 k, le_prop a.6 b.6 k)) (profile_of (entries p)).units p.units i;
  few = is_prop→PathP (λ j. (same-units_boolean j ≤ 100) × (same-units_shift j ≤ 100) × (same-units_add j ≤ 100) × (same-units_longadd j ≤ 100) × (same-units_multiply j ≤ 100) × (same-units_divide j ≤ 100) × (same-units_increment j ≤ 100)) (λ j. λ a b k. (le_prop a.0 b.0 k, le_prop a.1 b.1 k, le_prop a.2 b.2 k, le_prop a.3 b.3 k, le_prop a.4 b.4 k, le_prop a.5 b.5 k, le_prop a.6 b.6 k)) (profile_of (entries p)).few p.few i;
}
  where
    same-boolean : nearest p.boolean ≡ p.boolean
    same-boolean = nearest-own p.boolean (p.least.0) (p.greatest.0)

    same-shift : nearest p.shift ≡ p.shift
    same-shift = nearest-own p.shift (p.least.1) (p.greatest.1)

    same-normalise : nearest p.normalise ≡ p.normalise
    same-normalise = nearest-own p.normalise (p.least.2) (p.greatest.2)

    same-add : nearest p.add ≡ p.add
    same-add = nearest-own p.add (p.least.3) (p.greatest.3)

    same-longadd : nearest p.longadd ≡ p.longadd
    same-longadd = nearest-own p.longadd (p.least.4) (p.greatest.4)

    same-multiply : nearest p.multiply ≡ p.multiply
    same-multiply = nearest-own p.multiply (p.least.5) (p.greatest.5)

    same-divide : nearest p.divide ≡ p.divide
    same-divide = nearest-own p.divide (p.least.6) (p.greatest.6)

    same-population : nearest p.population ≡ p.population
    same-population = nearest-own p.population (p.least.7) (p.greatest.7)

    same-increment : nearest p.increment ≡ p.increment
    same-increment = nearest-own p.increment (p.least.8) (p.greatest.8)

    same-load : nearest p.load ≡ p.load
    same-load = nearest-own p.load (p.least.9) (p.greatest.9)

    same-units_boolean : nearest p.units_boolean ≡ p.units_boolean
    same-units_boolean = nearest-own p.units_boolean (p.units.0) (p.few.0)

    same-units_shift : nearest p.units_shift ≡ p.units_shift
    same-units_shift = nearest-own p.units_shift (p.units.1) (p.few.1)

    same-units_add : nearest p.units_add ≡ p.units_add
    same-units_add = nearest-own p.units_add (p.units.2) (p.few.2)

    same-units_longadd : nearest p.units_longadd ≡ p.units_longadd
    same-units_longadd = nearest-own p.units_longadd (p.units.3) (p.few.3)

    same-units_multiply : nearest p.units_multiply ≡ p.units_multiply
    same-units_multiply = nearest-own p.units_multiply (p.units.4) (p.few.4)

    same-units_divide : nearest p.units_divide ≡ p.units_divide
    same-units_divide = nearest-own p.units_divide (p.units.5) (p.few.5)

    same-units_increment : nearest p.units_increment ≡ p.units_increment
    same-units_increment = nearest-own p.units_increment (p.units.6) (p.few.6)

-- the first n numbers of a sequence
firsts : (ℕ → ℕ) → ℕ → List ℕ
firsts f zero = []
firsts f (suc n) = f 0 ∷ firsts (λ k. f (suc k)) n

firsts-all : (ns : List ℕ) → firsts (λ k. slice_index_or ns k 0) (length ns) ≡ ns
unfolding firsts
firsts-all [] = refl
firsts-all (n ∷ ns) = ap (λ rest. n ∷ rest) (firsts-all ns)

-- a profile whose entries are these seventeen numbers, one by one
pub profile-of-its-numbers : (p : Profile) (ns : List ℕ) → length ns ≡ 17 →
    p.boolean ≡ slice_index_or ns 0 0 →
    p.shift ≡ slice_index_or ns 1 0 →
    p.normalise ≡ slice_index_or ns 2 0 →
    p.add ≡ slice_index_or ns 3 0 →
    p.longadd ≡ slice_index_or ns 4 0 →
    p.multiply ≡ slice_index_or ns 5 0 →
    p.divide ≡ slice_index_or ns 6 0 →
    p.population ≡ slice_index_or ns 7 0 →
    p.increment ≡ slice_index_or ns 8 0 →
    p.load ≡ slice_index_or ns 9 0 →
    p.units_boolean ≡ slice_index_or ns 10 0 →
    p.units_shift ≡ slice_index_or ns 11 0 →
    p.units_add ≡ slice_index_or ns 12 0 →
    p.units_longadd ≡ slice_index_or ns 13 0 →
    p.units_multiply ≡ slice_index_or ns 14 0 →
    p.units_divide ≡ slice_index_or ns 15 0 →
    p.units_increment ≡ slice_index_or ns 16 0 →
    (p ≡ profile_of ns) × (entries p ≡ ns)
unfolding firsts
profile-of-its-numbers p ns size e0 e1 e2 e3 e4 e5 e6 e7 e8 e9 e10 e11 e12 e13 e14 e15 e16 = (sym (profile_of-entries p) ∙ ap profile_of same, same)
  where
    same : entries p ≡ ns
    same = (λ i. e0 i ∷ e1 i ∷ e2 i ∷ e3 i ∷ e4 i ∷ e5 i ∷ e6 i ∷ e7 i ∷ e8 i ∷ e9 i ∷ e10 i ∷ e11 i ∷ e12 i ∷ e13 i ∷ e14 i ∷ e15 i ∷ e16 i ∷ []) ∙ ap (firsts (λ k. slice_index_or ns k 0)) (sym size) ∙ firsts-all ns
