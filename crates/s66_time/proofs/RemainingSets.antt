-- What remains after a beginning, and those of it that pass a test, as sets.
use Rattle.std.specs.Cmp.{both_ways}
use Rattle.std.proofs.Common.{ℕ, ◌+◌, ◌≤◌, ◌≡◌, Bool, true, false, not, ◌&&◌, List, length, refl, sym, subst, ap, arith, ltb, leb, ◌∙◌, le-leb, leb-true, filter}
use Rattle.std.proofs.lemmas.Bool.{and_parts, and_from}
use Rattle.s66_isa.specs.{BLOCK_LIMIT, has, rising, Among, numbers, Set, numbers_in}
use Rattle.s66_isa.specs.Table.{Instr}
use Rattle.s66_isa.proofs.Lists.{filter-filter, has-among, among-has, among-rising, rising-among}
use Rattle.s66_isa.proofs.Sets.{within, within-from, within-parts, filter-within, numbers_in-filter}
use Rattle.s66_model.specs.{Problem, is_remaining, remaining}
use Rattle.s66_model.proofs.Remaining.{remaining-parts, remaining-among}

-- ALL BUT THE PUSHED ONES

has-rising : (k m : ℕ) → has m (rising k 1) ≡ (leb 1 m && leb m k)
has-rising k m =
    both_ways (has m (rising k 1)) (leb 1 m && leb m k)
    (λ is. let (low, high) = among-rising k 1 m (has-among m (rising k 1) is) in and_from (leb 1 m) (leb m k) (le-leb 1 m low) (le-leb m k (omega (arith, high))))
    (λ is.
    let (low, high) = and_parts (leb 1 m) (leb m k) is in
    among-has m (rising k 1) (rising-among k 1 m (leb-true 1 m low) (omega (arith, leb-true m k high))))

pub rest-is : (block : List Instr) (prefix : List ℕ) (all pushed rest : Set) → length block ≤ BLOCK_LIMIT → numbers_in all ≡ numbers block → ((m : ℕ) → has m (numbers_in pushed) ≡ has m prefix) →
    ((m : ℕ) → has m (numbers_in rest) ≡ (has m (numbers_in all) && not (has m (numbers_in pushed)))) → numbers_in rest ≡ remaining block prefix
rest-is block prefix all pushed rest few is_all is_pushed is_rest =
    numbers_in-filter rest (is_remaining block prefix) (length block) few (λ m.
    is_rest m
    ∙ (ap (λ x. x && not (has m (numbers_in pushed))) (ap (has m) is_all ∙ has-rising (length block) m)
    ∙ (ap (λ x. (leb 1 m && leb m (length block)) && not x) (is_pushed m)
    ∙ inside m)))
  where
    inside : (m : ℕ) → is_remaining block prefix m ≡ within (is_remaining block prefix) (length block + 1) m
    inside m =
        both_ways (is_remaining block prefix m) (within (is_remaining block prefix) (length block + 1) m)
        (λ is. let (low, high, new) = remaining-parts block prefix m is in within-from (is_remaining block prefix) (length block + 1) m low (omega (arith, high)) is)
        (λ is. let (low, high, passes) = within-parts (is_remaining block prefix) (length block + 1) m is in passes)

-- they are numbers of the block
pub remaining-within : (block : List Instr) (prefix : List ℕ) (rest : Set) → numbers_in rest ≡ remaining block prefix → (n : ℕ) → Among n (numbers_in rest) → (1 ≤ n) × (n ≤ length block)
remaining-within block prefix rest is n among =
    let (low, high, new) = remaining-parts block prefix n (remaining-among block prefix n (subst (Among n) is among)) in
    (low, high)

-- THOSE THAT PASS

within-both : (first second : ℕ → Bool) (k m : ℕ) → (within first k m && within second k m) ≡ within (λ n. first n && second n) k m
within-both first second k m = each (leb 1 m) (ltb m k) (first m) (second m)
  where
    each : (a b x y : Bool) → ((a && (b && x)) && (a && (b && y))) ≡ (a && (b && (x && y)))
    each true true x y = refl
    each true false x y = refl
    each false b x y = refl

pub both-are : (b : Problem) (prefix : List ℕ) (test : ℕ → Bool) (rest those both : Set) → length b.block ≤ BLOCK_LIMIT → numbers_in rest ≡ remaining b.block prefix → numbers_in those ≡ filter test (numbers b.block) →
    ((m : ℕ) → has m (numbers_in both) ≡ (has m (numbers_in rest) && has m (numbers_in those))) → numbers_in both ≡ filter test (remaining b.block prefix)
both-are b prefix test rest those both few is_rest are is_both =
    let stays : ℕ → Bool = is_remaining b.block prefix in
    let k = length b.block in
    numbers_in-filter both (λ n. stays n && test n) k few (λ m.
    is_both m
    ∙ (ap (λ x. x && has m (numbers_in those)) (ap (has m) is_rest ∙ filter-within stays k m)
    ∙ (ap (λ x. within stays (k + 1) m && x) (ap (has m) are ∙ filter-within test k m)
    ∙ within-both stays test (k + 1) m)))
    ∙ sym (filter-filter test stays (numbers b.block))
