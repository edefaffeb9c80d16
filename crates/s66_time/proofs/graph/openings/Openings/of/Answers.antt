use Rattle.std.proofs.Common.{ℕ, ◌≡◌, ◌+◌, ◌-◌, ◌≤◌, ◌<◌, filter, true, ◌++◌, ◌∷◌, [], ◌∙◌, List, length, map, get_or, ap, sym, subst, arith, inl, inr}
use Rattle.std.proofs.lemmas.Bool.{cases_lt}
use Rattle.std.proofs.lemmas.List.{map-append, get_or_append_left}
use Rattle.std.proofs.Math.Seq.{get_or-append_seam}
use Rattle.s66_isa.specs.{has, rising, Set, numbers_in, no_set}
use Rattle.s66_line.specs.{instrs_of}
use Rattle.s66_time.specs.{needs_of, is_direct, opens}
use Rattle.s66_time.proofs.OrderNumbers.{rising-more}
use Rattle.s66_time.proofs.Opened.{count-needs, needs-range, opens-from}
use Rattle.s66_time.proofs.graph.openings.Openings.of.Goals as goal

pub direct_needs-requires : goal.direct_needs-requires
direct_needs-requires c =
    let block = instrs_of c.args.block.now in
    record {
      number = (omega arith, omega (arith, ap (λ (ns : List (List ℕ)). length ns) c.of-dependences.ensures, count-needs block));
      needs =
          let n : ℕ = c.loop-position.position + 1 in
          subst (λ (all : List (List ℕ)). (k : ℕ) → has k (needs_of all n) ≡ true → (1 ≤ k) × (k ≤ length all)) (sym c.of-dependences.ensures) (needs-range block n (omega arith) (omega arith));
    }

pub loop-position-preserved : goal.loop-position-preserved
loop-position-preserved c =
    let all = c.of-dependences.result in
    let direct = c.loop-position.direct.items in
    let here : ℕ = c.loop-position.position in
    let more = direct ++ c.direct_needs.result ∷ [] in
    let set : (i : ℕ) → i < here + 1 → (m : ℕ) → has m (numbers_in (get_or more i no_set)) ≡ is_direct all m (i + 1) = λ i below m.
    elim (cases_lt i here) [
      | inl before ↦ ap (λ (x : Set). has m (numbers_in x)) (get_or_append_left direct (c.direct_needs.result ∷ []) no_set i (omega (arith, before, c.loop-position.invariant.count))) ∙ c.loop-position.invariant.direct i before m
      | inr past ↦
          let last : i ≡ length direct = omega (arith, below, past, c.loop-position.invariant.count) in
          let one : i ≡ here = omega (arith, below, past) in
          ap (λ (j : ℕ). has m (numbers_in (get_or more j no_set))) last
          ∙ (ap (λ (x : Set). has m (numbers_in x)) (get_or-append_seam direct c.direct_needs.result [] no_set)
          ∙ (c.direct_needs.ensures m ∙ ap (λ (j : ℕ). is_direct all m (j + 1)) (sym one)))
    ] in
    record {
      direct = subst (λ (sets : List Set). (i : ℕ) → i < here + 1 → (m : ℕ) → has m (numbers_in (get_or sets i no_set)) ≡ is_direct all m (i + 1)) (sym c.push.ensures.items) set;
      count = omega arith;
    }

pub loop-position-2-preserved : goal.loop-position-2-preserved
loop-position-2-preserved c =
    let all = c.of-dependences.result in
    let i : ℕ = c.loop-position-2.position in
    let direct = c.loop-position.direct.items in
    let count : length direct ≡ length all = omega (arith, c.loop-position.invariant.count, ap (λ (ns : List (List ℕ)). length ns) c.of-dependences.ensures, count-needs (instrs_of c.args.block.now)) in
    let found : numbers_in c.opened_by.result ≡ opens all (i + 1) =
    c.opened_by.ensures
    ∙ (ap (λ (sets : List Set). filter (λ m. has (i + 1) (numbers_in (get_or sets (m - 1) no_set))) (rising (length sets) 1)) c.as_slice.ensures.value
    ∙ opens-from all direct (i + 1) count (λ j below. c.loop-position.invariant.direct j (omega (arith, below, c.loop-position.invariant.count)))) in
    record {
      opened =
          ap (map numbers_in) c.push-in-loop-position-2.ensures.items
          ∙ (map-append numbers_in c.loop-position-2.opened.items (c.opened_by.result ∷ [])
          ∙ (ap (λ xs. xs ++ numbers_in c.opened_by.result ∷ []) c.loop-position-2.invariant.opened
          ∙ (ap (λ ns. map (opens all) (rising i 1) ++ ns ∷ []) found
          ∙ (sym (map-append (opens all) (rising i 1) ((i + 1) ∷ []))
          ∙ ap (map (opens all)) (sym (rising-more i))))));
      count = omega arith;
    }
