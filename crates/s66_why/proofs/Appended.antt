-- Rows and numbers appended to the text of a chart in a loop: what one round more adds.
use Rattle.std.specs.List.{range_with_len}
use Rattle.std.proofs.Common.{ℕ, suc, ◌+◌, ◌-◌, ◌<◌, ◌≡◌, ◌∙◌, List, ◌++◌, ap, append_assoc, arith, flat_map, sym}

-- the text of the next number, if the texts of the others may follow
pub range-more : (f : ℕ → List ℕ) (count i : ℕ) (all mid new : List ℕ) → i < count → mid ++ flat_map f (range_with_len i (count - i)) ≡ all → new ≡ mid ++ f i →
    new ++ flat_map f (range_with_len (i + 1) (count - (i + 1))) ≡ all
range-more f count i all mid new lt first more =
    let n : count - i ≡ suc (count - (i + 1)) = omega arith in
    let others = flat_map f (range_with_len (i + 1) (count - (i + 1))) in
    ap (λ xs. xs ++ others) more ∙ append_assoc mid (f i) others ∙ sym (ap (λ k. mid ++ flat_map f (range_with_len i k)) n) ∙ first
