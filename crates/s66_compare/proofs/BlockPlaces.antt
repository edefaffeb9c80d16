-- What is said of an order that isn't legal, by whether texts are asked for and the new block is there.
use Rattle.std.proofs.Common.{ℕ, zero, suc, ◌≡◌, ◌≤◌, ◌<◌, ◌++◌, ◌∙◌, Bool, true, false, Option, None, Some, List, [], ◌∷◌, length, refl, ap, ap₂, sym, arith, codes, decimal, slice_get}
use Rattle.std.proofs.Common.{slice_index_or}
use Rattle.s66_line.specs.{Block}
use Rattle.s66_compare.specs.{broken_text, not_legal_text}

slice-none : (blocks : List Block) (i : ℕ) → length blocks ≤ i → slice_get blocks i ≡ None
slice-none [] zero past = refl
slice-none [] (suc i) past = refl
slice-none (b ∷ blocks) zero past = absurd (omega (arith, past))
slice-none (b ∷ blocks) (suc i) past = slice-none blocks i (omega (arith, past))

slice-some : (blocks : List Block) (i : ℕ) (d : Block) → i < length blocks → slice_get blocks i ≡ Some (slice_index_or blocks i d)
slice-some [] i d below = absurd (omega (arith, below))
slice-some (b ∷ blocks) zero d below = refl
slice-some (b ∷ blocks) (suc i) d below = slice-some blocks i d (omega (arith, below))

by-number : (block : Option Block) (order : List ℕ) (number missing : ℕ) → not_legal_text false block order number missing ≡ codes " NOT LEGAL " ++ decimal number ++ codes " AFTER " ++ decimal missing
by-number None order number missing = refl
by-number (Some block) order number missing = refl

pub told_by_number : (texts : Bool) (block : Option Block) (order : List ℕ) (number missing : ℕ) → texts ≡ false →
    codes " NOT LEGAL " ++ decimal number ++ codes " AFTER " ++ decimal missing ≡ not_legal_text texts block order number missing
told_by_number texts block order number missing is = sym (ap (λ t. not_legal_text t block order number missing) is ∙ by-number block order number missing)

pub told_past : (texts : Bool) (blocks : List Block) (place : ℕ) (order : List ℕ) (number missing : ℕ) → texts ≡ true → length blocks ≤ place →
    codes " NOT LEGAL " ++ decimal number ++ codes " AFTER " ++ decimal missing ≡ not_legal_text texts (slice_get blocks place) order number missing
told_past texts blocks place order number missing is past = sym (ap₂ (λ t block. not_legal_text t block order number missing) is (slice-none blocks place past))

pub told_by_text : (texts : Bool) (blocks : List Block) (place : ℕ) (block : Block) (order : List ℕ) (number missing : ℕ) → texts ≡ true → place < length blocks → block ≡ slice_index_or blocks place block →
    broken_text block order number missing ≡ not_legal_text texts (slice_get blocks place) order number missing
told_by_text texts blocks place block order number missing is below at =
    ap (λ b. broken_text b order number missing) at ∙ sym (ap₂ (λ t b. not_legal_text t b order number missing) is (slice-some blocks place block below))
