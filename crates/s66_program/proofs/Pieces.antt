-- A line of `deps` or of `sum` is the text of its pieces, appended one after the other.
use Rattle.std.proofs.Common.{ℕ, List, ◌≡◌, ◌++◌, ◌∙◌, ap, append_assoc}

pub regrouped : (out a b c d e f : List ℕ) → out ++ a ++ b ++ c ++ d ++ e ++ f ≡ out ++ (a ++ b ++ c ++ d ++ e ++ f)
regrouped out a b c d e f =
    let three = append_assoc out a b in
    let four = ap (λ xs. xs ++ c) three ∙ append_assoc out (a ++ b) c in
    let five = ap (λ xs. xs ++ d) four ∙ append_assoc out (a ++ b ++ c) d in
    let six = ap (λ xs. xs ++ e) five ∙ append_assoc out (a ++ b ++ c ++ d) e in
    ap (λ xs. xs ++ f) six ∙ append_assoc out (a ++ b ++ c ++ d ++ e) f

pub gathered : (out a b c d : List ℕ) → out ++ a ++ b ++ c ++ d ≡ out ++ (a ++ b ++ c ++ d)
gathered out a b c d =
    let three = append_assoc out a b in
    let four = ap (λ xs. xs ++ c) three ∙ append_assoc out (a ++ b) c in
    ap (λ xs. xs ++ d) four ∙ append_assoc out (a ++ b ++ c) d
