-- The text of a sum line or of a broken pair is that of its pieces, appended one after the other.
use Rattle.std.proofs.Common.{ℕ, List, ◌≡◌, ◌++◌, ◌∙◌, ap, append_assoc}

pub three-pieces : (out a b c : List ℕ) → out ++ a ++ b ++ c ≡ out ++ (a ++ b ++ c)
three-pieces out a b c = ap (λ xs. xs ++ c) (append_assoc out a b) ∙ append_assoc out (a ++ b) c

pub five-pieces : (out a b c d e : List ℕ) → out ++ a ++ b ++ c ++ d ++ e ≡ out ++ (a ++ b ++ c ++ d ++ e)
five-pieces out a b c d e =
    ap (λ xs. xs ++ d ++ e) (three-pieces out a b c)
    ∙ ap (λ xs. xs ++ e) (append_assoc out (a ++ b ++ c) d)
    ∙ append_assoc out (a ++ b ++ c ++ d) e
