-- What is kept of an input, as one call of the reader more brings bytes.
use Rattle.std.proofs.Common.{◌≡◌, ℕ, List, [], ◌++◌, Option, inl, inr, append_assoc, refl, ap, sym, subst, ◌∙◌, append-nil}
use Rattle.s66_program.specs.{IsFull, IsKeptInput, Puts}

pub kept-more : (most : Option ℕ) (input bytes old new : List ℕ) → IsKeptInput most input old → Puts most bytes old new → IsKeptInput most (input ++ bytes) new
kept-more most input bytes old new (rest, is, inl none) (inl (room, more)) =
    let whole : input ≡ old = is ∙ ap (λ r. old ++ r) none ∙ append-nil old in
    ([], ap (λ l. l ++ bytes) whole ∙ sym more ∙ sym (append-nil new), inl refl)
kept-more most input bytes old new (rest, is, inr full) (inl (room, more)) = absurd (room full)
kept-more most input bytes old new (rest, is, which) (inr (full, same)) =
    (rest ++ bytes, ap (λ l. l ++ bytes) is ∙ append_assoc old rest bytes ∙ ap (λ l. l ++ (rest ++ bytes)) (sym same), inr (subst (IsFull most) (sym same) full))
