-- Texts that pass the test one after the other are all those of instructions.
use Rattle.std.proofs.Common.{ℕ, ◌+◌, ◌≡◌, ◌≤◌, ◌<◌, ◌∙◌, List, ◌∷◌, inl, inr, length, map, drop, ap, sym, subst, slice_index_or, Global, Vec}
use Rattle.std.proofs.lemmas.List.{at_drop_all, drop_more}
use Rattle.s66_isa.specs.{Among}
use Rattle.s66_line.specs.{IsInstruction}

abbrev pub AreInstructions : List (Vec ℕ Global) → Type 0
AreInstructions texts = (text : List ℕ) → Among text (map (λ (t : Vec ℕ Global). t.items) texts) → IsInstruction text

pub instructions-here : (texts : List (Vec ℕ Global)) (i : ℕ) (t : Vec ℕ Global) → i < length texts → t ≡ slice_index_or texts i t → IsInstruction t.items → AreInstructions (drop (i + 1) texts) →
    AreInstructions (drop i texts)
instructions-here texts i t within at is rest =
    subst AreInstructions (ap (λ x. x ∷ drop (i + 1) texts) at ∙ sym (drop_more texts i t within))
    (λ text among. elim among [
      | inl here ↦ subst IsInstruction (sym here) is
      | inr past ↦ rest text past
    ])

pub instructions-past : (texts : List (Vec ℕ Global)) (i : ℕ) → length texts ≤ i → AreInstructions (drop i texts)
instructions-past texts i past = subst AreInstructions (sym (at_drop_all (λ ts. ts) texts i past)) (λ text among. absurd among)
