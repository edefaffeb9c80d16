-- The texts of a block's instructions, made or appended one after the other.
use Rattle.std.proofs.Common.{ℕ, ◌+◌, ◌-◌, ◌≡◌, ◌<◌, ◌∙◌, List, [], ◌∷◌, ◌++◌, inl, inr, length, map, ap, sym, subst, arith, append_assoc}
use Rattle.std.proofs.lemmas.Bool.{cases_lt}
use Rattle.s66_isa.specs.{rising, instr_at}
use Rattle.s66_isa.proofs.Lists.{rising-next}
use Rattle.s66_line.specs.{instrs_of, text_of, Block, IsTextOf}
use Rattle.s66_answer.specs.{IsSpelledTo, texts_of}

pub spelled-more : (block : Block) (k : ℕ) → IsSpelledTo block k → IsTextOf (text_of block (k + 1)) (instr_at (instrs_of block) (k + 1)) → IsSpelledTo block (k + 1)
spelled-more block k spelled is n least most =
    elim (cases_lt n (k + 1)) [
      | inl before ↦ spelled n least (omega (arith, before))
      | inr past ↦ (let here : n ≡ k + 1 = omega (arith, past, most) in subst (λ m. IsTextOf (text_of block m) (instr_at (instrs_of block) m)) (sym here) is)
    ]

-- one text more
pub texts-more : (block : Block) (i : ℕ) (texts new : List (List ℕ)) (text : List ℕ) → i < length (instrs_of block) →
    texts ++ map (text_of block) (rising (length (instrs_of block) - i) (i + 1)) ≡ texts_of block → new ≡ texts ++ text ∷ [] → text ≡ text_of block (i + 1) →
    new ++ map (text_of block) (rising (length (instrs_of block) - (i + 1)) (i + 1 + 1)) ≡ texts_of block
texts-more block i texts new text within so_far pushed is =
    let n = length (instrs_of block) in
    let rest = map (text_of block) (rising (n - (i + 1)) (i + 1 + 1)) in
    let left : map (text_of block) (rising (n - i) (i + 1)) ≡ text_of block (i + 1) ∷ rest = ap (map (text_of block)) (rising-next n i within) in
    ap (λ xs. xs ++ rest) (pushed ∙ ap (λ t. texts ++ t ∷ []) is) ∙ append_assoc texts (text_of block (i + 1) ∷ []) rest ∙ ap (λ xs. texts ++ xs) (sym left) ∙ so_far
