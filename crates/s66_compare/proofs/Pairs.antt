-- What `paired` makes of the instructions of two blocks, step by step.
use Rattle.std.proofs.Common.{ℕ, zero, suc, ◌+◌, ◌-◌, ◌≡◌, ◌≤◌, ◌<◌, ◌∙◌, false, List, [], ◌∷◌, ◌++◌, length, map, take, drop, get_or, refl, ap, sym, arith, ◌==◌, ne_eqb}
use Rattle.std.proofs.lemmas.List.{drop_all, drop_more, take_more}
use Rattle.s66_isa.specs.{rising, Instr}
use Rattle.s66_isa.proofs.Lists.{rising-next}
use Rattle.s66_line.specs.{Block, instrs_of, whole_text_of}
use Rattle.s66_compare.specs.{AreWithin, partner, partners, by_order, first_missing, BlockVerdict, NotLegal}
use Rattle.s66_compare.proofs.Firsts.{rising_none}

-- NUMBERS OF A BLOCK

pub within_push : (count : ℕ) (ns : List ℕ) (n : ℕ) → AreWithin count ns → 1 ≤ n → n ≤ count → AreWithin count (ns ++ n ∷ [])
within_push count [] n within least most = (least, most, tt)
within_push count (m ∷ ns) n within least most = (within.0, within.1, within_push count ns n within.2 least most)

pub within_at : (count : ℕ) (ns : List ℕ) (i d : ℕ) → AreWithin count ns → i < length ns → (1 ≤ get_or ns i d) × (get_or ns i d ≤ count)
within_at count [] i d within below = absurd (omega (arith, below))
within_at count (n ∷ ns) zero d within below = (within.0, within.1)
within_at count (n ∷ ns) (suc i) d within below = within_at count ns i d within.2 (omega (arith, below))

-- ONE TEXT after the other

abbrev pub texts_from : Block → ℕ → List (List ℕ)
texts_from block i = map (whole_text_of block) (rising (length (instrs_of block) - i) (i + 1))

pub partners_next : (old new : Block) (taken : List ℕ) (i n : ℕ) → i < length (instrs_of new) → n ≡ partner old taken (whole_text_of new (i + 1)) → 1 ≤ n →
    partners old taken (texts_from new i) ≡ partners old (taken ++ n ∷ []) (texts_from new (i + 1))
partners_next old new taken i n below is some =
    let other : (partner old taken (whole_text_of new (i + 1)) == 0) ≡ false = ne_eqb _ 0 (λ none. absurd (omega (arith, is, none, some))) in
    ap (λ ns. partners old taken (map (whole_text_of new) ns)) (rising-next (length (instrs_of new)) i below)
    ∙ rw other (ap (λ k. partners old (taken ++ k ∷ []) (texts_from new (i + 1))) (sym is))

pub partners_stop : (old new : Block) (taken : List ℕ) (i : ℕ) → i < length (instrs_of new) → partner old taken (whole_text_of new (i + 1)) ≡ 0 → partners old taken (texts_from new i) ≡ taken
partners_stop old new taken i below none = ap (λ ns. partners old taken (map (whole_text_of new) ns)) (rising-next (length (instrs_of new)) i below) ∙ rw none refl

pub partners_end : (old new : Block) (taken : List ℕ) (i : ℕ) → length (instrs_of new) ≤ i → partners old taken (texts_from new i) ≡ taken
partners_end old new taken i past = ap (λ ns. partners old taken (map (whole_text_of new) ns)) (rising_none (length (instrs_of new)) i past)

-- ONE NUMBER after the other

pub order_next : (block : List Instr) (kept : BlockVerdict) (ns : List ℕ) (i d : ℕ) → i < length ns → first_missing block (take i ns) (get_or ns i d) ≡ 0 →
    by_order block kept (take i ns) (drop i ns) ≡ by_order block kept (take (i + 1) ns) (drop (i + 1) ns)
order_next block kept ns i d below none =
    ap (by_order block kept (take i ns)) (drop_more ns i d below) ∙ rw none (ap (λ before. by_order block kept before (drop (i + 1) ns)) (sym (take_more ns i d below)))

pub order_stop : (block : List Instr) (kept : BlockVerdict) (ns : List ℕ) (i d a : ℕ) → i < length ns → a ≡ first_missing block (take i ns) (get_or ns i d) → 1 ≤ a →
    by_order block kept (take i ns) (drop i ns) ≡ NotLegal (get_or ns i d) a
order_stop block kept ns i d a below is some =
    let other : (first_missing block (take i ns) (get_or ns i d) == 0) ≡ false = ne_eqb _ 0 (λ none. absurd (omega (arith, is, none, some))) in
    ap (by_order block kept (take i ns)) (drop_more ns i d below) ∙ rw other (ap (NotLegal (get_or ns i d)) (sym is))

pub order_end : (block : List Instr) (kept : BlockVerdict) (ns : List ℕ) (i : ℕ) → length ns ≤ i → by_order block kept (take i ns) (drop i ns) ≡ kept
order_end block kept ns i past = ap (by_order block kept (take i ns)) (drop_all i ns past)
