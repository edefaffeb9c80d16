-- What is kept of each block is kept of all, and makes the whole.
use Rattle.std.proofs.Common.{ℕ, suc, ◌+◌, ◌≡◌, ◌≤◌, ◌<◌, ◌∙◌, Bool, List, [], ◌∷◌, ◌++◌, Ok, Option, append_assoc, arith, drop, length, refl, sym, subst, ap, ap₂, slice_index_or, append-nil}
use Rattle.std.proofs.lemmas.List.{at_drop_all, drop_more}
use Rattle.s66_isa.specs.{Profile}
use Rattle.s66_command.specs.{Strategy}
use Rattle.s66_line.specs.{Block}
use Rattle.s66_source.specs.{Reading, source_of}
use Rattle.s66_answer.specs.{Answer, AreAnswers, Status, IsOfAnswers, all_parts, bounded_if, status_by, status_of, before, shown, AreAnswered, AreKept, IsKept, IsKeptAt, bounded_in, parts_in}
use Rattle.s66_answer.specs.{KeptBlock}

length-answers : (strategy : Strategy) (p : Profile) (blocks : List Block) (answers : List Answer) → AreAnswers strategy p blocks answers → length blocks ≡ length answers
length-answers strategy p [] [] are = refl
length-answers strategy p [] (a ∷ answers) are = absurd are
length-answers strategy p (block ∷ blocks) [] are = absurd are
length-answers strategy p (block ∷ blocks) (a ∷ answers) are = ap suc (length-answers strategy p blocks answers are.1)

module _ {X : Type 0} (part : ℕ → Block → Answer → List X) (strategy : Strategy) (p : Profile) where
  -- ONE AFTER THE OTHER

  -- it is kept of the blocks before a place, and whatever is kept of the others may follow it
  abbrev pub GoesOnAt : ℕ → List Block → ℕ → List X → ℕ → Type 0
  GoesOnAt n blocks i kept bounded =
      (rest : List X) (others : ℕ) → AreKept part strategy p (n + i) (drop i blocks) rest others → AreKept part strategy p n blocks (kept ++ rest) (bounded + others)

  pub begins : (n : ℕ) (blocks : List Block) (kept : List X) → kept ≡ [] → GoesOnAt n blocks 0 kept 0
  begins n blocks kept none rest others are =
      let from : n + 0 ≡ n = omega arith in
      let sums : others ≡ 0 + others = omega arith in
      subst (λ xs. AreKept part strategy p n blocks (xs ++ rest) (0 + others)) (sym none)
      (subst (AreKept part strategy p n blocks rest) sums (subst (λ k. AreKept part strategy p k blocks rest others) from are))

  pub goes-on : (n : ℕ) (blocks : List Block) (i : ℕ) (block : Block) (kept new : List X) (bounded more : ℕ) (own : Bool) → i < length blocks → block ≡ slice_index_or blocks i block →
      IsKept part strategy p (n + i + 1) block kept new own → more ≡ bounded + bounded_if own → GoesOnAt n blocks i kept bounded → GoesOnAt n blocks (i + 1) new more
  goes-on n blocks i block kept new bounded more own within at (a, is, pushed, stated) counted so_far rest others (answers, are, rest-is, all) =
      let left : block ∷ drop (i + 1) blocks ≡ drop i blocks = ap (λ b. b ∷ drop (i + 1) blocks) at ∙ sym (drop_more blocks i block within) in
      let mine = part (n + i + 1) block a in
      let from : n + (i + 1) ≡ n + i + 1 = omega arith in
      let there : AreKept part strategy p (n + i) (drop i blocks) (mine ++ rest) (bounded_if own + others) =
      subst (λ bs. AreKept part strategy p (n + i) bs (mine ++ rest) (bounded_if own + others)) left
      (a ∷ answers, (is, are), ap (λ xs. mine ++ xs) (rest-is ∙ ap (λ k. all_parts part k (drop (i + 1) blocks) answers) from), ap₂ (λ x y. bounded_if x + y) stated all)
      in
      let joined : new ++ rest ≡ kept ++ (mine ++ rest) = ap (λ xs. xs ++ rest) pushed ∙ append_assoc kept mine rest in
      let sums : bounded + (bounded_if own + others) ≡ more + others = omega (arith, counted) in
      subst (AreKept part strategy p n blocks (new ++ rest)) sums
      (subst (λ xs. AreKept part strategy p n blocks xs (bounded + (bounded_if own + others))) (sym joined) (so_far (mine ++ rest) (bounded_if own + others) there))

  pub all-kept : (n : ℕ) (blocks : List Block) (i : ℕ) (kept : List X) (bounded : ℕ) → length blocks ≤ i → GoesOnAt n blocks i kept bounded → AreKept part strategy p n blocks kept bounded
  all-kept n blocks i kept bounded past so_far =
      let none : drop i blocks ≡ [] = at_drop_all (λ bs. bs) blocks i past in
      let empty : AreKept part strategy p (n + i) [] [] 0 = ([], tt, refl, refl) in
      let (answers, are, is, all) = so_far [] 0 (subst (λ bs. AreKept part strategy p (n + i) bs [] 0) (sym none) empty) in
      (answers, are, sym (append-nil kept) ∙ is, omega (arith, all))

  -- EACH BLOCK BY ITSELF

  kept-more : (n : ℕ) (block : Block) (blocks : List Block) (own rest : List X) (best : Bool) (others : ℕ) → IsKept part strategy p (n + 1) block [] own best →
      AreKept part strategy p (n + 1) blocks rest others → AreKept part strategy p n (block ∷ blocks) (own ++ rest) (bounded_if best + others)
  kept-more n block blocks own rest best others (a, is, made, stated) (answers, are, all, told) =
      (a ∷ answers, (is, are), ap₂ (λ xs ys. xs ++ ys) made all, ap₂ (λ x y. bounded_if x + y) stated told)

  pub kept-each : (n : ℕ) (blocks : List Block) (each : List (KeptBlock X)) → length each ≡ length blocks →
      ((i : ℕ) (d : KeptBlock X) → i < length each → IsKeptAt part strategy p n blocks i (slice_index_or each i d)) → AreKept part strategy p n blocks (parts_in each) (bounded_in each)
  kept-each n [] [] same at = ([], tt, refl, refl)
  kept-each n [] (kept ∷ each) same at = absurd (omega (arith, same))
  kept-each n (block ∷ blocks) [] same at = absurd (omega (arith, same))
  kept-each n (block ∷ blocks) (kept ∷ each) same at =
      let first : n + 0 + 1 ≡ n + 1 = omega arith in
      kept-more n block blocks kept.parts.items (parts_in each) kept.is_best (bounded_in each)
      (subst (λ k. IsKept part strategy p k block [] kept.parts.items kept.is_best) first (at 0 kept (omega arith) block))
      (kept-each (n + 1) blocks each (omega (arith, same)) (λ i d within e.
      let mine : slice_index_or (kept ∷ each) (i + 1) d ≡ slice_index_or each i d = grind arith in
      let its : slice_index_or (block ∷ blocks) (i + 1) e ≡ slice_index_or blocks i e = grind arith in
      let place : n + (i + 1) + 1 ≡ n + 1 + i + 1 = omega arith in
      let own = slice_index_or each i d in
      subst (λ k. IsKept part strategy p k (slice_index_or blocks i e) [] own.parts.items own.is_best) place
      (subst (λ b. IsKept part strategy p (n + (i + 1) + 1) b [] own.parts.items own.is_best) its
      (subst (λ (k : KeptBlock X). IsKept part strategy p (n + (i + 1) + 1) (slice_index_or (block ∷ blocks) (i + 1) e) [] k.parts.items k.is_best) mine (at (i + 1) d (omega (arith, within)) e)))))

  -- THE BLOCKS THAT ARE SHOWN

  pub answered : (only : Option ℕ) (source : Reading) (all blocks : List Block) (n : ℕ) (kept : List X) (bounded : ℕ) (status : Status) → source_of source ≡ Ok all → blocks ≡ shown only all → n ≡ before only →
      status ≡ status_by bounded (length blocks) → AreKept part strategy p n blocks kept bounded → AreAnswered part strategy p only source kept status
  answered only source all blocks n kept bounded status read are-shown are-before ends are =
      let (answers, given, is, stated) = subst (λ k. AreKept part strategy p k (shown only all) kept bounded) are-before (subst (λ (bs : List Block). AreKept part strategy p n bs kept bounded) are-shown are) in
      let many : length blocks ≡ length answers = ap length are-shown ∙ length-answers strategy p (shown only all) answers given in
      (all, read, (answers, given, is, ends ∙ ap₂ status_by stated many))

  -- THE WHOLE that is made of the parts

  abbrev pub IsStep : (ℕ → List Block → List Answer → List X) → Type 0
  IsStep whole = (n : ℕ) (b : Block) (bs : List Block) (a : Answer) (more : List Answer) → whole n (b ∷ bs) (a ∷ more) ≡ part (n + 1) b a ++ whole (n + 1) bs more

  parts-whole : (whole : ℕ → List Block → List Answer → List X) → ((n : ℕ) → whole n [] [] ≡ []) → IsStep whole →
      (n : ℕ) (blocks : List Block) (answers : List Answer) → AreAnswers strategy p blocks answers → all_parts part n blocks answers ≡ whole n blocks answers
  parts-whole whole ends step n [] [] are = sym (ends n)
  parts-whole whole ends step n [] (a ∷ answers) are = absurd are
  parts-whole whole ends step n (block ∷ blocks) [] are = absurd are
  parts-whole whole ends step n (block ∷ blocks) (a ∷ answers) are =
      ap (λ xs. part (n + 1) block a ++ xs) (parts-whole whole ends step (n + 1) blocks answers are.1) ∙ sym (step n block blocks a answers)

  pub kept-whole : (whole : ℕ → List Block → List Answer → List X) → ((n : ℕ) → whole n [] [] ≡ []) → IsStep whole → (only : Option ℕ) (source : Reading) (parts : List X) (status : Status) →
      AreAnswered part strategy p only source parts status → IsOfAnswers (λ blocks answers. parts ≡ whole (before only) blocks answers) strategy p only source status
  kept-whole whole ends step only source parts status (blocks, read, (answers, are, is, stated)) =
      (blocks, read, (answers, are, is ∙ parts-whole whole ends step (before only) (shown only blocks) answers are, stated))

-- it is of the blocks that the source was read as
pub of-read : (Is : List Block → List Answer → Type 0) (strategy : Strategy) (p : Profile) (only : Option ℕ) (source : Reading) (status : Status) (blocks : List Block) → source_of source ≡ Ok blocks → IsOfAnswers Is strategy p only source status →
    (answers : List Answer) × AreAnswers strategy p (shown only blocks) answers × Is (shown only blocks) answers × (status ≡ status_of answers)
of-read Is strategy p only source status blocks read (others, read-too, given) =
    let same : others ≡ blocks = cc in
    subst (λ bs. (answers : List Answer) × AreAnswers strategy p (shown only bs) answers × Is (shown only bs) answers × (status ≡ status_of answers)) same given
