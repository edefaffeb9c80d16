-- What an accepted comparison says of the blocks of two sources, and how many rows it has.
use Rattle.std.proofs.Common.{ℕ, ◌+◌, ◌*◌, ◌≡◌, ◌≤◌, Bool, true, true≢false, List, [], ◌∷◌, Option, None, Some, length, refl, ap, sym, subst, arith, inl, inr, Ok, is_none}
use Rattle.std.proofs.lemmas.Bool.{and_parts}
use Rattle.s66_isa.specs.{Among, every, Profile}
use Rattle.s66_line.specs.{Block, instrs_of}
use Rattle.s66_source.specs.{frame_of, Reading, source_of, SOURCE_LINES_LIMIT}
use Rattle.s66_source.proofs.FewBlocks.{few-blocks}
use Rattle.s66_source.proofs.SpelledLaw.{spelled}
use Rattle.s66_compare.specs.{IsCompared, first_difference, AreReordered, IsReordered, KeepsSource, paired, AreAligned, both, is_legal, rows_by, rows_of, is_kept, verdict_of, Step, Added, Gone, Pair}
use Rattle.s66_compare.specs.{Row}
use Rattle.s66_compare.specs.declared.difference.Difference.{Difference}
use Rattle.s66_compare.proofs.Differences.{none-same}
use Rattle.s66_compare.proofs.Legal.{fresh-within, kept-legal, paired-fresh}
use Rattle.s66_compare.proofs.Meanings.{IsSpelled, reordered-meaning}

-- EACH BLOCK

reordered : (old new : Block) → IsSpelled old → IsSpelled new → is_kept (verdict_of old new (paired old new)) ≡ true → IsReordered old new
reordered old new is spelled kept =
    let (legal, texts) = kept-legal old new kept in
    record {
      order = paired old new;
      legal = legal;
      texts = texts;
      meaning = reordered-meaning old new (paired old new) is spelled (fresh-within (length (instrs_of old)) [] (paired old new) (paired-fresh old new)) legal texts;
    }

all-reordered : (p : Profile) (old new : List Block) → ((block : Block) → Among block old → IsSpelled block) → ((block : Block) → Among block new → IsSpelled block) → every is_legal (rows_of p old new) ≡ true → AreReordered old new
all-reordered p [] [] is spelled legal = tt
all-reordered p [] (w ∷ ws) is spelled legal = absurd (true≢false (sym legal))
all-reordered p (o ∷ os) [] is spelled legal = absurd (true≢false (sym legal))
all-reordered p (o ∷ os) (w ∷ ws) is spelled legal =
    let both = and_parts (is_kept (verdict_of o w (paired o w))) (every is_legal (rows_of p os ws)) legal in
    (reordered o w (is o (inl refl)) (spelled w (inl refl)) both.0, all-reordered p os ws (λ block among. is block (inr among)) (λ block among. spelled block (inr among)) both.1)

none-is : (d : Option Difference) → is_none d ≡ true → d ≡ None
none-is None is = refl
none-is (Some d) is = absurd (true≢false (sym is))

-- where all rows are legal, the blocks are paired by number
by-number : (p : Profile) (steps : List Step) (old new : List Block) → every is_legal (rows_by p steps old new) ≡ true → rows_by p steps old new ≡ rows_of p old new
by-number p [] old new legal = refl
by-number p (Pair ∷ steps) [] new legal = by-number p steps [] new legal
by-number p (Pair ∷ steps) (o ∷ os) [] legal = by-number p steps (o ∷ os) [] legal
by-number p (Pair ∷ steps) (o ∷ os) (w ∷ ws) legal =
    let rest = and_parts (is_kept (verdict_of o w (paired o w))) (every is_legal (rows_by p steps os ws)) legal in
    ap (λ rows. both p o w ∷ rows) (by-number p steps os ws rest.1)
by-number p (Gone ∷ steps) [] new legal = by-number p steps [] new legal
by-number p (Gone ∷ steps) (o ∷ os) new legal = absurd (true≢false (sym legal))
by-number p (Added ∷ steps) [] [] legal = by-number p steps [] [] legal
by-number p (Added ∷ steps) (o ∷ os) [] legal = by-number p steps (o ∷ os) [] legal
by-number p (Added ∷ steps) [] (w ∷ ws) legal = absurd (true≢false (sym legal))
by-number p (Added ∷ steps) (o ∷ os) (w ∷ ws) legal = absurd (true≢false (sym legal))

pub keeps-source : (p : Profile) (texts : Bool) (old new : Reading) (text : List ℕ) → IsCompared p texts old new text true → KeepsSource old new
keeps-source p texts old new text (blocks, again, read, other, (rows, (steps, by, number), (is, accepted))) =
    let difference = first_difference (frame_of old) (frame_of new) in
    let kept = and_parts (every is_legal rows) (is_none difference) (sym accepted) in
    let legal : every is_legal (rows_by p steps blocks again) ≡ true = subst (λ rs. every is_legal rs ≡ true) by kept.0 in
    let numbered : every is_legal (rows_of p blocks again) ≡ true = subst (λ rs. every is_legal rs ≡ true) (by-number p steps blocks again legal) legal in (
      blocks,
      again,
      read,
      other,
      (all-reordered p blocks again (λ block among. spelled old blocks block read among) (λ block among. spelled new again block other among) numbered, none-same (frame_of old) (frame_of new) (none-is difference kept.1)),
    )

-- HOW MANY

rows-few : (p : Profile) (old new : List Block) → length (rows_of p old new) ≤ length old + length new
rows-few p [] [] = omega arith
rows-few p [] (w ∷ ws) = omega (arith, rows-few p [] ws)
rows-few p (o ∷ os) [] = omega (arith, rows-few p os [])
rows-few p (o ∷ os) (w ∷ ws) = omega (arith, rows-few p os ws)

few-by : (p : Profile) (steps : List Step) (old new : List Block) → length (rows_by p steps old new) ≤ length old + length new
few-by p [] old new = rows-few p old new
few-by p (Pair ∷ steps) [] new = few-by p steps [] new
few-by p (Pair ∷ steps) (o ∷ os) [] = few-by p steps (o ∷ os) []
few-by p (Pair ∷ steps) (o ∷ os) (w ∷ ws) = omega (arith, few-by p steps os ws)
few-by p (Gone ∷ steps) [] new = few-by p steps [] new
few-by p (Gone ∷ steps) (o ∷ os) new = omega (arith, few-by p steps os new)
few-by p (Added ∷ steps) [] [] = few-by p steps [] []
few-by p (Added ∷ steps) (o ∷ os) [] = few-by p steps (o ∷ os) []
few-by p (Added ∷ steps) [] (w ∷ ws) = omega (arith, few-by p steps [] ws)
few-by p (Added ∷ steps) (o ∷ os) (w ∷ ws) = omega (arith, few-by p steps (o ∷ os) ws)

pub few-rows : (p : Profile) (old new : Reading) (blocks again : List Block) (rows : List Row) → source_of old ≡ Ok blocks → source_of new ≡ Ok again → AreAligned p blocks again rows → length rows ≤ 2 * SOURCE_LINES_LIMIT
few-rows p old new blocks again rows read other (steps, by, number) =
    let few : length rows ≤ length blocks + length again = subst (λ (rs : List Row). length rs ≤ length blocks + length again) (sym by) (few-by p steps blocks again) in
    omega (arith, few, few-blocks old blocks read, few-blocks new again other)
