-- What `order` wrote, with whichever options, and what is read again of it, compared with the source.
use Rattle.std.proofs.Common.{ℕ, ◌≡◌, ◌-◌, ◌∙◌, zero, suc, Bool, true, false, ◌&&◌, if◌then◌else◌, List, [], ◌∷◌, ◌++◌, Option, None, Some, drop, length, replicate, take, refl, sym, ap, ap₂, subst}
use Rattle.std.proofs.Common.{arith, inl, inr, Ok, is_none}
use Rattle.std.proofs.lemmas.List.{length-map}
use Rattle.s66_isa.specs.{Among, every, Profile}
use Rattle.s66_command.specs.{OrderStyle, Strategy}
use Rattle.s66_line.specs.{Block, Entry, instrs_of}
use Rattle.s66_source.specs.{frame_of, halves_of, Reading, Placed, source_of}
use Rattle.s66_source.specs.Halves.{Halves}
use Rattle.s66_source.proofs.PrintedLines.{same-blocks}
use Rattle.s66_source.proofs.SourceAgain.{read-again}
use Rattle.s66_source.proofs.SpelledLaw.{spelled}
use Rattle.s66_compare.specs.{IsCompared, compared_text, is_accepted, first_difference, shapes, is_legal, rows_of}
use Rattle.s66_compare.specs.declared.difference.Difference.{Difference}
use Rattle.s66_compare.proofs.FrameAgain.{frame-again, same-none}
use Rattle.s66_compare.proofs.Meanings.{IsSpelled}
use Rattle.s66_compare.proofs.PlacedPairs.{AreLegal, IsLegalIf, given-legal, legal-complete, legal-given, legal-standing}
use Rattle.s66_answer.specs.{Status, Done, Denied, Answer, AreAnswers, IsAnswer, before, shown}
use Rattle.s66_answer.proofs.EveryAnswer.{answer-legal}
use Rattle.s66_program.specs.{IsCompareOutput, IsOrdered, all_given, columns_by, given_by, placed_by, rise_from}
use Rattle.s66_program.proofs.PlacedAnswers.{legal-within}

-- AN ORDER BY AN ANSWER is legal, and each number of it is one of its block's

legal-by : (strategy : Strategy) (p : Profile) (style : OrderStyle) (block : Block) (a : Answer) → IsAnswer strategy p block a → IsLegalIf block (given_by p style block a)
legal-by strategy p style block a is =
    let legal = answer-legal strategy p block a is in
    let count : length (instrs_of block) ≡ length block.entries = length-map block.entries (λ (e : Entry). e.instr) in
    elim (style.keep && rise_from 1 a.order) as (λ t. IsLegalIf block (if t then None else Some (placed_by p style.trace block a)))
    [ true ↦ tt | false ↦ (legal, λ n among. (let within = legal-within block a.order legal n among in (within.0, omega (arith, within.1, count)))) ]

all-legal : (strategy : Strategy) (p : Profile) (style : OrderStyle) (blocks : List Block) (answers : List Answer) → ((block : Block) → Among block blocks → IsSpelled block) → AreAnswers strategy p blocks answers → AreLegal blocks (all_given p style blocks answers)
all-legal strategy p style [] [] spells are = tt
all-legal strategy p style [] (a ∷ answers) spells are = absurd are
all-legal strategy p style (block ∷ blocks) [] spells are = absurd are
all-legal strategy p style (block ∷ blocks) (a ∷ answers) spells are =
    ((spells block (inl refl), legal-by strategy p style block a are.0), all-legal strategy p style blocks answers (λ other among. spells other (inr among)) are.1)

-- the block behind so many, which stand, as do those behind it
one-legal : (strategy : Strategy) (p : Profile) (style : OrderStyle) (k : ℕ) (blocks : List Block) (answers : List Answer) → ((block : Block) → Among block blocks → IsSpelled block) → AreAnswers strategy p (take 1 (drop k blocks)) answers →
    AreLegal blocks (replicate k None ++ all_given p style (take 1 (drop k blocks)) answers)
one-legal strategy p style zero [] answers spells are = tt
one-legal strategy p style zero (block ∷ blocks) [] spells are = absurd are
one-legal strategy p style zero (block ∷ blocks) (a ∷ []) spells are = ((spells block (inl refl), legal-by strategy p style block a are.0), legal-standing blocks (λ other among. spells other (inr among)))
one-legal strategy p style zero (block ∷ blocks) (a ∷ b ∷ answers) spells are = absurd are.1
one-legal strategy p style (suc k) [] answers spells are = tt
one-legal strategy p style (suc k) (block ∷ blocks) answers spells are = ((spells block (inl refl), tt), one-legal strategy p style k blocks answers (λ other among. spells other (inr among)) are)

shown-legal : (strategy : Strategy) (p : Profile) (style : OrderStyle) (only : Option ℕ) (blocks : List Block) (answers : List Answer) → ((block : Block) → Among block blocks → IsSpelled block) → AreAnswers strategy p (shown only blocks) answers →
    AreLegal blocks (replicate (before only) None ++ all_given p style (shown only blocks) answers)
shown-legal strategy p style None blocks answers spells are = all-legal strategy p style blocks answers spells are
shown-legal strategy p style (Some n) blocks answers spells are = one-legal strategy p style (n - 1) blocks answers spells are

-- WHAT IS WRITTEN with these options

module _ (strategy : Strategy) (p q : Profile) (style : OrderStyle) (only : Option ℕ) (source : Reading) (text : List ℕ) (status : Status) where
  -- each block is the source's in a legal order
  pub blocks-compared : (blocks again : List Block) → IsOrdered strategy p style only source text status → source_of source ≡ Ok blocks → source_of (record { cut = source.cut; text = text }) ≡ Ok again → every is_legal (rows_of q blocks again) ≡ true
  blocks-compared blocks again (found, accepted, (answers, are, is, ends)) read other =
      let given : List (Option Placed) = replicate (before only) None ++ all_given p style (shown only found) answers in
      let legal = shown-legal strategy p style only found answers (λ block among. spelled source found block accepted among) are in
      let there = read-again style.quiet (columns_by style.columns) source found again given accepted (legal-given found given legal) (legal-complete found given legal) (subst (λ t. source_of (record { cut = source.cut; text = t }) ≡ Ok again) is other) in
      subst (λ bs. every is_legal (rows_of q bs again) ≡ true) (same-blocks found blocks (source_of source) accepted read) (given-legal q found again given legal there)

  -- nothing beside the blocks differs
  beside-same : (again : List Block) → IsOrdered strategy p style only source text status → source_of (record { cut = source.cut; text = text }) ≡ Ok again → first_difference (frame_of source) (frame_of (record { cut = source.cut; text = text })) ≡ None
  beside-same again (found, accepted, (answers, are, is, ends)) other =
      let given : List (Option Placed) = replicate (before only) None ++ all_given p style (shown only found) answers in
      let legal = shown-legal strategy p style only found answers (λ block among. spelled source found block accepted among) are in
      same-none (frame_of source) (frame_of (record { cut = source.cut; text = text }))
      (subst (λ t. shapes (frame_of (record { cut = source.cut; text = t })) ≡ shapes (frame_of source)) (sym is)
      (frame-again style.quiet (columns_by style.columns) source found again given accepted (legal-given found given legal) (legal-complete found given legal) (subst (λ t. source_of (record { cut = source.cut; text = t }) ≡ Ok again) is other)))

  all-accepted : (blocks again : List Block) → IsOrdered strategy p style only source text status → source_of source ≡ Ok blocks → source_of (record { cut = source.cut; text = text }) ≡ Ok again →
      is_accepted (rows_of q blocks again) (first_difference (frame_of source) (frame_of (record { cut = source.cut; text = text }))) ≡ true
  all-accepted blocks again is read other = ap₂ (λ (b : Bool) (d : Option Difference). b && is_none d) (blocks-compared blocks again is read other) (beside-same again is other)

  pub order-compared : (texts : Bool) (again : List Block) → IsOrdered strategy p style only source text status → source_of (record { cut = source.cut; text = text }) ≡ Ok again → (compared : List ℕ) × IsCompared q texts source (record { cut = source.cut; text = text }) compared true
  order-compared texts again (found, accepted, made) other =
      let new : Reading = record { cut = source.cut; text = text } in
      let rows = rows_of q found again in (
        compared_text texts again rows (first_difference (frame_of source) (frame_of new)),
        (found, again, accepted, other, (rows, ([], refl, λ legal. refl), (refl, sym (all-accepted found again (found, accepted, made) accepted other)))),
      )

pub compared-accepted : (strategy : Strategy) (p q : Profile) (style : OrderStyle) (only : Option ℕ) (source : Reading) (texts : Bool) (text compared : List ℕ) (status : Status) (accepted : Bool) → IsOrdered strategy p style only source text status →
    IsCompared q texts source (record { cut = source.cut; text = text }) compared accepted → accepted ≡ true
compared-accepted strategy p q style only source texts text compared status accepted is (blocks, again, read, other, (rows, (steps, by, number), (whole, ends))) =
    let difference = first_difference (frame_of source) (frame_of (record { cut = source.cut; text = text })) in
    ends
    ∙ ap (λ rs. is_accepted rs difference) (number (blocks-compared strategy p q style only source text status blocks again is read other))
    ∙ all-accepted strategy p q style only source text status blocks again is read other

one-of : (found halves : Halves) (o : Option Halves) → o ≡ Some found → o ≡ Some halves → found ≡ halves
one-of found halves o h k = cc

pub compared-done : (strategy : Strategy) (p q : Profile) (style : OrderStyle) (only : Option ℕ) (texts cut : Bool) (halves : Halves) (input compared : List ℕ) (status ended : Status) → halves_of input ≡ Some halves →
    IsOrdered strategy p style only (record { cut = cut; text = halves.old }) halves.new status → IsCompareOutput q texts cut input compared ended → ended ≡ Done
compared-done strategy p q style only texts cut halves input compared status ended there is (found, here, (accepted, compares, ends)) =
    let same : found ≡ halves = one-of found halves (halves_of input) here there in
    ends
    ∙ ap (λ (t : Bool). if t then Done else Denied)
    (compared-accepted strategy p q style only (record { cut = cut; text = halves.old }) texts halves.new compared status accepted is
    (subst (λ (h : Halves). IsCompared q texts (record { cut = cut; text = h.old }) (record { cut = cut; text = h.new }) compared accepted) same compares))
