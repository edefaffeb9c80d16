-- A printed text that is accepted when it is read again has the blocks of its source, each as it is given.
use Rattle.std.proofs.Common.{◌≡◌, ℕ, Bool, false, if◌then◌else◌, List, [], Option, None, get_or, length, map, refl, sym, ap, ◌∙◌, subst, arith, Ok}
use Rattle.s66_line.specs.{Block, lines_of}
use Rattle.s66_line.proofs.Wholes.{AreLines-lines_of}
use Rattle.s66_source.specs.{Reading, Standing, at_first, flagged_lines, redefined_by, Placed, AreComplete, AreGivenAgain, start, nothing_redefined, AreGiven, printed_in, texts_of, Line, block_of}
use Rattle.s66_source.specs.{blocks_of, classed_lines, instructions, parts_of, refusal, source_of}
use Rattle.s66_source.specs.declared.columns.Columns.{Columns}
use Rattle.s66_source.proofs.LineLaw.{no_refusal}
use Rattle.s66_source.proofs.LineTexts.{told-source}
use Rattle.s66_source.proofs.PrintedLines.{accepted-is}
use Rattle.s66_source.proofs.ReadAgain.{AreDue, EndsTexts, Follows, reads-all}
use Rattle.s66_source.proofs.ReadBlock.{quiet-block}
use Rattle.s66_source.proofs.ReadComments.{AreLinesOfSource, lines-of_source, read_at}
use Rattle.s66_source.proofs.ReaderBlocks.{fresh, read_from-start, behind, behind-begins, left-begins}
use Rattle.s66_source.proofs.RedefinedLines.{redefined-printed}
use Rattle.s66_source.proofs.SoundBlocks.{all-texts, sound-source}

-- what is printed redefines what its source does
pub redefined-again : (quiet : Bool) (columns : Columns) (source : Reading) (given : List (Option Placed)) → AreGiven (blocks_of (classed_lines source)) given →
    redefined_by (record { cut = source.cut; text = printed_in quiet columns source given }) ≡ redefined_by source
redefined-again quiet columns source given within = ap (λ known. if source.cut then known else nothing_redefined) (redefined-printed quiet columns source given within)

module _ (quiet : Bool) (columns : Columns) (source : Reading) (given : List (Option Placed)) (within : AreGiven (blocks_of (classed_lines source)) given) (complete : AreComplete (blocks_of (classed_lines source)) given) where
  abbrev all : List Line
  all = classed_lines source

  abbrev texts : List (Option (List ℕ))
  texts = texts_of quiet columns all 1 (blocks_of all) given

  abbrev found : List (List Line)
  found = parts_of (instructions all)

  abbrev stands : Standing
  stands = at_first (redefined_by source)

  its-lines : AreLinesOfSource source.cut all
  its-lines = lines-of_source source.cut stands (lines_of source.text) 1 0 0 [] false (AreLines-lines_of source.text).no_newline

  ends : EndsTexts source.cut texts
  ends =
      all-texts source.cut quiet columns (redefined_by source) all _ (λ n block p is order more quiet_more. quiet-block source.cut quiet columns (redefined_by source) all n block p more quiet_more its-lines is order)
      (blocks_of all) given (sound-source columns source) within

  due : AreDue source.cut quiet columns (redefined_by source) all texts 0 (blocks_of all) given
  due = record { chosen = λ k. ap (λ n. get_or texts n None) (omega arith); sound = sound-source columns source; within = within; complete = complete }

  its-blocks : (blocks again : List Block) → source_of source ≡ Ok blocks → source_of (record { cut = source.cut; text = printed_in quiet columns source given }) ≡ Ok again → AreGivenAgain (blocks_of all) given again
  its-blocks blocks again accepted read =
      let begins = fresh (flagged_lines source) 1 0 0 [] false refl in
      let whole : map block_of (behind found) ≡ blocks_of all = ap (map block_of) (behind-begins found begins) in
      let none = ap (λ (ls : List Line). length ls) (left-begins found begins) in
      let f : Follows (behind found) given [] again =
      reads-all source.cut quiet columns (redefined_by source) all texts its-lines ends (lines_of source.text) false stands 1 0 0 0 [] false given start again (AreLines-lines_of source.text).no_newline refl
      (no_refusal (refusal all) (blocks_of all) blocks accepted) (told-source source)
      (subst (λ blocks. AreDue source.cut quiet columns (redefined_by source) all texts 0 blocks given) (sym whole) due)
      (λ here. (λ empty. (refl, refl), λ next. (refl, refl)), λ later. absurd (later refl), λ many. absurd (omega (arith, none, many)))
      (ap (λ known. read_at source.cut (at_first known) start (printed_in quiet columns source given)) (sym (redefined-again quiet columns source given within))
      ∙ read_from-start (record { cut = source.cut; text = printed_in quiet columns source given }) ∙ read) in
      subst (λ blocks. AreGivenAgain blocks given again) whole (subst (AreGivenAgain (map block_of (behind found)) given) (sym f.whole) f.placed)

pub read-again : (quiet : Bool) (columns : Columns) (source : Reading) (blocks again : List Block) (given : List (Option Placed)) → source_of source ≡ Ok blocks → AreGiven blocks given → AreComplete blocks given →
    source_of (record { cut = source.cut; text = printed_in quiet columns source given }) ≡ Ok again → AreGivenAgain blocks given again
read-again quiet columns source blocks again given accepted within complete read =
    let is = accepted-is source blocks accepted in
    subst (λ found. AreGivenAgain found given again) is
    (its-blocks quiet columns source given (subst (λ found. AreGiven found given) (sym is) within) (subst (λ found. AreComplete found given) (sym is) complete) blocks again accepted read)
