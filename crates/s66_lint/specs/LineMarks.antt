-- Used by contracts within the crate alone: the marks of lines, without where they lie in memory, and a source with switches that is
-- printed so far.
use Rattle.std.specs.Prelude.{◌≡◌, ◌+◌, ◌++◌, ℕ, List, [], ◌∷◌, map}
use Rattle.std.specs.Global.{Vec}
use Rattle.s66_isa.specs.{tally}
use Rattle.s66_lint.specs.Guarded.{Mark, GuardedLine, is_end, is_guarded, guarded_text, unmarked}
use Rattle.s66_lint.specs.declared.guard.guard.Guarded.{Guarded}
use Rattle.s66_lint.specs.declared.guard.marks.LineMark.{LineMark}

abbrev pub reason_texts : List (Vec ℕ) → List (List ℕ)
reason_texts texts = map (λ (text : Vec ℕ). text.items) texts

abbrev pub mark_of : LineMark → Mark
mark_of mark = record { is_harmed = mark.is_harmed; reasons = reason_texts mark.reasons.items }

abbrev pub marks_of : List LineMark → List Mark
marks_of marks = map mark_of marks

-- the mark of the first line, if it has one, and those of the others
abbrev pub first_mark : List Mark → Mark
first_mark [] = unmarked
first_mark (mark ∷ marks) = mark

abbrev pub later_marks : List Mark → List Mark
later_marks [] = []
later_marks (mark ∷ marks) = marks

-- what is printed has these lines more
pub record GainsLines (old new : Guarded) (lines : List GuardedLine) : Type 0 where
  pub text : new.text.items ≡ old.text.items ++ guarded_text lines
  pub ends : new.regions ≡ old.regions + tally is_end lines
  pub guarded : new.lines ≡ old.lines + tally is_guarded lines

-- what is printed, and then these lines, are all lines
pub record Finishes (printed : Guarded) (lines all : List GuardedLine) : Type 0 where
  pub text : printed.text.items ++ guarded_text lines ≡ guarded_text all
  pub ends : printed.regions + tally is_end lines ≡ tally is_end all
  pub guarded : printed.lines + tally is_guarded lines ≡ tally is_guarded all
