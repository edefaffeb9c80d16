-- To be believed: what `compare` and `page --compare` write of the two sources of an input, and how they end.
use Rattle.std.specs.Prelude.{ℕ, ◌≡◌, if◌then◌else◌, Bool, List, Some}
use Rattle.s66_isa.specs.{Profile}
use Rattle.s66_source.specs.Halves.{Halves}
use Rattle.s66_source.specs.{halves_of, Reading}
use Rattle.s66_compare.specs.{IsCompared}
use Rattle.s66_views.specs.{IsPairsPage}
use Rattle.s66_answer.specs.{Status, Done, Denied}
use Rattle.s66_program.specs.declared.compare_text.View.{View}
use Rattle.s66_program.specs.declared.compare_text.View.TheVariants.{InLines, InPairs}

-- the text shows an old source and a new one so, and the new one is accepted or not
abbrev pub IsViewOf : Profile → View → (old new : Reading) (text : List ℕ) (accepted : Bool) → Type 0
IsViewOf p (InLines texts) old new text accepted = IsCompared p texts old new text accepted
IsViewOf p InPairs old new text accepted = IsPairsPage p old new text accepted

-- done if the new source is accepted
abbrev pub IsViewOutput : Profile → View → (cut : Bool) (input text : List ℕ) → Status → Type 0
IsViewOutput p view cut input text status =
    (halves : Halves) × (halves_of input ≡ Some halves)
    × ((accepted : Bool) × IsViewOf p view (record { cut = cut; text = halves.old }) (record { cut = cut; text = halves.new }) text accepted × (status ≡ (if accepted then Done else Denied)))

-- 0 if the new one is accepted, else 5
abbrev pub IsCompareOutput : Profile → (texts cut : Bool) (input text : List ℕ) → Status → Type 0
IsCompareOutput p texts cut input text status = IsViewOutput p (InLines texts) cut input text status

abbrev pub IsPairsOutput : Profile → (cut : Bool) (input text : List ℕ) → Status → Type 0
IsPairsOutput p cut input text status = IsViewOutput p InPairs cut input text status
