-- To be believed: what is made of answers to the blocks of a source that are shown, and how it ends.
use Rattle.std.specs.Prelude.{ℕ, ◌+◌, ◌≡◌, ◌==◌, if◌then◌else◌, Bool, true, false, List, [], ◌∷◌, ◌++◌, Ok, Option, length}
use Rattle.s66_isa.specs.{weigh, Profile}
use Rattle.s66_command.specs.{Strategy}
use Rattle.s66_line.specs.{Block}
use Rattle.s66_source.specs.{Reading, source_of}
use Rattle.s66_answer.specs.Answers.{Answer, AreAnswers}
use Rattle.s66_answer.specs.declared.outcome.Status.{Status}
use Rattle.s66_answer.specs.declared.outcome.Status.TheVariants.{Done, Bounded}
use Rattle.s66_answer.specs.Shown.{shown}

-- an answer that isn't best counts as one that is only bounded
abbrev pub bounded_if : (is_best : Bool) → ℕ
bounded_if true = 0
bounded_if false = 1

-- how many aren't best; of one that is, the time is the bound
abbrev pub count_bounded : List Answer → ℕ
count_bounded answers = weigh (λ (a : Answer). bounded_if (a.bound == a.time)) answers

-- done if no answer is only bounded; else how many are, and of how many
abbrev pub status_by : (bounded of : ℕ) → Status
status_by bounded of = if bounded == 0 then Done else Bounded bounded of

abbrev pub status_of : List Answer → Status
status_of answers = status_by (count_bounded answers) (length answers)

-- the parts of answers to these blocks, before which n come, one after the other
abbrev pub all_parts : {X : Type 0} → (ℕ → Block → Answer → List X) → ℕ → List Block → List Answer → List X
all_parts part n (block ∷ blocks) (a ∷ answers) = part (n + 1) block a ++ all_parts part (n + 1) blocks answers
all_parts part n blocks answers = []

-- for some answers to the blocks that are shown, of which there may be several, this is made of them, and the status is theirs
abbrev pub IsOfAnswers : (List Block → List Answer → Type 0) → Strategy → Profile → (only : Option ℕ) (source : Reading) → Status → Type 0
IsOfAnswers Is strategy p only source status =
    (blocks : List Block) × (source_of source ≡ Ok blocks)
    × ((answers : List Answer) × AreAnswers strategy p (shown only blocks) answers × Is (shown only blocks) answers × (status ≡ status_of answers))
