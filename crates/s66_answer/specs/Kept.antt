-- Used by contracts: what is kept of answers to blocks, a part of each, one after the other.
use Rattle.std.specs.Prelude.{ℕ, ◌+◌, ◌≡◌, ◌==◌, Bool, List, [], ◌∷◌, ◌++◌, Option, slice_index_or}
use Rattle.s66_isa.specs.{Profile, weigh}
use Rattle.s66_command.specs.{Strategy}
use Rattle.s66_line.specs.{Block}
use Rattle.s66_source.specs.{Reading}
use Rattle.s66_answer.specs.Answers.{Answer, AreAnswers, IsAnswer}
use Rattle.s66_answer.specs.declared.outcome.Status.{Status}
use Rattle.s66_answer.specs.OfAnswers.{IsOfAnswers, all_parts, bounded_if, count_bounded}
use Rattle.s66_answer.specs.Shown.{before}
use Rattle.s66_answer.specs.declared.kept.KeptBlock.{KeptBlock}

-- WHAT IS KEPT

-- the part of an answer to the n-th block was appended, and the answer is best or not
abbrev pub IsKept : {X : Type 0} → (ℕ → Block → Answer → List X) → Strategy → Profile → ℕ → Block → (old new : List X) → Bool → Type 0
IsKept part strategy p n block old new best = (a : Answer) × IsAnswer strategy p block a × (new ≡ old ++ part n block a) × (best ≡ (a.bound == a.time))

-- these are the parts of answers to the blocks, before which n come, and so many answers aren't best
abbrev pub AreKept : {X : Type 0} → (ℕ → Block → Answer → List X) → Strategy → Profile → ℕ → List Block → List X → (bounded : ℕ) → Type 0
AreKept part strategy p n blocks kept bounded =
    (answers : List Answer) × AreAnswers strategy p blocks answers × (kept ≡ all_parts part n blocks answers) × (bounded ≡ count_bounded answers)

-- and of the blocks of a source that are shown, with the status of the answers
abbrev pub AreAnswered : {X : Type 0} → (ℕ → Block → Answer → List X) → Strategy → Profile → (only : Option ℕ) (source : Reading) → List X → Status → Type 0
AreAnswered part strategy p only source parts status =
    IsOfAnswers (λ blocks answers. parts ≡ all_parts part (before only) blocks answers) strategy p only source status

-- EACH BY ITSELF

-- it was kept of the block at a place of these, before which n come
abbrev pub IsKeptAt : {X : Type 0} → (ℕ → Block → Answer → List X) → Strategy → Profile → ℕ → List Block → ℕ → KeptBlock X → Type 0
IsKeptAt part strategy p n blocks i kept = (d : Block) → IsKept part strategy p (n + i + 1) (slice_index_or blocks i d) [] kept.parts.items kept.is_best

-- what was kept of each, one after the other
abbrev pub parts_in : {X : Type 0} → List (KeptBlock X) → List X
parts_in [] = []
parts_in (kept ∷ each) = kept.parts.items ++ parts_in each

abbrev pub bounded_in : {X : Type 0} → List (KeptBlock X) → ℕ
bounded_in each = weigh (λ kept. bounded_if kept.is_best) each
