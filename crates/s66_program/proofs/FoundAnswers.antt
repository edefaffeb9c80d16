-- What is found by answers to blocks is of these blocks.
use Rattle.std.proofs.Common.{ℕ, ◌+◌, List, [], ◌∷◌, refl}
use Rattle.s66_isa.specs.{Profile}
use Rattle.s66_model.specs.{Rule}
use Rattle.s66_command.specs.{Strategy}
use Rattle.s66_line.specs.{Block}
use Rattle.s66_views.specs.{AreOf}
use Rattle.s66_answer.specs.{Answer, AreAnswers}
use Rattle.s66_program.specs.{all_found}

pub found-of : (entries : List (List ℕ)) (strategy : Strategy) (rule : Rule) (p : Profile) (n : ℕ) (blocks : List Block) (answers : List Answer) →
    AreAnswers strategy p blocks answers → AreOf blocks (all_found entries rule p n blocks answers)
found-of entries strategy rule p n [] [] are = tt
found-of entries strategy rule p n [] (a ∷ answers) are = absurd are
found-of entries strategy rule p n (block ∷ blocks) [] are = absurd are
found-of entries strategy rule p n (block ∷ blocks) (a ∷ answers) are = (refl, found-of entries strategy rule p (n + 1) blocks answers are.1)
