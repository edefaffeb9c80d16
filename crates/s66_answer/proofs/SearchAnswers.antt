-- What a search returns is an answer to the block.
use Rattle.std.proofs.Common.{ℕ, ◌≡◌, ◌*◌, ◌≤◌, ◌∙◌, true, subst, sym, true≢false}
use Rattle.s66_isa.specs.{Profile}
use Rattle.s66_model.specs.Answer as search
use Rattle.s66_model.specs.{Problem, Rule}
use Rattle.s66_command.specs.{Strategy}
use Rattle.s66_line.specs.{Block}
use Rattle.s66_ledger.specs.{AnswerOf, answer_of}
use Rattle.s66_answer.specs.{problem_of, AreBeside, IsFound}

pub search-answers : (strategy : Strategy) (p : Profile) (block : Block) (found : AnswerOf) → IsFound strategy p block found → search.IsAnswer found.rule found.problem found.budget (answer_of found) →
    search.IsAnswer strategy.search.rule (problem_of p block) strategy.search.nodes (answer_of found)
search-answers strategy p block found (by, of, for) is =
    subst (λ (b : Problem). search.IsAnswer strategy.search.rule b strategy.search.nodes (answer_of found)) of
    (subst (λ n. search.IsAnswer strategy.search.rule found.problem n (answer_of found)) for (subst (λ (r : Rule). search.IsAnswer r found.problem found.budget (answer_of found)) by is))

-- with facts other searches may be beside it
pub beside-deep : (strategy : Strategy) (n : ℕ) → strategy.deep ≡ true → 2 * n ≤ 5 * strategy.search.nodes → AreBeside strategy n
beside-deep strategy n deep few = (few, λ plain. absurd (true≢false (sym deep ∙ plain)))
