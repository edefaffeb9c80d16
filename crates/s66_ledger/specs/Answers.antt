-- Used by contracts: what they see of an answer: of which problem it is one, for which budget, and how its ledger ended. Used by an invariant: what is true of every answer.
use Rattle.std.specs.Prelude.{ℕ, ◌≡◌, ◌≤◌, ◌<◌, ◌^◌, List, [], length}
use Rattle.s66_isa.specs.{Among}
use Rattle.s66_model.specs.{Rule, Problem, IsAnswer, source_time, IsBeginning, Ledger, Node, IsTable, ended_answer, BUDGET_LIMIT}
use Rattle.s66_model.specs.Answer.{Answer}
use Rattle.s66_node.specs.declared.node.Node as declared
use Rattle.s66_ledger.specs.LedgerMachine.{ledger_from}
use Rattle.s66_ledger.specs.Nodes.{HaveFloors}

pub record AnswerOf : Type 0 where
  -- of its dominated leaves
  pub rule : Rule
  pub problem : Problem
  pub budget : ℕ
  -- the last state of the ledger
  pub state : Ledger

-- the answer that the last state is
abbrev pub answer_of : AnswerOf → Answer
answer_of a = ended_answer a.problem a.state

-- of a ledger that ended with these nodes, this best order and this many splits
abbrev pub ended_of : Rule → Problem → ℕ → List declared.Node → List ℕ → ℕ → AnswerOf
ended_of rule b budget nodes best spent = record { rule = rule; problem = b; budget = budget; state = ledger_from b nodes best 0 [] spent }

pub record IsKeptAnswer (a : AnswerOf) (nodes : List declared.Node) (low first : ℕ) : Type 0 where
  pub answer : IsAnswer a.rule a.problem a.budget (answer_of a)
  pub bound : (answer_of a).bound ≡ low
  pub source : first ≡ source_time a.problem
  pub few : a.budget ≤ BUDGET_LIMIT
  -- its nodes are those of one tree
  pub table : IsTable a.problem a.state
  pub begins : (node : Node) → Among node a.state.nodes → IsBeginning a.problem.block node.prefix
  pub floors : HaveFloors a.problem nodes
  pub room : length a.state.nodes < 2 ^ 32
