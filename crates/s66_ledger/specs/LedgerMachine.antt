-- Used by contracts: what they see of a ledger's machine, and what one move of it is. Used by an invariant: what is true of every machine that is kept.
use Rattle.std.specs.Prelude.{ℕ, ◌+◌, ◌*◌, ◌≡◌, ◌≤◌, List, length}
use Rattle.s66_isa.specs.{BLOCK_LIMIT}
use Rattle.s66_model.specs.{Rule, Problem, Vertex, Terminal, Ledger, Event, Reply, Step, IsReached, source_time, BUDGET_LIMIT}
use Rattle.s66_time.specs.TimedOrder.{TimedOrder}
use Rattle.s66_node.specs.declared.node.Node as code
use Rattle.s66_ledger.specs.Nodes.{nodes_of, made_lines, HaveFloors}

-- a ledger without its history, for a budget and this many workers
pub record MachineOf : Type 0 where
  -- of its dominated leaves
  pub rule : Rule
  pub problem : Problem
  pub budget : ℕ
  pub workers : ℕ
  pub state : Ledger
  -- the lines of pieces that made its nodes
  pub lines : List (Vertex Terminal)

-- one event with its reply: a step of the machine
abbrev pub IsMove : MachineOf → Event → Reply → MachineOf → Type 0
IsMove old event reply new =
    (new.problem ≡ old.problem) × (new.budget ≡ old.budget) × (new.workers ≡ old.workers)
    × Step old.rule old.problem old.state event reply new.state × (new.rule ≡ old.rule)

abbrev pub ledger_from : Problem → List code.Node → List ℕ → ℕ → List ℕ → ℕ → Ledger
ledger_from b nodes best left allowances spent =
    record { nodes = nodes_of b nodes; best = best; left = left; allowances = allowances; spent = spent }

-- a machine as code stores it
pub record Stored : Type 0 where
  pub rule : Rule
  pub problem : Problem
  pub budget : ℕ
  pub nodes : List code.Node
  -- the total of the source order
  pub source : ℕ
  pub best : TimedOrder
  pub left : ℕ
  pub allowances : List ℕ
  pub spent : ℕ

abbrev pub ledger_of : Stored → Ledger
ledger_of m = ledger_from m.problem m.nodes m.best.numbers m.left m.allowances m.spent

abbrev pub machine_of : Stored → MachineOf
machine_of m =
    record { rule = m.rule; problem = m.problem; budget = m.budget; workers = length m.allowances; state = ledger_of m; lines = made_lines m.problem m.nodes }

pub record IsKeptMachine (m : Stored) : Type 0 where
  -- some history leads here from the opening
  pub reached : IsReached m.rule m.problem m.budget (length m.allowances) (ledger_of m)
  pub source : m.source ≡ source_time m.problem
  pub own : m.best.problem ≡ m.problem
  pub floors : HaveFloors m.problem m.nodes
  -- each split makes a node of each of its children
  pub room : length m.nodes ≤ 1 + BLOCK_LIMIT * m.spent
  pub few : m.budget ≤ BUDGET_LIMIT
  pub workers : length m.allowances ≤ 255
