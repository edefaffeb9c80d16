-- Used by contracts within the crate alone: what a graft at a node is in the machine, also if it is refused.
use Rattle.std.specs.Prelude.{ℕ, ◌≡◌, ◌++◌, true, drop, Some}
use Rattle.s66_model.specs.{Tree, flat, splits, Terminal, Event, Reply, IsGraftOf}
use Rattle.s66_model.specs.LedgerRuns as model
use Rattle.s66_node.specs.{PieceOf, tree_of}
use Rattle.s66_ledger.specs.declared.reply.GraftError.{GraftError}
use Rattle.s66_ledger.specs.declared.reply.GraftError.TheVariants as refused
use Rattle.s66_ledger.specs.Grafting.{IsTakenAs}
use Rattle.s66_ledger.specs.LedgerMachine.{MachineOf, IsMove}

-- the move of worker w's graft of this piece at a node, with this reply
abbrev pub IsGraftMove : MachineOf → (w node : ℕ) → PieceOf → Reply → MachineOf → Type 0
IsGraftMove old w node piece reply new =
    (event : Event) × IsGraftOf old.rule old.problem w node piece.rule piece.problem piece.prefix (tree_of piece) reply event × IsMove old event reply new

-- it is taken with this tree
abbrev pub taken_event : (w node : ℕ) → PieceOf → Tree Terminal → Event
taken_event w node piece part = model.Graft w node true piece.prefix (splits part) (Some part)

pub record IsTakenMove (old : MachineOf) (w node : ℕ) (piece : PieceOf) (new : MachineOf) : Type 0 where
  pub rule : piece.rule ≡ old.rule
  pub problem : piece.problem ≡ old.problem
  -- some dominated prefixes left open, and the root's if it is dominated
  pub part : Tree Terminal
  pub taken : IsTakenAs piece part
  -- the new nodes have the lines below the root
  pub lines : new.lines ≡ old.lines ++ drop 1 (flat part)
  pub move : IsMove old (taken_event w node piece part) model.Taken new

-- a refusal is a reply of the machine, except out of memory, which is no move
abbrev pub IsRefusedMove : MachineOf → (w node : ℕ) → PieceOf → GraftError → MachineOf → Type 0
IsRefusedMove old w node piece refused.NotOut new = IsGraftMove old w node piece model.NotOut new
IsRefusedMove old w node piece refused.OtherPrefix new = IsGraftMove old w node piece model.OtherPrefix new
IsRefusedMove old w node piece refused.OverAllowance new = IsGraftMove old w node piece model.OverAllowance new
IsRefusedMove old w node piece refused.OutOfMemory new = new ≡ old
