-- Used by contracts: what a graft is in the machine, also if it is refused.
use Rattle.std.specs.Prelude.{ℕ, ◌≡◌}
use Rattle.s66_model.specs.LedgerRuns as model
use Rattle.s66_model.specs.{Event, Reply, IsGraftOf}
use Rattle.s66_node.specs.{PieceOf, tree_of}
use Rattle.s66_ledger.specs.declared.reply.GraftError.{GraftError}
use Rattle.s66_ledger.specs.declared.reply.GraftError.TheVariants as refused
use Rattle.s66_ledger.specs.Ledgers.{LedgerOf, IsEvent}

-- the event of worker w's graft of this piece at a node, with this reply
abbrev pub IsGraft : LedgerOf → (w node : ℕ) → PieceOf → Reply → LedgerOf → Type 0
IsGraft old w node piece reply new =
    (event : Event) × IsGraftOf old.rule old.problem w node piece.rule piece.problem piece.prefix (tree_of piece) reply event × IsEvent old event reply new

-- a refusal is a reply of the machine, except out of memory, which leaves no event
abbrev pub IsRefusedGraft : LedgerOf → (w node : ℕ) → PieceOf → GraftError → LedgerOf → Type 0
IsRefusedGraft old w node piece refused.NotOut new = IsGraft old w node piece model.NotOut new
IsRefusedGraft old w node piece refused.OtherPrefix new = IsGraft old w node piece model.OtherPrefix new
IsRefusedGraft old w node piece refused.OverAllowance new = IsGraft old w node piece model.OverAllowance new
IsRefusedGraft old w node piece refused.OutOfMemory new = new ≡ old
