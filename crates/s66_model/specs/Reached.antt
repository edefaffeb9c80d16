-- Used by contracts of the ledger: a state to which some history leads from the opening.
use Rattle.std.specs.Prelude.{ℕ, List}
use Rattle.s66_model.specs.declared.rule.Rule.{Rule}
use Rattle.s66_model.specs.Timing.{Problem}
use Rattle.s66_model.specs.LedgerRuns.{Ledger, Event, Reply, Run, opening}

-- by the rule, with this budget and this many workers
abbrev pub IsReached : Rule → Problem → (budget workers : ℕ) → Ledger → Type 0
IsReached rule b budget workers l = (history : List (Event × Reply)) × Run rule b (opening b budget workers) history l
