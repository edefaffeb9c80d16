-- Used by contracts: how many splits a piece may have.
use Rattle.std.specs.Prelude.{ℕ, min}
use Rattle.s66_model.specs.{Rule, NoneNamed, WrittenEarlier, ClampedStanding}
use Rattle.s66_ledger.specs.declared.limits.TheConstants.{DOMINATED_PIECE_LIMIT}

-- all that may be spent, or few if any node of the ledger may be named, so that the nodes that it makes are soon known
abbrev pub piece_splits : Rule → ℕ → ℕ
piece_splits NoneNamed allowance = allowance
piece_splits WrittenEarlier allowance = allowance
piece_splits ClampedStanding allowance = min allowance DOMINATED_PIECE_LIMIT
