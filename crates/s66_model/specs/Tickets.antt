-- Used by contracts: what they see of a ticket: a node's number, and its prefix.
use Rattle.std.specs.Prelude.{ℕ, List}

pub record TicketOf : Type 0 where
  pub node : ℕ
  pub prefix : List ℕ
