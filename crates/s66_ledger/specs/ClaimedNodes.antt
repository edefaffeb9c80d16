-- Used by contracts: what a claim's ticket is, and which open node is claimed.
use Rattle.std.specs.Prelude.{ℕ, ◌≡◌, ◌≤◌, true, Option, Some, None}
use Rattle.s66_model.specs.{Problem, floor_value, Ledger, is_open, node_at, TicketOf}

abbrev pub claimed_node : Option TicketOf → Option ℕ
claimed_node None = None
claimed_node (Some ticket) = Some ticket.node

-- the ticket has its node's prefix
abbrev pub IsTicketOf : Ledger → Option TicketOf → Type 0
IsTicketOf l None = Unit {0}
IsTicketOf l (Some ticket) = ticket.prefix ≡ (node_at l.nodes ticket.node).prefix

-- no open node has a floor below that of the ticket's
abbrev pub IsLeastOpen : Problem → Ledger → Option TicketOf → Type 0
IsLeastOpen b l None = Unit {0}
IsLeastOpen b l (Some ticket) =
    (i : ℕ) → is_open (node_at l.nodes i) ≡ true → floor_value b ticket.prefix ≤ floor_value b (node_at l.nodes i).prefix
