use Rattle.std.proofs.Common.{◌≡◌, ◌⊎◌, subst}
use Rattle.s66_isa.specs.{Among}
use Rattle.s66_node.specs.{MarkTable}
use Rattle.s66_node.proofs.mark_table.MarkTable.put.Goals as goal

pub returns-clause-known : goal.returns-clause-known
returns-clause-known c =
    λ name among.
    subst (λ (m : MarkTable). (name ≡ c.args.entry.numbers.items) ⊎ Among name m.names) c.self.view_is
    (c.keep.ensures.known name (subst (λ (m : MarkTable). Among name m.names) c.self-2.view_is among))
