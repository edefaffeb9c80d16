use Rattle.std.proofs.Common.{◌≡◌, ◌⊎◌, subst}
use Rattle.s66_isa.specs.{Among}
use Rattle.s66_node.specs.{MarkTable, numbers_of}
use Rattle.s66_node.proofs.mark_table.MarkTable.keep.Goals as goal

pub returns-in_err-put_entry-clause-known : goal.returns-in_err-put_entry-clause-known
returns-in_err-put_entry-clause-known c =
    λ name among.
    subst (λ (m : MarkTable). (name ≡ numbers_of c.args.entry) ⊎ Among name m.names) c.self.view_is (c.put_entry.ensures.known name among)

pub returns-clause-known : goal.returns-clause-known
returns-clause-known c =
    λ name among.
    subst (λ (m : MarkTable). (name ≡ numbers_of c.args.entry) ⊎ Among name m.names) c.self.view_is (c.put_entry.ensures.known name among)
