use Rattle.std.proofs.Common.{◌∙◌, sym}
use Rattle.std.proofs.lemmas.Bool.{not-true}
use Rattle.s66_source.proofs.Standings.{ordinary}
use Rattle.s66_source.proofs.operation.is_ordinary.Goals as goal

pub returns-in-len3-up : goal.returns-in-len3-up
returns-in-len3-up c not_named s operand =
    ordinary s c.args.bytes.now operand c.in-len3-up.len_at_least (rw c.to_ascii_uppercase.ensures.value at (sym c.begins_name.ensures ∙ not-true c.begins_name.result not_named))
