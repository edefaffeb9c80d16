use Rattle.std.proofs.Common.{ap, arith, ◌∙◌}
use Rattle.s66_isa.specs.Table.{Reg}
use Rattle.s66_isa.specs.{index_of, register_at-index}
use Rattle.s66_isa.proofs.RegisterBits.{register_at-digit}
use Rattle.s66_bound.proofs.tables.register_at.Goals as goal

pub returns-clause-value : goal.returns-clause-value
returns-clause-value c = ap index_of c.of_index.ensures ∙ register_at-index c.args.index (omega arith)

pub returns-clause-digit : goal.returns-clause-digit
returns-clause-digit c = omega (arith, ap (λ (r : Reg). r.digit) c.of_index.ensures, register_at-digit c.args.index)
