use Rattle.std.proofs.Common.{refl, arith}
use Rattle.s66_isa.proofs.FirstRegister.{lowest-few, first-out, none-left}
use Rattle.s66_isa.proofs.registers.Registers.pop_first.Goals as goal

pub returns-then-self-eq0-clause-none : goal.returns-then-self-eq0-clause-none
returns-then-self-eq0-clause-none c = none-left c.args.self.now (omega arith)

pub of_index-requires : goal.of_index-requires
of_index-requires c = lowest-few c.args.self.now (omega arith)

pub returns-clause-some : goal.returns-clause-some
returns-clause-some c = first-out c.args.self.now _ c.of_index.result (omega arith) refl c.of_index.ensures
