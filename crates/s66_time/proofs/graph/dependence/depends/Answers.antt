use Rattle.std.proofs.Common.{◌∙◌, sym, subst, arith}
use Rattle.s66_isa.specs.{instr_at}
use Rattle.s66_line.specs.{instrs_of}
use Rattle.s66_time.specs.{AreEffects}
use Rattle.s66_time.proofs.Conflicts.{conflict-is}
use Rattle.s66_time.proofs.Readiness.{depends-conflict}
use Rattle.s66_time.proofs.graph.dependence.depends.Goals as goal

pub returns-then-a-b : goal.returns-then-a-b
returns-then-a-b c =
    let block = instrs_of c.args.block.now in
    c.is_conflict.ensures
    ∙ (conflict-is c.of.result c.of-then-a-b.result (instr_at block c.args.a) (instr_at block c.args.b)
    (subst (AreEffects c.of.result) c.instr.ensures c.of.ensures)
    (subst (AreEffects c.of-then-a-b.result) c.instr-then-a-b.ensures c.of-then-a-b.ensures)
    ∙ sym (depends-conflict block c.args.a c.args.b (omega arith)))
