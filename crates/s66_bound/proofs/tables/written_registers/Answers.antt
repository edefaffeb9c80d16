use Rattle.std.proofs.Common.{◌+◌, sym, subst, arith, ◌∙◌}
use Rattle.s66_isa.proofs.RegisterBits.{index-few}
use Rattle.s66_bound.specs.{AreRegisters}
use Rattle.s66_bound.proofs.WrittenRegisters.{AreListed, registers-push, written-by, listed-push, listed-pass}
use Rattle.s66_bound.proofs.tables.written_registers.Goals.{then-is_written, else-is_written}
use Rattle.s66_bound.proofs.tables.written_registers.Goals as goal

pub loop-index-preserved : goal.loop-index-preserved
loop-index-preserved c =
    let es = c.args.costs.now in
    let i = c.loop-index.index in
    let old = c.loop-index.written.items in
    let r = c.register_at-register.result in
    elim c.if-is_written.branch [
      | then-is_written w ↦
          rw w.written-is (record {
            few = omega (arith, c.loop-index.invariant.few, w.push.ensures.len);
            registers = subst AreRegisters (sym w.push.ensures.items) (registers-push old r c.register_at-register.ensures.digit c.loop-index.invariant.registers);
            listed = subst (AreListed es (i + 1)) (sym w.push.ensures.items) (listed-push es i old r c.register_at-register.ensures.digit c.register_at-register.ensures.value c.loop-index.invariant.listed);
          })
      | else-is_written w ↦
          rw w.written-is (record {
            few = omega (arith, c.loop-index.invariant.few);
            registers = c.loop-index.invariant.registers;
            listed = listed-pass es i old r c.register_at-register.ensures.digit c.register_at-register.ensures.value (sym c.is_written.ensures ∙ w.if-is_written.false) c.loop-index.invariant.listed;
          })
    ]

pub returns-clause-written : goal.returns-clause-written
returns-clause-written c = λ b are n low high w among.
    let (digit, written) = written-by b c.args.costs.now n w are low high among in
    c.loop-index.invariant.listed w.reg digit (omega (arith, index-few w.reg digit, c.loop-index-test.false, c.loop-index.auto.index-end)) written

pub returns-clause-registers : goal.returns-clause-registers
returns-clause-registers c = c.loop-index.invariant.registers
