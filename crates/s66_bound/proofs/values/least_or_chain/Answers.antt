use Rattle.std.proofs.Common.{ap, arith}
use Rattle.s66_isa.specs.{greatest, registers_in}
use Rattle.s66_model.specs.{chain_by}
use Rattle.s66_model.proofs.FloorParts.{chain-fits}
use Rattle.s66_time.specs.{problem_of}
use Rattle.s66_bound.proofs.ValueBounds.{chain-covered, late-covers}
use Rattle.s66_bound.proofs.values.least_or_chain.Goals as goal

pub overflow_add-next : goal.overflow_add-next
overflow_add-next c =
    let t = c.args.clock.now in
    let b = problem_of t in
    omega (
      arith,
      c.next.ensures.value,
      c.greatest_tail-tail.ensures,
      chain-covered b t.numbers c.args.tables.now.written.items c.requires.begins c.requires.some c.requires.tables.written,
      chain-fits b t.numbers c.requires.begins c.requires.tables.few c.requires.some,
    )

pub loop-register-init : goal.loop-register-init
loop-register-init c =
    let t = c.args.clock.now in
    let b = problem_of t in
    late-covers b t.numbers c.args.tables.now.written.items (registers_in c.late-late.result) c.max-most.result c.args.least c.greatest_tail-tail.result c.requires.begins c.requires.some c.requires.tables.written c.requires.tables.registers
    c.greatest_tail-tail.ensures
    (omega (arith, c.max-most.ensures, c.next.ensures.value))
    c.late-late.ensures

pub loop-register-preserved : goal.loop-register-preserved
loop-register-preserved c =
    let t = c.args.clock.now in
    omega (arith, c.loop-register.invariant, c.max-most-in-Some.ensures, c.chain_by.ensures, ap (greatest (chain_by (problem_of t) t.numbers)) c.in-Some.ensures.some)

pub returns : goal.returns
returns c =
    let t = c.args.clock.now in
    omega (arith, c.loop-register.invariant, ap (greatest (chain_by (problem_of t) t.numbers)) c.in_default.ensures.none)
