use Rattle.std.proofs.Common.{ap, arith, ◌∙◌, take_all}
use Rattle.s66_isa.specs.{greatest}
use Rattle.s66_model.specs.{done_of}
use Rattle.s66_model.proofs.LateRegisters.{has-late}
use Rattle.s66_time.specs.{problem_of, points}
use Rattle.s66_time.proofs.Loops.{greatest_more}
use Rattle.s66_bound.proofs.Heads.{head-le}
use Rattle.s66_bound.proofs.printed.latest_head.Goals as goal

pub loop-register-preserved : goal.loop-register-preserved
loop-register-preserved c =
    let t = c.args.clock.now in
    omega (
      arith,
      c.max-latest.ensures,
      c.done_of.ensures,
      c.loop-register.invariant,
      greatest_more (done_of (points t)) c.as_slice-register-items.result.now c.loop-register.register-index c.register-item.result c.loop-register-test.true c.register-item.is,
    )

pub returns : goal.returns
returns c = λ n.
    let t = c.args.clock.now in
    let b = problem_of t in
    let items = c.args.tables.now.written.items in
    omega (
      arith,
      c.loop-register.invariant,
      ap (greatest (done_of (points t))) (take_all c.loop-register.register-index c.as_slice-register-items.result.now c.loop-register-test.false ∙ c.as_slice-register-items.ensures.value),
      head-le b t.numbers n items (has-late b t.numbers items c.requires.tables.written c.requires.begins),
    )
