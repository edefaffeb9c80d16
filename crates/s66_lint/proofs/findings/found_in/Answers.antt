use Rattle.std.proofs.Common.{length, arith}
use Rattle.s66_line.specs.{lines_of}
use Rattle.s66_lint.proofs.findings.found_in.Goals as goal

pub loop-at-preserved : goal.loop-at-preserved
loop-at-preserved c = c.in_ok-push_findings.ensures c.loop-at.at (omega arith) c.loop-at.invariant

pub returns : goal.returns
returns c =
    let within = c.loop-at.auto.at-end in
    let few = c.requires.lines in
    c.in_ok-push_long.ensures c.loop-at.at (length (lines_of c.args.text.now)) (omega (arith, within, few)) c.loop-at.invariant c.requires.past
