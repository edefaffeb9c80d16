use Rattle.std.proofs.Common.{◌∷◌, [], true, length, ap, ◌∙◌, arith, length-append}
use Rattle.s66_source.specs.{Standing}
use Rattle.s66_source.proofs.Standings.{bodies-grow}
use Rattle.s66_lint.proofs.AloneLines.{length-read}
use Rattle.s66_lint.proofs.deck.lines.push_alone.Goals as goal

pub is_alone-requires : goal.is_alone-requires
is_alone-requires c = let same = ap length c.as_read-line.ensures in omega (arith, same, length-read c.args.line.now)

pub pass-requires-clause-few : goal.pass-requires-clause-few
pass-requires-clause-few c = let same = ap length c.as_read-line.ensures in omega (arith, same, length-read c.args.line.now)

pub returns-clause-bodies : goal.returns-clause-bodies
returns-clause-bodies c =
    let grown = bodies-grow true c.args.standing.now c.as_read-line.result.now in
    let same = ap (λ (s : Standing). s.bodies) c.pass.ensures in
    let longer = ap length c.in_ok-push.ensures.items ∙ length-append c.args.alone.now.items (c.is_alone.result ∷ []) in
    omega (arith, grown, same, longer, c.requires.bodies)
