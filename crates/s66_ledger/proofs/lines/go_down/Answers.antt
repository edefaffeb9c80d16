use Rattle.std.proofs.Common.{ap, sym, subst}
use Rattle.s66_node.specs.Walked.{Walked}
use Rattle.s66_ledger.specs.{StandsAt}
use Rattle.s66_ledger.proofs.AnswerLines.{has-child, child-stands}
use Rattle.s66_ledger.proofs.lines.go_down.Goals as goal

pub child-requires-clause-some : goal.child-requires-clause-some
child-requires-clause-some c =
    let w = c.args.walk.now in
    has-child w.problem c.args.nodes.now c.requires.tree c.args.node.now c.args.number w.numbers c.requires.stands c.requires.split c.requires.ready

pub returns-clause-stands : goal.returns-clause-stands
returns-clause-stands c =
    subst (StandsAt c.args.nodes.now c.child.result) (ap (λ (w : Walked). w.numbers) (sym c.push.ensures))
    (child-stands c.args.nodes.now c.args.node.now c.args.number c.child.result c.args.walk.now.numbers c.requires.stands c.child.ensures)
