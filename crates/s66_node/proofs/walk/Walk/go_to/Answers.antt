use Rattle.std.proofs.Common.{◌≡◌, true, sym, subst, get_or, arith}
use Rattle.s66_model.specs.{is_ready}
use Rattle.s66_node.specs.Walked.{Walked}
use Rattle.s66_node.proofs.Standing.{ready-at}
use Rattle.s66_node.proofs.walk.Walk.go_to.Goals as goal

pub push-requires : goal.push-requires
push-requires c =
    let i = c.loop-position.position in
    let ns = c.args.prefix.now in
    subst (λ (w : Walked). is_ready w.problem.block w.numbers (get_or ns i 0) ≡ true) (sym c.loop-position.invariant) (ready-at c.args.self.now.problem.block ns i c.requires (omega arith))
