use Rattle.std.proofs.Common.{arith}
use Rattle.s66_node.proofs.Standing.{push-fits, push-ranked, ranks-push, walked-push}
use Rattle.s66_node.proofs.walk.Walk.push.Goals as goal

pub push-requires-2 : goal.push-requires-2
push-requires-2 c = (omega arith, push-fits c.self.inside.clock _ _ _ _ _ c.args.self.now c.self.invariant c.self.view_is c.args.n c.requires)

pub rank-rank-requires : goal.rank-rank-requires
rank-rank-requires c = push-ranked c.self.inside.clock _ _ _ _ _ c.args.self.now c.self.invariant c.self.view_is c.args.n c.requires

pub invariant_of-self : goal.invariant_of-self
invariant_of-self c =
    walked-push c.self.inside.clock _ _ _ _ _ c.args.self.now c.self.invariant c.self.view_is c.args.n c.push.new.self c.push-2.new.self.items c.without-self-inside.result
    (ranks-push c.self.inside.clock _ _ _ _ _ c.args.self.now c.self.invariant c.self.view_is c.args.n c.rank-rank.result c.empty.result c.with.result c.without-self-inside.result c.requires c.rank-rank.ensures.value c.empty.ensures c.with.ensures c.without-self-inside.ensures)
    c.requires c.push.ensures.value c.push-2.ensures.items
