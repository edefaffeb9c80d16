use Rattle.std.proofs.Common.{refl}
use Rattle.s66_moments.specs.{Origin, End}
use Rattle.s66_facts.specs.{Forward, Backward}
use Rattle.s66_facts.proofs.Settled.{settled-with_load}
use Rattle.s66_facts.proofs.facts.Facts.take.Goals as goal

pub find_again-requires-clause-settled : goal.find_again-requires-clause-settled
find_again-requires-clause-settled c =
    settled-with_load Forward c.self.inside.graph c.add_load.new.self c.count-count.ensures.ordered c.count-count-2.ensures.ordered c.add_load.ensures.problem Origin refl c.self.inside.heads c.self.invariant.0 c.all_but-not_to.result (record { from = c.args.line.now.from; wait = c.args.line.now.wait; to = c.args.line.now.to }) c.add_load.ensures.marks c.add_load.ensures.loads c.all_but-not_to.ensures

pub find_again-requires-2-clause-settled : goal.find_again-requires-2-clause-settled
find_again-requires-2-clause-settled c =
    settled-with_load Backward c.self.inside.graph c.add_load.new.self c.count-count.ensures.ordered c.count-count-2.ensures.ordered c.add_load.ensures.problem End refl c.self.inside.tails c.self.invariant.1 c.all_but-not_from.result (record { from = c.args.line.now.from; wait = c.args.line.now.wait; to = c.args.line.now.to }) c.add_load.ensures.marks c.add_load.ensures.loads c.all_but-not_from.ensures

pub find_again-requires-3-clause-settled : goal.find_again-requires-3-clause-settled
find_again-requires-3-clause-settled c =
    settled-with_load Forward c.self.inside.graph c.add_load.new.self c.count-count.ensures.ordered c.count-count-2.ensures.ordered c.add_load.ensures.problem c.self.inside.from c.self.invariant.2 c.self.inside.heads_from c.self.invariant.3 c.all_but-not_to.result (record { from = c.args.line.now.from; wait = c.args.line.now.wait; to = c.args.line.now.to }) c.add_load.ensures.marks c.add_load.ensures.loads c.all_but-not_to.ensures

pub find_again-requires-4-clause-settled : goal.find_again-requires-4-clause-settled
find_again-requires-4-clause-settled c =
    settled-with_load Backward c.self.inside.graph c.add_load.new.self c.count-count.ensures.ordered c.count-count-2.ensures.ordered c.add_load.ensures.problem c.self.inside.to c.self.invariant.4 c.self.inside.tails_to c.self.invariant.5 c.all_but-not_from.result (record { from = c.args.line.now.from; wait = c.args.line.now.wait; to = c.args.line.now.to }) c.add_load.ensures.marks c.add_load.ensures.loads c.all_but-not_from.ensures
