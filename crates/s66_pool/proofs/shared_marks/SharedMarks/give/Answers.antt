use Rattle.std.proofs.Common.{rules}
use Rattle.s66_pool.proofs.PartSteps.{gives_at}
use Rattle.s66_pool.proofs.shared_marks.SharedMarks.give.Goals as goal

pub store-requires : goal.store-requires
store-requires c = (c.requires.has.0, search rules, gives_at _ _ _ _ _ c.requires.part c.requires.has.1)
