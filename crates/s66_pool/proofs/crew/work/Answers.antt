use Rattle.s66_pool.proofs.Members.{same-trans}
use Rattle.s66_pool.proofs.crew.work.Goals as goal

pub returns-clause-same : goal.returns-clause-same
returns-clause-same g c =
    same-trans c.args.seats.now.items c.best_at_first-best.new.seats.items c.work_with.new.seats.items c.best_at_first-best.ensures.same c.work_with.ensures.same
