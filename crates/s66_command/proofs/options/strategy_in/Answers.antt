use Rattle.s66_command.proofs.options.strategy_in.Goals as goal

pub invariant_of-search : goal.invariant_of-search
invariant_of-search c =
    let (words, is) = c.requires in
    let workers = c.workers_in.ensures words is in
    record { crew = (workers.1, workers.2); few = (c.nodes_in.ensures words is).2 }
