use Rattle.std.proofs.Common.{rules, arith, ◌+◌, ◌<◌, ◌^◌}
use Rattle.s66_model.proofs.Growth.{held-le}
use Rattle.s66_checker.proofs.replay.result.free_after.Goals as goal

pub overflow_add-result-else-is_empty : goal.overflow_add-result-else-is_empty
overflow_add-result-else-is_empty c =
    let fits : c.last_held_time.result + 1 < 2 ^ 32 = omega (arith, held-le c.args.results.now) in
    search rules
