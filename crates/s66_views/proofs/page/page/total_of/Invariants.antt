use Rattle.std.proofs.Common.{◌≡◌, ◌≤◌, ◌+◌, ◌*◌, ◌^◌, length}
use Rattle.s66_isa.specs.{tally, weigh}
use Rattle.s66_views.specs.{AreOf, is_best, summaries, Summary}
use Rattle.s66_views.proofs.page.page.total_of.Given as goal

abbrev pub invariant-loop-blocks : goal.invariant-loop-blocks
invariant-loop-blocks l = record {
  count : l.count + weigh (λ (b : Summary). b.count) (summaries l.timer l.number l.blocks l.found) ≡ weigh (λ (b : Summary). b.count) (summaries l.fn.timer l.fn.before l.fn.blocks l.fn.found);
  source : l.source + weigh (λ (b : Summary). b.source) (summaries l.timer l.number l.blocks l.found) ≡ weigh (λ (b : Summary). b.source) (summaries l.fn.timer l.fn.before l.fn.blocks l.fn.found);
  time : l.time + weigh (λ (b : Summary). b.time) (summaries l.timer l.number l.blocks l.found) ≡ weigh (λ (b : Summary). b.time) (summaries l.fn.timer l.fn.before l.fn.blocks l.fn.found);
  best : l.best + tally is_best (summaries l.timer l.number l.blocks l.found) ≡ tally is_best (summaries l.fn.timer l.fn.before l.fn.blocks l.fn.found);
  small_count : l.count + 2 ^ 32 * length l.blocks ≤ 2 ^ 32 * length l.fn.blocks;
  small_source : l.source + 2 ^ 32 * length l.blocks ≤ 2 ^ 32 * length l.fn.blocks;
  small_time : l.time + 2 ^ 32 * length l.blocks ≤ 2 ^ 32 * length l.fn.blocks;
  small_best : l.best + length l.blocks ≤ length l.fn.blocks;
  profile : l.timer ≡ l.fn.timer;
  orders : AreOf l.blocks l.found;
  number : l.number + length l.blocks ≡ l.fn.before + length l.fn.blocks;
}

abbrev pub decreases-loop-blocks : goal.decreases-loop-blocks
decreases-loop-blocks l = length l.blocks
