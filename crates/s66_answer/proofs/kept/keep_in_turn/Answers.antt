use Rattle.std.proofs.Common.{arith}
use Rattle.s66_answer.proofs.KeptParts.{all-kept, begins, goes-on}
use Rattle.s66_answer.proofs.kept.keep_in_turn.Goals as goal

pub loop-done-init : goal.loop-done-init
loop-done-init g c =
    let s = c.args.searches.now in
    record { kept = begins (g.K.Keep.part s.what.now s.strategy s.profile.now) s.strategy s.profile.now s.before s.blocks.now _ c.new-parts.ensures.items; few = omega arith }

pub loop-done-preserved : goal.loop-done-preserved
loop-done-preserved g c =
    let s = c.args.searches.now in
    record {
      kept = goes-on (g.K.Keep.part s.what.now s.strategy s.profile.now) s.strategy s.profile.now s.before s.blocks.now c.loop-done.done c.index-blocks-done.result c.loop-done.parts.items c.keep_found.new.parts.items
          c.loop-done.bounded c.counted-bounded.result c.in_ok-is_best.is_best c.loop-done-test.true c.index-blocks-done.is c.in_ok-is_best.ensures c.counted-bounded.ensures.value c.loop-done.invariant.kept;
      few = omega (arith, c.counted-bounded.ensures.near, c.loop-done.invariant.few);
    }

pub returns : goal.returns
returns g c =
    let s = c.args.searches.now in
    all-kept (g.K.Keep.part s.what.now s.strategy s.profile.now) s.strategy s.profile.now s.before s.blocks.now c.loop-done.done c.loop-done.parts.items c.loop-done.bounded c.loop-done-test.false c.loop-done.invariant.kept
