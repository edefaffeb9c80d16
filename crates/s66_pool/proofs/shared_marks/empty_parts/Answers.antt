use Rattle.std.proofs.Common.{◌≡◌, ap, arith}
use Rattle.std.proofs.lemmas.List.Elements.{All-push, All-same}
use Rattle.s66_line.specs.{instrs_of}
use Rattle.s66_node.specs.{MarkTable}
use Rattle.s66_pool.proofs.shared_marks.empty_parts.Goals as goal

pub loop-preserved : goal.loop-preserved
loop-preserved c =
    let own : MarkTable → Type 0 = λ p. p.problem ≡ record { block = instrs_of c.args.block.now; profile = c.args.profile.now } in
    record {
      count = omega arith;
      room = omega arith;
      own = All-same own _ _ c.push_reserved.ensures.items (All-push own c.loop.parts.items c.with_limit.result c.loop.invariant.own (ap (λ (p : MarkTable). p.problem) c.with_limit.ensures));
    }
