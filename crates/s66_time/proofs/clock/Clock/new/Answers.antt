use Rattle.std.proofs.Common.{arith, ap, ◌∙◌, List, length, min}
use Rattle.std.proofs.lemmas.List.{length-map}
use Rattle.s66_isa.specs.{tally, Row, row, same_kind, kind_of}
use Rattle.s66_isa.specs.Table.{Instr}
use Rattle.s66_model.specs.{Problem}
use Rattle.s66_line.specs.{instrs_of}
use Rattle.s66_time.specs.{kept_in}
use Rattle.s66_time.proofs.Clocks.{clock-start}
use Rattle.s66_time.proofs.KeptUnits.{rows-of-kind}
use Rattle.s66_time.proofs.clock.Clock.new.Goals as goal

pub of-shape-requires : goal.of-shape-requires
of-shape-requires c =
    omega (arith, ap length (c.as_slice.ensures.value ∙ c.rows_of-rows.ensures.rows), length-map (instrs_of c.args.block.now) (row c.args.profile.now), c.count.ensures)

pub invariant_of-result : goal.invariant_of-result
invariant_of-result c =
    let b : Problem = record { block = instrs_of c.args.block.now; profile = c.args.profile.now } in
    record {
      clock = clock-start b c.new.result c.new-2.result (omega (arith, c.count.ensures)) c.new-2.ensures c.new.ensures;
      counted = c.of-copies.ensures;
      kept = λ kind.
          c.of-shape.ensures kind
          ∙ ap (λ (rows : List Row). min (kept_in c.of-copies.result.counts kind) (tally (λ (r : Row). same_kind r.kind kind) rows)) (c.as_slice.ensures.value ∙ c.rows_of-rows.ensures.rows)
          ∙ ap (min (kept_in c.of-copies.result.counts kind)) (rows-of-kind b.profile kind b.block)
          ∙ ap (λ n. min n (tally (λ (i : Instr). same_kind (kind_of i.op.code) kind) b.block)) (c.of-copies.ensures kind);
      each = c.rows_of-rows.ensures.rows;
      digits = c.rows_of-rows.ensures.digits;
    }
