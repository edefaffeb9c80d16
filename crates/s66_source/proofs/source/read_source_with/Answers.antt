use Rattle.std.proofs.Common.{false, refl, ap, ◌∙◌}
use Rattle.std.proofs.lemmas.Result.{err_from_is_err_and}
use Rattle.s66_source.specs.{Reading, flagged_lines, put_lines, state, classed_lines, blocks_of}
use Rattle.s66_source.specs.Kept.{Kept}
use Rattle.s66_source.proofs.ReaderBlocks.{source-blocks, Gives-accepted, Gives-refusal}
use Rattle.s66_source.proofs.KeptRead.{kept-read}
use Rattle.s66_source.proofs.source.read_source_with.Goals as goal

pub returns-in_err-take_all-clause-read : goal.returns-in_err-take_all-clause-read
returns-in_err-take_all-clause-read c =
    let source : Reading = record { cut = c.args.cut; text = c.args.text.now } in
    let p = err_from_is_err_and c.from_residual-in_err-take_all.result c.from_residual-in_err-take_all.ensures.1 in
    let step = rw (c.at_first-standing.ensures, c.in_ok-redefined.ensures) at c.in_err-take_all.ensures.step in
    rw (p.1, p.2) (Gives-refusal {X = Reading} (λ source. blocks_of (classed_lines source)) c.in_err-take_all.field-0.0 source _ (state c.take_all.new.self) (rw (c.new.ensures.items, c.new-2.ensures.items, c.new-3.ensures) refl) step)

pub invariant_of-result : goal.invariant_of-result
invariant_of-result c =
    let source : Reading = record { cut = c.args.cut; text = c.args.text.now } in
    let step = rw (c.at_first-standing.ensures, c.in_ok-redefined.ensures) at c.in_ok-take_all.ensures.step in
    let kept = rw (c.at_first-standing.ensures, c.in_ok-redefined.ensures) at c.in_ok-take_all.ensures.kept in (
      source-blocks source _ (state c.take_all.new.self) (state c.end_block.new.self) (rw (c.new.ensures.items, c.new-2.ensures.items, c.new-3.ensures) refl) step c.in_ok-end_block.ensures.step,
      c.into_lines.ensures ∙ ap (λ (k : Kept). k.lines) (c.end_block.ensures.kept ∙ kept ∙ ap (λ k. put_lines false k (flagged_lines source)) c.new-3.ensures) ∙ kept-read source,
    )

pub returns-clause-read : goal.returns-clause-read
returns-clause-read c =
    let source : Reading = record { cut = c.args.cut; text = c.args.text.now } in
    let step = rw (c.at_first-standing.ensures, c.in_ok-redefined.ensures) at c.in_ok-take_all.ensures.step in
    Gives-accepted source _ (source-blocks source _ (state c.take_all.new.self) (state c.end_block.new.self) (rw (c.new.ensures.items, c.new-2.ensures.items, c.new-3.ensures) refl) step c.in_ok-end_block.ensures.step)
