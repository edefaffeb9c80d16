use Rattle.std.proofs.Common.{◌++◌, ◌∙◌, ℕ, List, ap, arith, drop, sym, append-nil}
use Rattle.s66_source.specs.{notes_text, classed_lines}
use Rattle.s66_source.proofs.KeptLines.{notes-first, notes-last, notes-step}
use Rattle.s66_source.proofs.keeper.Keeper.push_notes.Goals as goal

pub loop-passed-init : goal.loop-passed-init
loop-passed-init c =
    let source = c.args.self.now.source in
    let block = c.args.block.now in
    record {
      text = ap (λ n. c.args.out.now.items ++ notes_text block (drop n (classed_lines source))) c.first_line-passed.ensures ∙ ap (λ (notes : List ℕ). c.args.out.now.items ++ notes) (sym (notes-first source block));
      from = omega (arith, c.first_line-passed.ensures);
    }

pub loop-passed-preserved : goal.loop-passed-preserved
loop-passed-preserved c =
    let source = c.args.self.now.source in
    let block = c.args.block.now in
    record {
      text =
          notes-step source block c.lines-lines.result.now c.loop-passed.passed c.loop-passed.out.items c.push_note.new.out.items _ c.lines-lines.ensures c.loop-passed.invariant.from
          (omega (arith, c.loop-passed-test.true, c.saturating_sub-end.ensures, c.last_line.ensures)) c.in_ok-push_note.ensures c.loop-passed.invariant.text;
      from = (let from = c.loop-passed.invariant.from in omega (arith, from));
    }

pub returns : goal.returns
returns c =
    let source = c.args.self.now.source in
    let block = c.args.block.now in
    sym (append-nil c.loop-passed.out.items)
    ∙ ap (λ (notes : List ℕ). c.loop-passed.out.items ++ notes) (sym (notes-last source block c.loop-passed.passed (omega (arith, c.loop-passed-test.false, c.saturating_sub-end.ensures, c.last_line.ensures))))
    ∙ c.loop-passed.invariant.text
