use Rattle.std.proofs.Common.{◌+◌, ◌∙◌, arith, subst}
use Rattle.s66_isa.specs.{instr_at}
use Rattle.s66_line.specs.{instrs_of, text_of, IsTextOf}
use Rattle.s66_answer.proofs.BlockTexts.{spelled-more, texts-more}
use Rattle.s66_answer.proofs.block_texts.texts_of.Goals as goal

pub loop-position-preserved : goal.loop-position-preserved
loop-position-preserved c =
    let i = c.loop-position.position in
    let block = c.args.block.now in
    let is : IsTextOf (text_of block (i + 1)) (instr_at (instrs_of block) (i + 1)) = subst (λ text. IsTextOf text (instr_at (instrs_of block) (i + 1))) c.text-bytes.ensures.value c.text-bytes.ensures.is_text in
    record {
      texts = texts-more block i c.loop-position.texts.items c.push.new.self.items _ (omega arith)
          c.loop-position.invariant.texts c.in_ok-push.ensures.items (c.in_ok-new.ensures ∙ c.as_slice.ensures.value ∙ c.text-bytes.ensures.value);
      spelled = spelled-more block i c.loop-position.invariant.spelled is;
    }
