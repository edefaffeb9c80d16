use Rattle.std.proofs.Common.{◌==◌, length, sym, ap, ◌∙◌}
use Rattle.s66_line.specs.{operand, upper, word}
use Rattle.s66_source.specs.{before_byte}
use Rattle.s66_source.proofs.DefinedNames.{named-macro, upper-before}
use Rattle.s66_source.proofs.redefined.defined_name.Goals as goal

pub returns : goal.returns
returns c =
    ap upper c.before_byte.ensures.value
    ∙ ap (λ bytes. upper (before_byte 44 bytes)) (c.split_word.ensures.word ∙ ap word c.from_operand.ensures.value)
    ∙ upper-before (operand c.args.body.now)
    ∙ sym (named-macro c.args.body.now c.args.operation.now c.requires (sym c.is_one_of.ensures ∙ c.if-not-is_one_of.false) (ap (λ field. length field == 0) (sym c.fields_of.ensures.location) ∙ sym c.is_empty.ensures ∙ c.if-not-is_empty.false))
