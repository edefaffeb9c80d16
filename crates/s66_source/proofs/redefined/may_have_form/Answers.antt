use Rattle.std.proofs.Common.{◌∙◌, ap₂, sym}
use Rattle.s66_source.specs.{names_in, one_begins_so}
use Rattle.s66_source.proofs.DefinedNames.{no-form}
use Rattle.s66_source.proofs.redefined.may_have_form.Goals as goal

pub returns-in-len2-up : goal.returns-in-len2-up
returns-in-len2-up c = λ none operand.
    let names = names_in c.args.forms.now in
    no-form names c.args.operation.now operand c.in-len2-up.len_at_least
    (ap₂ (λ first second. one_begins_so first second names) (sym c.to_ascii_uppercase.ensures.value) (sym c.to_ascii_uppercase-in-len2-up.ensures.value) ∙ sym c.one_begins_so.ensures ∙ none)
