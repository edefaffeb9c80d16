use Rattle.std.proofs.Common.{◌++◌, ◌∙◌, ap, sym, take}
use Rattle.s66_line.specs.{upper, operand_in}
use Rattle.s66_source.specs.{is_one_of, form_of, names_in}
use Rattle.s66_source.proofs.redefined.has_one_form.Goals as goal

pub returns-then-not-may_have_form : goal.returns-then-not-may_have_form
returns-then-not-may_have_form c =
    let names = names_in c.args.forms.now in
    let rest = form_of (operand_in c.args.bytes.now) in
    sym (ap (λ w. is_one_of names (take 2 (upper w) ++ rest)) (sym c.operation_and_operand.ensures.operation) ∙ c.may_have_form.ensures c.if-not-may_have_form.true rest)
