use Rattle.std.proofs.Common.{◌++◌, ◌∙◌, ap, arith, sym, append-nil}
use Rattle.s66_source.specs.{names_in}
use Rattle.s66_source.proofs.DefinedNames.{no-short, one-short}
use Rattle.s66_source.proofs.redefined.push_if_short.Goals as goal

pub returns-then-name-gt-LONGEST_OPERATION : goal.returns-then-name-gt-LONGEST_OPERATION
returns-then-name-gt-LONGEST_OPERATION c =
    let long = c.if-name-gt-LONGEST_OPERATION.true in
    let names = names_in c.args.names.now.items in
    sym (append-nil names) ∙ ap (λ more. names ++ more) (sym (no-short c.args.name.now (omega (arith, long))))

pub returns : goal.returns
returns c =
    let short = c.if-name-gt-LONGEST_OPERATION.false in
    c.in_ok-push_name.ensures.ok ∙ ap (λ more. names_in c.args.names.now.items ++ more) (sym (one-short c.args.name.now (omega (arith, short))))
