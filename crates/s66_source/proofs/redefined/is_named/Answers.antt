use Rattle.std.proofs.Common.{◌∙◌, ap, sym}
use Rattle.s66_source.specs.{is_one_of, names_in}
use Rattle.s66_source.proofs.Standings.{upper-same}
use Rattle.s66_source.proofs.redefined.is_named.Goals as goal

pub returns-then-is_upper_case : goal.returns-then-is_upper_case
returns-then-is_upper_case c =
    c.is_among.ensures ∙ ap (is_one_of (names_in c.args.names.now)) (sym (upper-same c.args.word.now (sym c.is_upper_case.ensures ∙ c.if-is_upper_case.true)))
