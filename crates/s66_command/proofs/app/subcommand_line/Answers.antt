use Rattle.std.proofs.Common.{sym, subst}
use Rattle.std.proofs.lemmas.Result.{IfOk-weaker}
use Rattle.clap.specs.Words.{new_app}
use Rattle.s66_command.specs.{SEARCH, STUDY, in_rows, IsCommandOf, options_by, options_in, with_options}
use Rattle.s66_command.proofs.CommandLine.{own-alone, with-heading, with-search}
use Rattle.s66_command.proofs.app.subcommand_line.Goals as goal

pub returns-in_ok-line-in-Search-2 : goal.returns-in_ok-line-in-Search-2
returns-in_ok-line-in-Search-2 c =
    let start = new_app c.args.row.0.now in
    let own = in_rows c.args.row.2.now in
    IfOk-weaker c.with_options-in-Search-2.result _ _
    (λ line is. subst (λ work. IsCommandOf (with_options start (options_by work own)) line) (sym c.in-Search.is) (subst (λ a. IsCommandOf a line) (sym (with-search start (options_in SEARCH.now) own (options_in STUDY.now))) is))
    (c.with_options-in-Search-2.ensures _
    (with-heading _ c.in_ok-line-in-Search-2.line c.next_help_heading-line.result _ c.next_help_heading-line.ensures (c.in_ok-line-in-Search-2.ensures _ (c.in_ok-line-in-Search.ensures start c.described-line.ensures))))

pub returns-in_default : goal.returns-in_default
returns-in_default c =
    let start = new_app c.args.row.0.now in
    let own = in_rows c.args.row.2.now in
    IfOk-weaker c.with_options-in_default.result _ _
    (λ line is. subst (λ options. IsCommandOf (with_options start options) line) (own-alone c.args.row.1 own c.in_default.not-Search) is)
    (c.with_options-in_default.ensures start c.described-line.ensures)
