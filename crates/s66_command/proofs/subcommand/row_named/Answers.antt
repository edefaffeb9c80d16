use Rattle.std.specs.Slice.Iter.{iter_rest}
use Rattle.std.proofs.Common.{◌∙◌, List, ap, bytes_eq, find, map, refl, rules, tests}
use Rattle.std.proofs.lemmas.Iterator.{YieldsList-from_slice}
use Rattle.std.proofs.lemmas.Iterator.Search.{find_from_yields_List}
use Rattle.s66_command.specs.{SubcommandRow, in_row, Subcommand}
use Rattle.s66_command.proofs.CommandLine.{found-in}
use Rattle.s66_command.proofs.subcommand.row_named.Goals as goal

pub returns : goal.returns
returns c =
    let rows = iter_rest c.iter.result in
    let found = find_from_yields_List (λ (row : SubcommandRow). bytes_eq row.0.now c.args.name.now) _ _ c.find.result c.find.ensures.ran (YieldsList-from_slice rows refl) (λ x b q k. search (rules, tests)) in
    found-in in_row (λ (s : Subcommand). bytes_eq s.name c.args.name.now) rows _ (c.copied.ensures ∙ found)
    ∙ ap (λ (rows : List SubcommandRow). find (λ (s : Subcommand). bytes_eq s.name c.args.name.now) (map in_row rows)) c.iter.ensures.rest
