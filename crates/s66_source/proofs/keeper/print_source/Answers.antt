use Rattle.std.proofs.Common.{◌∙◌, ap, sym, Ok}
use Rattle.s66_source.proofs.PrintedLines.{accepted-is}
use Rattle.s66_source.proofs.keeper.print_source.Goals as goal

pub print_all-requires : goal.print_all-requires
print_all-requires c =
    let source = c.args.source.now in
    record { accepted = c.blocks-2.ensures ∙ ap Ok (sym (accepted-is source c.blocks-2.result.now c.blocks-2.ensures)); given = c.requires }
