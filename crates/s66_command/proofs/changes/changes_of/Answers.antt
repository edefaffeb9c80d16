use Rattle.std.proofs.Common.{◌∙◌, ap, ap₂}
use Rattle.s66_isa.specs.{Profile, entries}
use Rattle.s66_command.specs.{changes_from}
use Rattle.s66_command.proofs.changes.changes_of.Goals as goal

pub returns : goal.returns
returns c =
    c.changes_among.ensures ∙ ap₂ (changes_from 0) c.entries.ensures.value (c.entries-2.ensures.value ∙ ap (λ (p : Profile). entries p) c.standard.ensures.value)
