use Rattle.std.proofs.Common.{[], ◌∷◌, ◌++◌, ap, ◌∙◌}
use Rattle.std.proofs.lemmas.List.{map-append}
use Rattle.s66_source.specs.{names_in}
use Rattle.s66_source.proofs.DefinedNames.{upper-letters}
use Rattle.s66_source.proofs.redefined.push_name.Goals as goal

pub returns : goal.returns
returns c = record {
  ok = ap names_in c.in_ok-push.ensures.items
      ∙ map-append _ c.args.names.now.items _
      ∙ ap (λ name. names_in c.args.names.now.items ++ name ∷ []) (c.in_ok-to_ascii_uppercase.ensures.ok ∙ upper-letters c.args.name.now);
}
