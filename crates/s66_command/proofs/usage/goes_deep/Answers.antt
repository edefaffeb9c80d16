use Rattle.std.specs.Option.{option_map_or}
use Rattle.std.proofs.Common.{◌≡◌, ◌∙◌, ◌<◌, ◌≤◌, ap, arith, false, Bool, List, ◌∷◌, Option, None, Some, get_or, length, map, option_map, refl, sym}
use Rattle.s66_command.specs.{SubcommandRow, in_row, Subcommand, Text, go_deep, is_deep, subcommand_named}
use Rattle.s66_command.proofs.usage.goes_deep.Goals as goal

abbrev is_deep_row : Option SubcommandRow → Bool
is_deep_row row = option_map_or (λ (r : SubcommandRow). is_deep r.1) row false

abbrev is_deep_found : Option Subcommand → Bool
is_deep_found found = option_map_or (λ (s : Subcommand). is_deep s.work) found false

deep-row : (row : Option SubcommandRow) → is_deep_row row ≡ is_deep_found (option_map in_row row)
deep-row None = refl
deep-row (Some r) = refl

few-words : {A : Type 0} (text : A → Text) (words : List A) → length words < 2 → false ≡ go_deep (map text words)
few-words text (program ∷ second ∷ more) few = absurd (omega arith)
few-words text words few = refl

by-second : {A : Type 0} (text : A → Text) (words : List A) (second : A) (name : Text) (row : Option SubcommandRow) → 2 ≤ length words → second ≡ get_or words 1 second →
    name ≡ text second → option_map in_row row ≡ subcommand_named name → is_deep_row row ≡ go_deep (map text words)
by-second text (program ∷ next ∷ more) second name row many at named found = deep-row row ∙ ap is_deep_found (found ∙ ap subcommand_named (named ∙ ap text at))
by-second text words second name row many at named found = absurd (omega arith)

pub returns-in_default : goal.returns-in_default
returns-in_default g c = few-words g.S.AsStr.text c.args.words.now c.in_default.len_below

pub returns-in-Some : goal.returns-in-Some
returns-in-Some g c =
    c.is_deep.ensures ∙ ap is_deep_row (sym c.in-Some.is)
    ∙ by-second g.S.AsStr.text c.args.words.now c.name-item.result c.as_str.result.now c.row_named.result c.in-len2-up.len_at_least c.name-item.is c.as_str.ensures c.row_named.ensures

pub returns-in-None : goal.returns-in-None
returns-in-None g c =
    ap is_deep_row (sym c.in-None.is)
    ∙ by-second g.S.AsStr.text c.args.words.now c.name-item.result c.as_str.result.now c.row_named.result c.in-len2-up.len_at_least c.name-item.is c.as_str.ensures c.row_named.ensures
