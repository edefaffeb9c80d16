-- Used by contracts within the crate alone: rows of the table as the code has them.
use Rattle.std.specs.Prelude.{◌≡◌, ◌⊎◌, ◌++◌, List, [], ◌∷◌, codes, map, nat_eq, true}
use Rattle.std.specs.List.{list_all, starts_with}
use Rattle.std.specs.Borrow.{Bor}
use Rattle.s66_command.specs.Usage.{Subcommand, Text, subcommands}
use Rattle.s66_command.specs.declared.subcommand.TheConstants.{SUBCOMMANDS}
use Rattle.s66_command.specs.declared.subcommand.Value.{Value}
use Rattle.s66_command.specs.declared.subcommand.Work.{Work}

-- a row of an option: its name, the value that it takes, and what the help says
abbrev pub OptionRow : Type 0
OptionRow = Bor Text × Value × Bor Text

-- the options in such rows, each by its name and the value that it takes
abbrev pub in_rows : List OptionRow → List (Text × Value)
in_rows rows = map (λ (o : OptionRow). (o.0.now, o.1)) rows

-- a row of a subcommand: its name, how it works, its own options, and three texts of its help
abbrev pub SubcommandRow : Type 0
SubcommandRow = Bor Text × Work × Bor (List OptionRow) × Bor Text × Bor Text × Bor Text

-- the subcommand in such a row
abbrev pub in_row : SubcommandRow → Subcommand
in_row row = record { name = row.0.now; work = row.1; own = in_rows row.2.now }

-- a name of one of these subcommands
abbrev pub IsNameOf : List Subcommand → Text → Type 0
IsNameOf [] name = ⊥
IsNameOf (s ∷ rest) name = (name ≡ s.name) ⊎ IsNameOf rest name

-- a name of a subcommand
abbrev pub IsSubcommand : Text → Type 0
IsSubcommand name = IsNameOf subcommands name

-- how a subcommand is called, as its help shows it, is by the program's name and its own
abbrev pub AreCalledByName : Type 0
AreCalledByName = list_all (λ r. starts_with nat_eq r.4.now (codes "s66 " ++ r.0.now)) SUBCOMMANDS.now ≡ true
