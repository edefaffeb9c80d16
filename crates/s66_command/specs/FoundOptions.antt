-- Used by contracts within the crate alone: what clap found among the words.
use Rattle.std.specs.Prelude.{◌≡◌, ◌++◌, List, [], Some, option_map, unwrap_or, find, fold, bytes_eq}
use Rattle.clap.specs.Simple.{filled}
use Rattle.clap.specs.Words.{Rule, Text, built, new_rule, fault_of, rows_of, subcommand_of, subcommand_rows_of}
use Rattle.clap.specs.declared.parser.matches.ArgMatches.{ArgMatches}
use Rattle.clap.specs.declared.parser.matches.Found.{Found}
use Rattle.s66_command.specs.Usage.{flag_rule, s66_app}

-- the words have no fault, and the matches are theirs
abbrev pub IsTaken : ArgMatches → List Text → Type 0
IsTaken m words = (fault_of s66_app words ≡ []) × (subcommand_rows_of m ≡ subcommand_of s66_app words)

-- the words have no fault, and what was found is theirs for the subcommand
abbrev pub IsFoundBy : Found → List Text → Type 0
IsFoundBy found words = (fault_of s66_app words ≡ []) × (option_map (λ s. s.1) (subcommand_of s66_app words) ≡ Some (rows_of found))

-- the first option of this name, of all subcommands
abbrev pub rule_called : Text → Rule
rule_called name = unwrap_or (find (λ a. bytes_eq a.id name) (fold (λ rules s. rules ++ s.rules) [] (built s66_app).subs)) (new_rule name)

-- a name of a flag
abbrev pub IsFlagName : Text → Type 0
IsFlagName name = filled (flag_rule name) ≡ rule_called name
