-- To be believed: what each command writes for what it reads, and how it ends.
use Rattle.std.specs.Prelude.{ℕ, ◌≡◌, Bool, true, false, List, Option, None, Some}
use Rattle.s66_isa.specs.{Profile, standard}
use Rattle.s66_command.specs.{profile_in_text, Command, Asked, Time, Deps, Chart, Why, Page, Pairs, Json, Order, Prove, Check, Lint, Sum, Compare, Guard, reads_cut, profile_text, reads_of, Reads}
use Rattle.s66_command.specs.{Source}
use Rattle.s66_source.specs.{Reading}
use Rattle.s66_answer.specs.{Status}
use Rattle.s66_program.specs.TimeText.{IsTimeOutput}
use Rattle.s66_program.specs.DepsText.{IsDepsOutput}
use Rattle.s66_program.specs.ChartText.{IsChartOutput}
use Rattle.s66_program.specs.WhyText.{IsWhyOutput}
use Rattle.s66_program.specs.JsonText.{IsJsonOutput}
use Rattle.s66_program.specs.PageText.{IsPageOutput}
use Rattle.s66_program.specs.OrderText.{IsOrdered}
use Rattle.s66_program.specs.ProveText.{IsProveOutput}
use Rattle.s66_program.specs.CheckText.{IsCheckOutput}
use Rattle.s66_program.specs.LintText.{IsLintOutput}
use Rattle.s66_program.specs.GuardText.{IsGuardOutput}
use Rattle.s66_program.specs.SumText.{IsSumOutput}
use Rattle.s66_program.specs.CompareText.{IsCompareOutput, IsPairsOutput}

-- PROFILES

-- the profile that is asked for: that of the text, or the standard one without a text
abbrev pub profile_asked : Option (List ℕ) → Option Profile
profile_asked None = Some standard
profile_asked (Some text) = profile_in_text text

-- the command asks for this profile
abbrev pub IsUnder : Command → Profile → Type 0
IsUnder command p = profile_asked (profile_text command) ≡ Some p

-- COMMANDS

-- an input, as a command reads it
abbrev pub source_in : Command → List ℕ → Reading
source_in command input = record { cut = reads_cut command; text = input }

-- what is asked for writes the text for a source under a profile, of all blocks or of one, and ends so
abbrev pub IsAskedOutput : Profile → Asked → (only : Option ℕ) (source : Reading) (text : List ℕ) → Status → Type 0
IsAskedOutput p (Time trace) only source text status = IsTimeOutput p trace only source text status
IsAskedOutput p (Deps texts) only source text status = IsDepsOutput texts only source text status
IsAskedOutput p (Chart texts units) only source text status = IsChartOutput p texts units only source text status
IsAskedOutput p (Why order texts) only source text status = IsWhyOutput p order texts only source text status
IsAskedOutput p (Json order) only source text status = IsJsonOutput p order only source text status
IsAskedOutput p (Page strategy) only source text status = IsPageOutput strategy p only source text status
IsAskedOutput p (Order strategy style) only source text status = IsOrdered strategy p style only source text status
IsAskedOutput p (Prove strategy) only source text status = IsProveOutput strategy p only source text status
IsAskedOutput p (Check texts) only source text status = IsCheckOutput texts source.text text status
IsAskedOutput p Lint only source text status = IsLintOutput source text status
IsAskedOutput p Guard only source text status = IsGuardOutput source text status
IsAskedOutput p (Sum strategy style) only source text status = IsSumOutput strategy p style only source text status
IsAskedOutput p (Compare texts) only source text status = IsCompareOutput p texts source.cut source.text text status
IsAskedOutput p Pairs only source text status = IsPairsOutput p source.cut source.text text status

-- for this input, under a profile, a command writes the text and ends so
abbrev pub IsOutput : Profile → Command → (input text : List ℕ) → Status → Type 0
IsOutput p command input text status = IsAskedOutput p command.asked command.block (source_in command input) text status

abbrev pub is_source : Reads → Bool
is_source Source = true
is_source reads = false

-- one source is read for it, which may be refused
abbrev pub reads_source : Asked → Bool
reads_source asked = is_source (reads_of asked)

-- what is written for it is of the blocks of one source
abbrev pub shows_blocks : Asked → Bool
shows_blocks Guard = false
shows_blocks asked = reads_source asked
