-- To be believed: what a command has of a profile and of a search, and what it reads.
use Rattle.std.specs.Prelude.{ℕ, Bool, true, List, Option, None, Some, option_map}
use Rattle.s66_command.specs.declared.command.Asked.{Asked}
use Rattle.s66_command.specs.declared.command.Asked.TheVariants.{Why, Page, Pairs, Order, Prove, Check, Sum, Compare, Json, Lint, Guard}
use Rattle.s66_command.specs.declared.command.Command.{Command}
use Rattle.s66_command.specs.declared.command.Reads.{Reads}
use Rattle.s66_command.specs.declared.command.Reads.TheVariants.{Source, Sources, Documents, Text}
use Rattle.s66_command.specs.declared.strategy.Strategy.{Strategy}

-- the text of a profile that a command has, if any
abbrev pub profile_text : Command → Option (List ℕ)
profile_text command = option_map (λ text. text.now) command.profile

-- how the best orders are looked for that are written, if any are
abbrev pub strategy_of : Asked → Option Strategy
strategy_of (Why order text) = order
strategy_of (Page strategy) = Some strategy
strategy_of (Order strategy style) = Some strategy
strategy_of (Prove strategy) = Some strategy
strategy_of (Sum strategy style) = Some strategy
strategy_of (Json order) = order
strategy_of asked = None

-- what is read for it
abbrev pub reads_of : Asked → Reads
reads_of Lint = Text
reads_of (Compare text) = Sources
reads_of Pairs = Sources
reads_of (Check text) = Documents
reads_of asked = Source

-- a source is read for it as with `--cut`, if that is given: always for `guard`
abbrev pub cuts : Asked → (cut : Bool) → Bool
cuts Guard cut = true
cuts asked cut = cut

abbrev pub reads_cut : Command → Bool
reads_cut command = cuts command.asked command.cut
