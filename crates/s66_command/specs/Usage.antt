-- To be believed: the command line, by clap's rules: the subcommands, which options each takes, what words ask for by them, which words are
-- refused, and which ask for calls that go deep.
use Rattle.std.specs.Prelude.{◌≡◌, ◌≢◌, ◌⊎◌, ◌≤◌, ◌&&◌, ◌||◌, not, if◌then◌else◌, IfSome, is_some, ℕ, Bool, List, [], ◌∷◌, ◌++◌, fold, find, bytes_eq, false, true, Option, None, Some, codes}
use Rattle.std.specs.Prelude.{option_and_then, pos, map, option_map}
use Rattle.std.specs.Borrow.{Bor}
use Rattle.std.specs.Option.{option_map_or}
use Rattle.std.specs.Str.Parse.{digits_value, without_leading_plus}
use Rattle.clap.specs.Words.{App, IsAmong, Rule, app_of, fault_of, first_of, new_app, new_rule, one_of, rule_of, subcommand_of, with_rule, with_subcommand}
pub use Rattle.clap.specs.Words.{Text}
use Rattle.clap.specs.Takes.{is_given}
use Rattle.clap.specs.declared.builder.action.ArgAction.TheVariants.{SetTrue}
use Rattle.clap.specs.declared.builder.arg.Arg.{Arg}
use Rattle.clap.specs.declared.builder.command.Command.{Command as CommandLine}
use Rattle.clap.specs.declared.builder.command.Command.TheViews.{out-Command}
use Rattle.clap.specs.declared.builder.value_parser.ValueParser.TheVariants.{Signed}
use Rattle.clap.specs.declared.error.kind.ErrorKind.{ErrorKind}
use Rattle.clap.specs.declared.error.kind.ErrorKind.TheVariants as kind
use Rattle.s66_model.specs.{BUDGET_LIMIT, WORKERS_LIMIT, Options, Rule as LeafRule, NoneNamed, WrittenEarlier, ClampedStanding}
use Rattle.s66_command.specs.declared.limits.TheConstants.{BLOCK_NUMBER_LIMIT, NODES_DEFAULT, WORKERS_DEFAULT}
use Rattle.s66_command.specs.declared.subcommand.TheConstants.{SEARCH, STUDY, SUBCOMMANDS}
use Rattle.s66_command.specs.declared.subcommand.Value.{Value}
use Rattle.s66_command.specs.declared.subcommand.Value.TheVariants as value
use Rattle.s66_command.specs.declared.subcommand.Work.{Work}
use Rattle.s66_command.specs.declared.subcommand.Work.TheVariants as work
use Rattle.s66_command.specs.declared.command.Command.{Command}
use Rattle.s66_command.specs.declared.command.OrderStyle.{OrderStyle}
use Rattle.s66_command.specs.declared.command.SumStyle.{SumStyle}
use Rattle.s66_command.specs.declared.command.Asked.{Asked}
use Rattle.s66_command.specs.declared.command.Asked.TheVariants.{Time, Deps, Chart, Why, Page, Pairs, Order, Prove, Check, Sum, Compare, Json, Lint, Guard}
use Rattle.s66_command.specs.declared.options.SearchFlags.{SearchFlags}
use Rattle.s66_command.specs.declared.strategy.Strategy.{Strategy}
use Rattle.s66_command.specs.declared.usage.Usage.{Usage}
use Rattle.s66_command.specs.declared.usage.Usage.TheVariants.{Help, Bad, OutOfMemory}

-- an option by its name
abbrev pub named_rule : Text → Rule
named_rule name = record (new_rule name) { long = Some name }

-- a flag by its name
abbrev pub flag_rule : Text → Rule
flag_rule name = record (named_rule name) { action = Some SetTrue }

-- the numbers that an option takes, from the least to the most
pub record Limits : Type 0 where
  pub least : ℕ
  pub most : ℕ

-- an option whose value is a number within these limits
abbrev pub number_rule : Text → Limits → Rule
number_rule name limits = record (named_rule name) { value_names = 1; parser = Some (Signed (pos limits.least) (pos limits.most)) }

-- an option by its name and the value that it takes
abbrev pub option_rule : Text → Value → Rule
option_rule name value.Flag = flag_rule name
option_rule name value.Written = record (named_rule name) { value_names = 1 }
option_rule name (value.Number least most) = number_rule name (record { least = least; most = most })

-- a text of the table
abbrev pub TableText : Type 0
TableText = record { now : Text }

-- options of the table, each by its name and the value that it takes
abbrev pub options_in : List (TableText × Value × TableText) → List (Text × Value)
options_in rows = map (λ (o : TableText × Value × TableText). (o.0.now, o.1)) rows

-- a subcommand: its name, how it works, and its own options
pub record Subcommand : Type 0 where
  pub name : Text
  pub work : Work
  pub own : List (Text × Value)

-- all subcommands, by the table
abbrev pub subcommands : List Subcommand
subcommands = map (λ r. record { name = r.0.now; work = r.1; own = options_in r.2.now }) SUBCOMMANDS.now

-- the subcommand of this name
abbrev pub subcommand_named : Text → Option Subcommand
subcommand_named name = find (λ s. bytes_eq s.name name) subcommands

-- the options that a subcommand takes, by how it works and by its own: if it searches, those of a search too
abbrev pub options_by : Work → List (Text × Value) → List (Text × Value)
options_by work.Search own = options_in SEARCH.now ++ (own ++ options_in STUDY.now)
options_by work own = own

-- a command line with these options too
abbrev pub with_options : App → List (Text × Value) → App
with_options a options = fold (λ a o. with_rule a (option_rule o.0 o.1)) a options

-- the command line of a subcommand
abbrev pub app_of_subcommand : Subcommand → App
app_of_subcommand s = with_options (new_app s.name) (options_by s.work s.own)

-- a command line with these subcommands too
abbrev pub with_subcommands : App → List Subcommand → App
with_subcommands a subcommands = fold (λ a s. with_subcommand a (app_of_subcommand s).top) a subcommands

-- the command line before its subcommands: one is required, and there is a version
abbrev pub start_app : App
start_app =
    let a = new_app (codes "s66") in
    record a { top = record a.top { subcommand_required = true; has_version = true } }

-- the command line of the program
abbrev pub s66_app : App
s66_app = with_subcommands start_app subcommands

-- the argument is this one, and not for all subcommands
abbrev pub IsArgumentOf : Rule → Arg → Type 0
IsArgumentOf r a = (rule_of a ≡ r) × (a.global ≡ false)

-- the command line is this one, and none of its options is for all subcommands
abbrev pub IsCommandOf : App → CommandLine → Type 0
IsCommandOf a c = (app_of c ≡ a) × ((out-Command c).has_globals ≡ false)

-- the subcommand that the words name
abbrev pub subcommand_name : List Text → Option Text
subcommand_name words = option_map (λ s. s.0) (subcommand_of s66_app words)

-- the words give the subcommand this option
abbrev pub has_option : Text → List Text → Bool
has_option id words = option_map_or (λ s. is_given id s.1) (subcommand_of s66_app words) false

-- the text that the words give the subcommand for this option
abbrev pub option_text : Text → List Text → Option Text
option_text id words = option_and_then (λ s. one_of id s.1) (subcommand_of s66_app words)

-- the text that the words give the subcommand for this option, as it stands
abbrev pub plain_text : Text → List Text → Option Text
plain_text id words = option_and_then (λ s. first_of id s.1) (subcommand_of s66_app words)

-- the words give the subcommand a value for this option, which has no other
abbrev pub has_value : Text → List Text → Bool
has_value id words = is_some (plain_text id words)

-- the number that a text is
abbrev pub written_number : Text → ℕ
written_number text = digits_value 10 (without_leading_plus text)

-- a number of a text, if there is one, is within the limits
abbrev pub IsNumberIn : Limits → Option Text → Option ℕ → Type 0
IsNumberIn limits text number = (number ≡ option_map written_number text) × IfSome number (λ n. (limits.least ≤ n) × (n ≤ limits.most))

-- the number of the text, or the default if there is none, is within the limits
abbrev pub IsNumberOrDefault : Limits → (default : ℕ) → Option Text → ℕ → Type 0
IsNumberOrDefault limits default text n = (n ≡ option_map_or written_number text default) × (limits.least ≤ n) × (n ≤ limits.most)

-- the flags of a search that the words give the subcommand
abbrev pub search_flags : List Text → SearchFlags
search_flags words =
    record { dominate = has_option (codes "dominate") words; dominate_tree = has_option (codes "dominate-tree") words; deep = has_option (codes "deep") words }

-- which nodes dominated leaves name by the flags of a search
abbrev pub rule_by : SearchFlags → LeafRule
rule_by flags = if flags.dominate_tree || flags.deep then ClampedStanding else (if flags.dominate then WrittenEarlier else NoneNamed)

-- two of the three flags of a search hold, or all
abbrev pub are_two : SearchFlags → Bool
are_two flags = (flags.dominate && flags.dominate_tree) || ((flags.dominate && flags.deep) || (flags.dominate_tree && flags.deep))

-- one of them holds
abbrev pub is_one : SearchFlags → Bool
is_one flags = flags.dominate || (flags.dominate_tree || flags.deep)

-- the words give the subcommand an option of a search, or the number of a block
abbrev pub gives_search : List Text → Bool
gives_search words =
    is_one (search_flags words) || (has_value (codes "nodes") words || (has_value (codes "workers") words || has_value (codes "block") words))

-- the words give the subcommand options that don't go together: two flags of a search, `--columns` without `--keep`, which it needs, or
-- `--compare`, which shows all blocks and makes no search, with an option of one
abbrev pub gives_conflict : List Text → Bool
gives_conflict words =
    are_two (search_flags words)
    || ((has_option (codes "columns") words && not (has_option (codes "keep") words)) || (has_option (codes "compare") words && gives_search words))

-- the words, of which the first is the program's name, have no fault, give no options that don't go together, and name this subcommand
abbrev pub Calls : List Text → (name : Text) → Type 0
Calls words name = (fault_of s66_app words ≡ []) × (gives_conflict words ≡ false) × (subcommand_name words ≡ Some name)

-- they name this subcommand, which works so by the table
abbrev pub AsksFor : List Text → (name : Text) → Work → Type 0
AsksFor words name work = Calls words name × (option_map (λ s. s.work) (subcommand_named name) ≡ Some work)

-- they give the subcommand the flag, or don't
abbrev pub GivesFlag : (name : Text) → List Text → Bool → Type 0
GivesFlag name words flag = flag ≡ has_option name words

-- they give a search this number of workers
abbrev pub GivesWorkers : List Text → ℕ → Type 0
GivesWorkers words workers = IsNumberOrDefault (record { least = 1; most = WORKERS_LIMIT }) WORKERS_DEFAULT (option_text (codes "workers") words) workers

-- they give a search this number of splits at most
abbrev pub GivesNodes : List Text → ℕ → Type 0
GivesNodes words nodes = IsNumberOrDefault (record { least = 0; most = BUDGET_LIMIT }) NODES_DEFAULT (option_text (codes "nodes") words) nodes

-- they give a search these options: numbers within their limits, and a rule by the flags
abbrev pub GivesOptions : List Text → Options → Type 0
GivesOptions words options =
    GivesWorkers words options.workers × GivesNodes words options.nodes × (options.rule ≡ rule_by (search_flags words))

-- they say how to look for the best order: by these options of a search, and by facts too if the flag `--deep` is given
abbrev pub GivesSearch : List Text → Strategy → Type 0
GivesSearch words strategy = GivesOptions words strategy.search × GivesFlag (codes "deep") words strategy.deep

-- they ask for the best order, and say how to look for it, or don't ask for it
abbrev pub GivesOrder : List Text → Option Strategy → Type 0
GivesOrder words None = has_option (codes "order") words ≡ false
GivesOrder words (Some strategy) = (has_option (codes "order") words ≡ true) × GivesSearch words strategy

-- they give it the number of a block, or none
abbrev pub GivesBlock : List Text → Option ℕ → Type 0
GivesBlock words block = IsNumberIn (record { least = 1; most = BLOCK_NUMBER_LIMIT }) (option_text (codes "block") words) block

-- they give it this text for its profile, if any
abbrev pub GivesProfile : List Text → Option (Bor Text) → Type 0
GivesProfile words profile = option_map (λ text. text.now) profile ≡ plain_text (codes "profile") words

-- they say how an order is printed
abbrev pub GivesStyle : List Text → OrderStyle → Type 0
GivesStyle words style =
    GivesFlag (codes "trace") words style.trace × GivesFlag (codes "keep") words style.keep × GivesFlag (codes "columns") words style.columns
    × GivesFlag (codes "quiet") words style.quiet

-- they say what is printed beside the times that `sum` prints
abbrev pub GivesSumStyle : List Text → SumStyle → Type 0
GivesSumStyle words style = GivesFlag (codes "trace") words style.trace × GivesFlag (codes "words") words style.words

-- they ask for this, by the name of a subcommand, which works so, and by its own options
abbrev pub AsksBy : List Text → Asked → Type 0
AsksBy words (Time trace) = AsksFor words (codes "time") work.Plain × GivesFlag (codes "trace") words trace
AsksBy words (Deps text) = AsksFor words (codes "deps") work.Plain × GivesFlag (codes "text") words text
AsksBy words (Chart text units) = AsksFor words (codes "chart") work.Plain × GivesFlag (codes "text") words text × GivesFlag (codes "units") words units
AsksBy words (Why order text) = AsksFor words (codes "why") work.Search × GivesOrder words order × GivesFlag (codes "text") words text
AsksBy words (Page strategy) = AsksFor words (codes "page") work.Search × GivesSearch words strategy × GivesFlag (codes "compare") words false
AsksBy words Pairs = AsksFor words (codes "page") work.Search × GivesFlag (codes "compare") words true
AsksBy words (Order strategy style) = AsksFor words (codes "order") work.Search × GivesSearch words strategy × GivesStyle words style
AsksBy words (Prove strategy) = AsksFor words (codes "prove") work.Search × GivesSearch words strategy
AsksBy words (Check text) = AsksFor words (codes "check") work.Check × GivesFlag (codes "text") words text
AsksBy words (Sum strategy style) = AsksFor words (codes "sum") work.Search × GivesSearch words strategy × GivesSumStyle words style
AsksBy words (Compare text) = AsksFor words (codes "compare") work.Plain × GivesFlag (codes "text") words text
AsksBy words (Json order) = AsksFor words (codes "json") work.Search × GivesOrder words order
AsksBy words Lint = AsksFor words (codes "lint") work.Plain
AsksBy words Guard = AsksFor words (codes "guard") work.Plain

-- they ask for the command; what a subcommand doesn't take, no words give it
abbrev pub Asks : List Text → Command → Type 0
Asks words command =
    AsksBy words command.asked × GivesFlag (codes "cut") words command.cut × GivesBlock words command.block × GivesProfile words command.profile
    × GivesFlag (codes "strict") words command.strict × GivesFlag (codes "some") words command.some

-- a kind of error that is no mistake
abbrev pub IsHelp : ErrorKind → Type 0
IsHelp k = (k ≡ kind.DisplayHelp) ⊎ (k ≡ kind.DisplayVersion)

-- a kind of error that is a mistake
abbrev pub IsMistake : ErrorKind → Type 0
IsMistake k = (IsHelp k → ⊥) × (k ≢ kind.OutOfMemory)

-- how an error of this kind is shown; out of memory may come in place of any other
abbrev pub IsUsageOf : ErrorKind → Usage → Type 0
IsUsageOf k (Help text) = IsHelp k
IsUsageOf k (Bad text) = IsMistake k
IsUsageOf k OutOfMemory = Unit {0}

-- the words are no command: they ask for help, or they have a fault that is no help, or they have none but give options that don't go together
abbrev pub Refuses : List Text → Usage → Type 0
Refuses words (Help text) = (k : ErrorKind) × IsAmong k (fault_of s66_app words) × IsHelp k
Refuses words (Bad text) =
    ((k : ErrorKind) × IsAmong k (fault_of s66_app words) × (IsHelp k → ⊥)) ⊎ ((fault_of s66_app words ≡ []) × (gives_conflict words ≡ true))
Refuses words OutOfMemory = Unit {0}

abbrev pub usage_code : Usage → ℕ
usage_code (Help text) = 0
usage_code (Bad text) = 2
usage_code OutOfMemory = 4

-- the calls of a subcommand that works so go deep: those of a search and of a check do
abbrev pub is_deep : Work → Bool
is_deep work.Search = true
is_deep work.Check = true
is_deep work.Plain = false

-- the second word names a subcommand whose calls go deep; the first is the program's name
abbrev pub go_deep : List Text → Bool
go_deep (program ∷ name ∷ more) = option_map_or (λ s. is_deep s.work) (subcommand_named name) false
go_deep words = false
