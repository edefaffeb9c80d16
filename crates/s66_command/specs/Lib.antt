pub mod Usage
pub mod CommandParts
pub mod Rows
pub mod FoundOptions
pub mod ProfileText
pub mod ProfileGiven
pub mod ProfileRefusals
pub mod ProfileHint
pub mod ProfileExamples
pub mod Changes
pub use Usage.{subcommands, Text, named_rule, flag_rule, Limits, number_rule, option_rule, options_in, Subcommand, subcommand_named, options_by, with_options, app_of_subcommand, with_subcommands}
pub use Usage.{start_app, s66_app, IsArgumentOf, IsCommandOf, subcommand_name, option_text, plain_text, has_value, IsNumberIn, IsNumberOrDefault, search_flags, rule_by, are_two, is_one, gives_search}
pub use Usage.{gives_conflict, Calls, GivesFlag, GivesWorkers, GivesNodes, GivesSearch, GivesOrder, GivesBlock, GivesProfile, Asks, IsMistake, IsUsageOf, Refuses, usage_code, is_deep, go_deep}
pub use CommandParts.{profile_text, strategy_of, reads_of, reads_cut}
pub use Rows.{OptionRow, in_rows, SubcommandRow, in_row, IsNameOf, AreCalledByName}
pub use FoundOptions.{IsTaken, IsFoundBy, rule_called, IsFlagName}
pub use ProfileText.{place_of, profile_number, with_members, profile_numbers, is_name_byte, may_follow, is_list_behind, is_list, byte_in_json, object_of_list, json_of, profile_numbers_in_text}
pub use ProfileText.{profile_in_text}
pub use ProfileGiven.{Gives}
pub use ProfileRefusals.{profile_refusal_line}
pub use ProfileHint.{shown, wrong_name, hint_in_members, hint_in_text}
pub use ProfileExamples.{standard_but}
pub use Changes.{changes, changes_from, name_at, changes_text}
pub use declared.changes.Change.{Change}
pub use declared.command.Asked.{Asked}
pub use declared.command.Asked.TheVariants.{Chart, Check, Compare, Deps, Guard, Json, Lint, Order, Page, Pairs, Prove, Sum, Time, Why}
pub use declared.command.Command.{Command}
pub use declared.command.OrderStyle.{OrderStyle}
pub use declared.command.Reads.{Reads}
pub use declared.command.Reads.TheVariants.{Documents, Source, Sources}
pub use declared.command.SumStyle.{SumStyle}
pub use declared.limits.TheConstants.{BLOCK_NUMBER_LIMIT, NODES_DEFAULT, WORKERS_DEFAULT}
pub use declared.profile.TheConstants.{NAMES}
pub use declared.profile_error.ProfileError.{ProfileError}
pub use declared.profile_error.ProfileError.TheVariants.{BadProfile}
pub use declared.strategy.Strategy.{Strategy}
pub use declared.subcommand.TheConstants.{SEARCH, STUDY}
pub use declared.subcommand.Value.{Value}
pub use declared.subcommand.Work.{Work}
pub use declared.subcommand.Work.TheVariants.{Plain, Search}
pub use declared.usage.Usage.TheVariants.{Bad, Help, OutOfMemory}
