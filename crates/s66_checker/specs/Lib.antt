pub mod Dominating
pub mod Checked
pub mod KeptPrefix
pub mod PastWords
pub mod Reasons
pub mod Verdict
pub mod TrueClaims
pub mod Walk
pub mod Examples
pub mod KeptKnown
pub mod NamedNodes
pub use Dominating.{is_beginning_after, is_same_set, is_beginning, is_earlier, are_registers_no_later, are_places_no_later, are_units_no_later, is_no_later, is_ahead, dominates_by}
pub use Dominating.{are_results_no_later, are_operands_no_later, is_reader_no_later, are_readers_no_later, finds_no_later, number_finds_no_later, dominates_in_use}
pub use KeptPrefix.{TOTAL_LIMIT, with_profile, AreTimed, AreNeeds, IsPrefix}
pub use PastWords.{AreFree, never_busy, AreWords, ArePast}
pub use Reasons.{number_of}
pub use Verdict.{verdict, problem_of, is_legal_order, facts_of, premises_of, known_of, time_line_number, bound_line_number, order_line_number, fact_line_number, tree_line_number, node_on, is_complete}
pub use Verdict.{is_at_its_place, is_walk, has_links, leaf_fault, is_early_enough, is_name, dominated_fault, is_name_at, name_of, at_line_fault, next_fault, turned_fault, load_from_fault, line_fault}
pub use Verdict.{unless, lines_verdict, begun_by, facts_verdict, proof_verdict}
pub use TrueClaims.{line_ending, line_tree, IsShown, IsTrueClaim}
pub use Walk.{coming_after, HasReady}
pub use Examples.{refused_order, slow_one_load, multiplies_at_once, load_and_multiplies, multiplies_split, second_line, third_line, last_leaf, late_naming, late_order, late_misplaced, increments}
pub use Examples.{four_increments, with_facts, three_sums, two_sums, first_of_two, after_pair, at_the_end, booleans_between, three_adds, booleans_left, one_is_added, waits_for_the_product}
pub use Examples.{before_their_writers, multiplies_left, booleans_named, increments_named, waits_for_the_unit, waits_for_x1, two_parcels_beside}
pub use KeptKnown.{KnowsAll, AreTaken, IsUntaken, HasTails, AreTails, is_reached, is_result_late, is_point_late}
pub use NamedNodes.{IsNodeOn}
pub use declared.replay.words.FreeTimes.{FreeTimes}
pub use declared.replay.words.Words.{Words}
pub use declared.verdict.Reason.{Reason}
pub use declared.verdict.Verdict.TheVariants.{No, Yes}
