pub mod Moments
pub mod Facts
pub mod Paths
pub mod FactLines
pub mod InUse
pub mod LineTrees
pub mod Networks
pub mod KnownFacts
pub mod Suppositions
pub mod Examples
pub use Moments.{stage_time, time_at, time_of, writes, has_stage, is_moment, soonest, only_if, latency_to, fetches, own_arc, later_arc, arc}
pub use Facts.{Fact, Arc, Before, Begins, IsSo, AreSo, Follows, NoOrder, IsNumber, IsOnlyUnit, Work, shared_time, load_time, AreOnce, Window, IsWithin}
pub use Paths.{IsPlacedFirst, IsFirst, PrecedesBy, Precedes, IsInOrder, IsAtPrefix, IsStep, Hop, IsPath, waits, AreKept, Leads}
pub use FactLines.{Use, Line, ForcedPair, LoadArc, Supposed, fact_of, IsLateByParcels, IsLateByUnit, IsForced, use_time, IsBetween, AreBetween, IsFoundedByPaths, facts_after, IsTooLate}
pub use FactLines.{AreEach, IsRefuted, IsFounded, AreFounded}
pub use InUse.{ComesNoSooner, FindsNoLater, FindsInUse, DominatesInUse, IsNoWorseBelow}
pub use LineTrees.{LineEnding, AtLeaf, AtLines, DominatedBy, IsClosedByLines, is_closed, may_be_named, DominatesBelow, LineEndingShows, ShowsByLines}
pub use Networks.{through, Network, is_in_order, network, precedes, precedes_over, IsKnown, AreSteps, AreArcs, moments_of, moments_among, targets, most_arcs, RisesBy, IsRising, IsPlaced, stage_rank}
pub use Networks.{rank_by, HasOwnArcs, same_stage, same_moment, with_arc, with_pair, IsTransitive, HasNoRing, place_by, tail_over, tail, IsRemaining, IsNetworkPath, soonest_path, greatest_path}
pub use KnownFacts.{is_front, is_back, IsMomentWithin, IsAnchored, use_of, kind_of_load, line_of, later, latest, plus, span_over, span, reaches, Known, known_first, with_line, with_loads, arcs_of}
pub use KnownFacts.{is_number, is_late_by_parcels, is_late_by_unit, is_pair_taken, are_rising, leads_up, is_used_from, is_used, are_used, is_arc_up, is_load_taken, is_taken, are_taken, known_after}
pub use KnownFacts.{next_value, is_turned, is_left_from, is_left, is_loaded, load_of, turn, issue_at_least, start_at_least}
pub use Suppositions.{begins_supposition, is_of_supposition, Supposition, Premises, premises_by, premises_first, with_step, premises_after, may_be_supposed, is_late_at, is_late_through, is_late_load, is_late}
pub use Suppositions.{is_step_taken, are_steps_taken, shown_by, shown_by_all}
pub use Examples.{arc_in, hop, two_adds, unit_path, boolean_between_adds, two_multiplies, booleans_between, load_line, inner_line, two_copies_line, until_free_line, two_free_adds, still_line}
pub use Examples.{two_copies_of_a_quotient, first_of_two, two_sums, three_free_adds, waits_for_the_unit, waits_for_x1, waits_for_two_parcels, product_and_booleans, load_fact, known_of, span_after}
pub use Examples.{is_taken_after, next_after, is_turned_after, is_loaded_after, start_after, are_steps_taken_of, known_after_steps, lines_shown, second_by_lines, split_once, increments_load}
pub use Examples.{increments_tree}
pub use declared.fact_line.FactLine.{FactLine}
pub use declared.fact_line.FactLine.TheVariants.{Load, Pair}
pub use declared.fact_line.FactStep.{FactStep}
pub use declared.fact_line.KnownArc.{KnownArc}
pub use declared.fact_line.LoadLine.{LoadLine}
pub use declared.moment.Moment.{Moment}
pub use declared.moment.Moment.TheVariants.{At, End, Origin}
pub use declared.moment.Stage.{Stage}
pub use declared.moment.Stage.TheVariants.{Done, Free, Issue, Start}
