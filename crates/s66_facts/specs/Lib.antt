pub mod Marked
pub mod BlockGround
pub mod Passes
pub mod Chained
pub mod Near
pub mod Directions
pub mod Settled
pub mod Supposing
pub use Marked.{is_in, before_in, IsClosedUpTo}
pub use BlockGround.{Ground, known_of, ground_arcs, IsAcyclic}
pub use Passes.{add, when, no_times, later_times, times_at, latest_done, first_of, second_of, share_unit, gathered, time_at_moment, by_arc, time_along, by_loads, issue_after, start_after, done_after}
pub use Passes.{after_one, at_once, head_issue, head_start, head_done, head_results, head_free, with_free, heads_of, start_before, done_before, before_one, tail_free, tail_done, tail_results}
pub use Passes.{latest_result, tail_start, tail_issue, tails_of, by_one, by_all, all_moments, times_of, AreResults, AreTimes}
pub use Chained.{number_of, no_arc, along, is_as_long, HasAsLong, IsFalling, IsPushed, IsChained}
pub use Near.{uses, hands_on, covers, IsCovered, IsNear, AreNear}
pub use Directions.{source, can_begin, arc_start, arc_end, sooner, rank, arcs_along, span_along}
pub use Settled.{AreAll, IsStep, AreSettled, IsReady, IsMarkedUpTo, keeps, nth_number}
pub use Supposing.{Grounds, premises_in, IsSupposition, MayBeOpen}
pub use declared.direction.Direction.{Direction}
pub use declared.direction.Direction.TheVariants.{Backward, Forward}
pub use declared.limits.TheConstants.{FACT_LIMIT}
pub use declared.supposing.OpenSupposition.{OpenSupposition}
pub use declared.times.Times.{Times}
