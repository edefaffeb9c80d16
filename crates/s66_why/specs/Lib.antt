pub mod Chart
pub mod Examples
pub mod Forbids
pub mod Hazards
pub mod KeptPoints
pub mod Numbers
pub mod Paths
pub mod Reservations
pub mod Rows
pub mod Runs
pub mod Sums
pub mod TextChart
pub mod Units
pub mod Why
pub use Chart.{activity, filler_activity, letter, chart_row_text, cycles_of, instruction_row, has_filler, chart_text}
pub use Examples.{one_load_lines, packing_gap_lines}
pub use Forbids.{KeepsFromIssue, IsKeptBack, IsForbidden, AreFromOne}
pub use Hazards.{common, registers_between, accesses_of_memory, register_hazards, memory_hazards, hazards, access_name, place_name, hazard_text, hazards_text}
pub use Numbers.{IsOf, AreStretchesOf, StepsAreOf}
pub use Paths.{made_at, unhindered, LetsGoWith, Leads, WaitGoesOn, IsPath, AreEachOnce, AddsUp}
pub use Reservations.{holds, units_chart, unit_reservation, register_reservations, mark, cell, cells, unit_head, unit_row, copy_rows, kind_rows, register_head, register_row, register_rows}
pub use Reservations.{reservation_rows, units_width}
pub use Rows.{before_row, row_in, no_row_in, rows_in}
pub use Runs.{runs, until, IsInOrder}
pub use Sums.{sum_of, AreAtMost, sums_line}
pub use TextChart.{ruler, text_width, in_places, in_ten, chart_in_places, text_chart}
pub use Units.{work, works, works_of_kind, taken_from, left_from}
pub use Why.{stretch, path, before, lets_go, lower, lowest, holder, nobody, sooner, holder_or_else, soonest, first_holder, second_holder, third_holder, slot, first_stretch, second_stretch, third_stretch}
pub use Why.{stretches_at, stretches, before_issue, before_start, decides, is_held, is_linked, next_wait, passes, walk, steps, steps_from, added, bank_name, register_name, register_text, cause_text}
pub use Why.{conflict_name, on_right, in_three, text_after_number, text_at_end, stretch_text, stretch_line, path_line, steps_line, step_row, time_row, path_lines, conflict_number, lost, lost_line}
pub use Why.{why_text}
pub use declared.activity.Activity.{Activity}
pub use declared.activity.TheConstants.{IDLE}
pub use declared.cause.Cause.{Cause}
pub use declared.cause.Cause.TheVariants.{Ends, Reads, References, Takes, Writes}
pub use declared.cause.Holder.{Holder}
pub use declared.hazard.Access.{Access}
pub use declared.hazard.Access.TheVariants.{ReadAfterWrite, WriteAfterRead, WriteAfterWrite}
pub use declared.hazard.Hazard.{Hazard}
pub use declared.hazard.Place.TheVariants.{Register}
pub use declared.lost.Lost.{Lost}
pub use declared.path.Link.{Link}
pub use declared.path.Link.TheVariants.{Held, InLine}
pub use declared.path.Milestone.{Milestone}
pub use declared.path.Step.{Step}
pub use declared.path.Wait.{Wait}
pub use declared.reservation.Reservation.{Reservation}
pub use declared.stretch.Conflict.{Conflict}
pub use declared.stretch.Conflict.TheVariants.{First, Second, Third}
pub use declared.stretch.Stretch.{Stretch}
pub use declared.work.Work.{Work}
