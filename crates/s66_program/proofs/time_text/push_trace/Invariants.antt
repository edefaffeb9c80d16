use Rattle.std.proofs.Common.{◌≡◌, ◌++◌, drop}
use Rattle.s66_program.specs.{trace_lines}
use Rattle.s66_program.proofs.time_text.push_trace.Given as goal

abbrev pub invariant-loop-position : goal.invariant-loop-position
invariant-loop-position l = l.out.items ++ trace_lines l.timed l.position (drop l.position l.timed.numbers) ≡ l.fn.out.items ++ trace_lines l.timed 0 l.timed.numbers
