-- To be believed: a block in the order in which it was written, under a profile.
use Rattle.std.specs.Prelude.{ℕ, List}
use Rattle.s66_isa.specs.{Instr, Profile, numbers}
use Rattle.s66_model.specs.{total_of}
use Rattle.s66_time.specs.TimedOrder.{TimedOrder}

abbrev pub as_written : Profile → List Instr → TimedOrder
as_written p block = record { problem = record { block = block; profile = p }; numbers = numbers block }

-- how many minor cycles a timed order takes
abbrev pub total_time : TimedOrder → ℕ
total_time t = total_of t.problem t.numbers
