-- To be believed: the numbers by which reasons are printed. No reason has 7.
use Rattle.std.specs.Prelude.{ℕ}
use Rattle.s66_checker.specs.declared.verdict.Reason.{Reason}
use Rattle.s66_checker.specs.declared.verdict.Reason.TheVariants.{Order, Time, Children, Chain, Value, Place, Bound, Name, Dominance, Fact, Event, Pair, Loaded}

abbrev pub number_of : Reason → ℕ
number_of Order = 1
number_of Time = 2
number_of Children = 3
number_of Chain = 4
number_of Value = 5
number_of Place = 6
number_of Bound = 8
number_of Name = 9
number_of Dominance = 10
number_of Fact = 11
number_of Event = 12
number_of Pair = 13
number_of Loaded = 14
