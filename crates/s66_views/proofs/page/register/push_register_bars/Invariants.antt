use Rattle.std.proofs.Common.{◌≡◌, ◌++◌, drop, flat_map}
use Rattle.s66_views.specs.{register_bar}
use Rattle.s66_views.proofs.page.register.push_register_bars.Given as goal

abbrev pub invariant-loop-reservation : goal.invariant-loop-reservation
invariant-loop-reservation l = l.out.items ++ flat_map register_bar (drop l.reservation-index l.reservations) ≡ l.fn.out.items ++ flat_map register_bar l.reservations
