use Rattle.std.proofs.Common.{◌≡◌, take}
use Rattle.s66_node.proofs.walk.Walk.go_to.Given as goal

abbrev pub invariant-loop-position : goal.invariant-loop-position
invariant-loop-position l = l.self ≡ record l.fn.self { numbers = take l.position l.prefix }
