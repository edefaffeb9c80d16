use Rattle.std.proofs.Common.{◌≡◌, take}
use Rattle.s66_model.specs.{IsBeginning}
use Rattle.s66_node.proofs.walk.Walk.try_go_to.Given as goal

abbrev pub invariant-loop-position : goal.invariant-loop-position
invariant-loop-position l =
    record {
      front : l.self ≡ record l.fn.self { numbers = take l.position l.prefix };
      begins : IsBeginning l.fn.self.problem.block (take l.position l.prefix);
    }
