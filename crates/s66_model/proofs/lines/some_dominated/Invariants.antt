use Rattle.std.proofs.Common.{◌≡◌, drop}
use Rattle.s66_isa.specs.{some_of}
use Rattle.s66_model.specs.{is_dominated}
use Rattle.s66_model.proofs.lines.some_dominated.Given as goal

-- none so far
abbrev pub invariant-loop-mark : goal.invariant-loop-mark
invariant-loop-mark l = record {
  rest : some_of is_dominated (drop l.mark-index l.marks) ≡ some_of is_dominated l.marks;
}
