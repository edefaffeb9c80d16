use Rattle.std.proofs.Common.{◌≡◌, ◌-◌, ◌≤◌, [], take, drop, length}
use Rattle.s66_line.specs.{terms_from, gather, terms_in}
use Rattle.s66_line.proofs.Gathered.{gathered_after}
use Rattle.s66_line.proofs.operand.terms.terms_after.Given as goal

-- the terms so far, then the one that is begun and those of the rest, are those of all
abbrev pub invariant-loop-end : goal.invariant-loop-end
invariant-loop-end l = record {
  rest : gathered_after (terms_in l.terms) (terms_from l.minus (take (l.end - l.start) (drop l.start l.text)) (drop l.end l.text)) ≡ gather (terms_from l.fn.first_minus [] l.text);
  begun : l.start ≤ l.end;
  few : length l.terms.registers.items ≤ 2;
}
