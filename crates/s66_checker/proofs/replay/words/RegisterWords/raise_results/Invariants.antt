use Rattle.std.proofs.Common.{◌≡◌, ◌≤◌, if◌then◌else◌, max, drop}
use Rattle.s66_isa.specs.{greatest, same_reg, word_of}
use Rattle.s66_isa.specs.Table.{Reg}
use Rattle.s66_model.specs.{ResultAt}
use Rattle.s66_checker.proofs.replay.words.RegisterWords.raise_results.Given as goal

abbrev pub invariant-loop-done : goal.invariant-loop-done
invariant-loop-done l =
    (r : Reg) → r.digit ≤ 7 → max (word_of l.self.words r) (greatest (λ (d : ResultAt). if same_reg d.reg r then d.time else 0) (drop l.done-index l.results)) ≡ max (word_of l.fn.self.words r) (greatest (λ (d : ResultAt). if same_reg d.reg r then d.time else 0) l.results)
