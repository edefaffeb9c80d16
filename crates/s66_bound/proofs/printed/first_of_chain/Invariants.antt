use Rattle.std.proofs.Common.{ℕ, ◌≡◌, true, length}
use Rattle.s66_isa.specs.{first_that, Among, numbers_in}
use Rattle.s66_model.specs.{is_remaining, remaining}
use Rattle.s66_line.specs.{instrs_of}
use Rattle.s66_time.specs.{problem_of}
use Rattle.s66_bound.proofs.Heads.{heads_chain}
use Rattle.s66_bound.proofs.printed.first_of_chain.Given as goal

abbrev pub invariant-loop-number : goal.invariant-loop-number
invariant-loop-number l = record {
  found : first_that (heads_chain (problem_of l.clock) l.clock.numbers) (numbers_in l.numbers) ≡ first_that (heads_chain (problem_of l.clock) l.clock.numbers) (remaining (instrs_of l.clock.block) l.clock.numbers);
  remain : (n : ℕ) → Among n (numbers_in l.numbers) → is_remaining (instrs_of l.clock.block) l.clock.numbers n ≡ true;
}

abbrev pub decreases-loop-number : goal.decreases-loop-number
decreases-loop-number l = length (numbers_in l.numbers)
