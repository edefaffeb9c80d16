use Rattle.std.proofs.Common.{ℕ, ◌≤◌, ◌≡◌, true}
use Rattle.s66_model.specs.{is_remaining}
use Rattle.s66_facts.specs.{known_of as known_in}
use Rattle.s66_checker.specs.{number_finds_no_later}
use Rattle.s66_checker.proofs.in_use.all_find_no_later.Given as goal

-- each number so far that remains does
abbrev pub invariant-loop-position : goal.invariant-loop-position
invariant-loop-position l =
    (n : ℕ) → n ≤ l.position → is_remaining l.at.problem.block l.at.numbers n ≡ true → number_finds_no_later l.at.problem (known_in l.known) l.own.numbers l.at.numbers n ≡ true
