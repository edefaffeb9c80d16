use Rattle.std.proofs.Common.{◌≡◌, ◌≤◌, length, List, ℕ, Bor, option_map}
use Rattle.s66_cert.specs.{words_in, numbers_in}
use Rattle.s66_cert.proofs.Short.{after_all, bytes_left}
use Rattle.s66_cert.proofs.scan.numbers_in.Given as goal

-- the numbers so far, and then those of the rest, are those of all
abbrev pub invariant-loop-left : goal.invariant-loop-left
invariant-loop-left g l = record {
  value : after_all l.numbers.items (numbers_in l.low l.high (words_in (option_map (λ (r : Bor (List ℕ)). r.now) l.left))) ≡ numbers_in l.low l.high (words_in (option_map (λ (r : Bor (List ℕ)). r.now) l.fn.rest));
  few : length l.numbers.items ≤ g.row.N;
}

abbrev pub decreases-loop-left : goal.decreases-loop-left
decreases-loop-left g l = bytes_left (option_map (λ (r : Bor (List ℕ)). r.now) l.left)
