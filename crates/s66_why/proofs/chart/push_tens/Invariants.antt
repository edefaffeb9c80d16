use Rattle.std.specs.List.{range_with_len}
use Rattle.std.proofs.Common.{ℕ, ◌≡◌, ◌-◌, ◌*◌, ◌++◌, flat_map}
use Rattle.s66_why.specs.{in_ten}
use Rattle.s66_why.proofs.chart.push_tens.Given as goal

abbrev pub invariant-loop-ten : goal.invariant-loop-ten
invariant-loop-ten l =
    l.out.items ++ flat_map (λ (ten : ℕ). in_ten (10 * ten)) (range_with_len l.ten (l.count - l.ten)) ≡ l.fn.out.items ++ flat_map (λ (ten : ℕ). in_ten (10 * ten)) (range_with_len 0 l.count)
