use Rattle.std.proofs.Common.{◌≡◌, ◌++◌, drop, map, nat_lt, decimal}
use Rattle.s66_why.specs.{Step}
use Rattle.s66_views.specs.{json_listed, list_text}
use Rattle.s66_views.proofs.json_lines.list.push_added.Given as goal

abbrev pub invariant-loop-i : goal.invariant-loop-i
invariant-loop-i l =
    l.out.items ++ json_listed decimal (nat_lt 0 l.i) (map (λ (x : Step). x.adds) (drop l.i l.steps)) ≡ l.fn.out.items ++ list_text decimal (map (λ (x : Step). x.adds) l.steps)
