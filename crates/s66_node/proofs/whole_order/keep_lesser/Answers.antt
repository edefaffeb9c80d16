use Rattle.std.proofs.Common.{◌≡◌, ◌<◌, Some, arith, sym, ap, subst, ◌∙◌}
use Rattle.s66_node.specs.{WholeOrder, IsLeast}
use Rattle.s66_node.proofs.Leasts.{least-kept, least-new, some-same}
use Rattle.s66_node.proofs.whole_order.keep_lesser.Goals.{in-Some+else-found-total, in_default}
use Rattle.s66_node.proofs.whole_order.keep_lesser.Goals as goal

pub returns-then-found-total : goal.returns-then-found-total
returns-then-found-total c =
    λ b orders legal total h.
    least-kept b orders c.in-Some.found c.args.numbers.now (omega (arith, c.if-found-total.true, total)) (subst (IsLeast b orders) c.in-Some.is h)

pub returns : goal.returns
returns c =
    λ b orders legal total h.
    let lower : (found : WholeOrder) → c.args.least.now ≡ Some found → c.args.total < found.total =
    λ found is.
    elim c.match-least.branch [
      | in-Some+else-found-total w ↦
          (let e : w.in-Some.found ≡ found = some-same w.in-Some.found found (sym w.in-Some.is ∙ is) in
          omega (arith, w.if-found-total.false, ap (λ (o : WholeOrder). o.total) e))
      | in_default w ↦ absurd cc
    ] in
    least-new b orders c.args.least.now (record { numbers = c.copy_of.result; total = c.args.total }) c.args.numbers.now legal c.copy_of.ensures total lower h
