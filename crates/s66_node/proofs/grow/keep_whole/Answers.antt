use Rattle.std.proofs.Common.{◌≡◌, ◌++◌, ◌∷◌, [], true≢false, sym, ap, subst, ◌∙◌}
use Rattle.s66_model.specs.{IsComplete, whole_at}
use Rattle.s66_bound.proofs.ValueBounds.{floor-whole}
use Rattle.s66_node.specs.{IsLeast, terminal_by, value_by}
use Rattle.s66_node.proofs.Terminals.{found-none, whole-order, whole-legal, least-same}
use Rattle.s66_node.proofs.grow.keep_whole.Goals as goal

pub returns-then-is_complete : goal.returns-then-is_complete
returns-then-is_complete c =
    let b = c.args.walk.now.problem in
    let at = c.args.walk.now.numbers in
    let u = c.args.unsplit.now in
    let whole : IsComplete b.block at = c.is_complete.ensures.complete.0 c.if-is_complete.true in
    λ rule best known found h least.
    let total = sym (ap value_by c.in-Leaf.is) ∙ (h.value ∙ floor-whole b at whole) in
    let next : IsLeast b (found ++ c.numbers.result.now ∷ []) c.keep_lesser.new.least = c.keep_lesser.ensures b found (rw c.numbers.ensures.value (whole-legal b at c.numbers.ensures.begins whole)) (rw c.numbers.ensures.value total) least in
    let order : whole_at at (terminal_by b at u) ≡ at ∷ [] = ap (λ k. whole_at at (terminal_by b at k)) c.in-Leaf.is ∙ whole-order b at whole in
    subst (λ xs. IsLeast b (found ++ xs) c.keep_lesser.new.least) (sym order) (subst (λ x. IsLeast b (found ++ x ∷ []) c.keep_lesser.new.least) c.numbers.ensures.value next)

pub returns-else-is_complete : goal.returns-else-is_complete
returns-else-is_complete c =
    let b = c.args.walk.now.problem in
    let at = c.args.walk.now.numbers in
    λ rule best known found h least.
    least-same b found (whole_at at (terminal_by b at c.args.unsplit.now)) c.args.least.now (found-none rule b best at known c.args.unsplit.now h (λ v is whole. true≢false (sym (c.is_complete.ensures.complete.1 whole) ∙ c.if-is_complete.false))) least
