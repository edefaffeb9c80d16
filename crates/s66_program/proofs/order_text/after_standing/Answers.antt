use Rattle.std.proofs.Common.{ℕ, zero, suc, ◌+◌, ◌≡◌, ◌++◌, ◌∙◌, [], ◌∷◌, List, None, Option, ap, arith, refl, replicate}
use Rattle.s66_source.specs.{Placed}
use Rattle.s66_program.proofs.order_text.after_standing.Goals as goal

one-more : (n : ℕ) → replicate n None ++ None ∷ [] ≡ replicate {A = Option Placed} (suc n) None
one-more zero = refl
one-more (suc n) = ap (λ (xs : List (Option Placed)). None ∷ xs) (one-more n)

pub loop-preserved : goal.loop-preserved
loop-preserved c =
    let next : suc c.loop.counter ≡ c.loop.counter + 1 = omega arith in
    c.in_ok-push.ensures.items ∙ ap (λ (xs : List (Option Placed)). xs ++ None ∷ []) c.loop.invariant ∙ one-more c.loop.counter ∙ ap (λ n. replicate n None) next
