-- The load of a kind by a table of its work, what is busy of it, and how many units there are.
use Rattle.std.proofs.Common.{ℕ, ◌+◌, ◌-◌, ◌/◌, ◌≡◌, List, get_or, ap, arith, ◌∙◌}
use Rattle.s66_isa.specs.{Kind, weigh}
use Rattle.s66_model.specs.{Problem, row_at, points_of, next, copies, remaining, load, unit_work, rest_busy, work_of, HasWords}
use Rattle.s66_model.proofs.FloorParts.{left-sum}

pub load-parts : (b : Problem) (prefix : List ℕ) (kind : Kind) (words ns : List ℕ) (sum busy count slot : ℕ) → HasWords b (λ n. work_of kind (row_at b n)) words → ns ≡ remaining b.block prefix →
    sum ≡ weigh (λ n. get_or words (n - 1) 0) ns → busy ≡ weigh (rest_busy kind (next (points_of b prefix))) (points_of b prefix) → count ≡ copies b kind → slot ≡ next (points_of b prefix) →
    (sum + busy + (count - 1)) / count + slot ≡ load b prefix kind
load-parts b prefix kind words ns sum busy count slot known rest e1 e2 e3 e4 =
    let work : sum + busy ≡ unit_work b prefix kind = omega (arith, e1, ap (weigh (λ n. get_or words (n - 1) 0)) rest, left-sum b prefix (λ n. work_of kind (row_at b n)) words known, e2) in
    ap (λ x. (x + (count - 1)) / count + slot) work ∙ ap (λ k. (unit_work b prefix kind + (k - 1)) / k + slot) e3 ∙ ap (λ k. (unit_work b prefix kind + (copies b kind - 1)) / copies b kind + k) e4
