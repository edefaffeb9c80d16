use Rattle.std.proofs.Common.{ℕ, List, ◌≤◌, ◌<◌, ◌++◌, length, sym, subst, arith}
use Rattle.s66_model.specs.{Problem, total_of, IsLegal, Parcels}
use Rattle.s66_time.specs.{problem_of}
use Rattle.s66_bound.proofs.ValueBounds.{leaf-bound}
use Rattle.s66_bound.proofs.bounds.Bounds.parcels.Goals as goal

pub returns-clause-bound : goal.returns-clause-bound
returns-clause-bound c =
    let t = c.args.clock.now in
    subst (λ (b : Problem). length t.numbers < length b.block → (rest : List ℕ) → IsLegal b.block (t.numbers ++ rest) → c.parcels_of.result ≤ total_of b (t.numbers ++ rest)) (sym c.requires.same)
    (λ short rest legal. omega (arith, c.parcels_of.ensures, leaf-bound (problem_of t) t.numbers rest Parcels short legal))
    c.requires.some
