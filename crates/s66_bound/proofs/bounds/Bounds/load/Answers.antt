use Rattle.std.proofs.Common.{ℕ, List, ◌≤◌, ◌<◌, ◌++◌, length, sym, subst, arith}
use Rattle.s66_model.specs.{Problem, total_of, IsLegal, Load}
use Rattle.s66_time.specs.{problem_of}
use Rattle.s66_bound.proofs.ValueBounds.{leaf-bound}
use Rattle.s66_bound.proofs.bounds.Bounds.load.Goals as goal

pub returns-clause-bound : goal.returns-clause-bound
returns-clause-bound c =
    let t = c.args.clock.now in
    subst (λ (b : Problem). length t.numbers < length b.block → (rest : List ℕ) → IsLegal b.block (t.numbers ++ rest) → c.load_of.result ≤ total_of b (t.numbers ++ rest)) (sym c.requires.same)
    (λ short rest legal. omega (arith, c.load_of.ensures, leaf-bound (problem_of t) t.numbers rest (Load c.args.kind) short legal))
