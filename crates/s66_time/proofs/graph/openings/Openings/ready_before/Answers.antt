use Rattle.std.proofs.Common.{ℕ, ◌≡◌, ◌∙◌, ◌||◌, ◌&&◌, ◌==◌, not, List, ap, arith, length}
use Rattle.s66_isa.specs.{has, numbers_in}
use Rattle.s66_model.specs.{all_needs}
use Rattle.s66_time.specs.{opens}
use Rattle.s66_time.proofs.Opened.{count-needs, before-is, ready-set}
use Rattle.s66_time.proofs.graph.openings.Openings.ready_before.Goals as goal

pub with-requires : goal.with-requires
with-requires c = omega (arith, c.requires, c.opened.ensures.few)

pub returns : goal.returns
returns c =
    λ block prefix all begins now is.
    let n : ℕ = c.args.n in
    let few = c.opened.ensures.few in
    let count = ap (λ (ns : List (List ℕ)). length ns) all in
    let opened : numbers_in c.opened.result ≡ opens (all_needs block) n = c.opened.ensures.opened ∙ ap (λ ns. opens ns n) all in
    ready-set c.with.result block prefix (omega (arith, few, count, count-needs block))
    (λ m.
    c.with.ensures m
    ∙ (ap (λ b. m == n || b) (c.without.ensures m ∙ ap (λ ns. has m (numbers_in c.args.after.now) && not (has m ns)) opened)
    ∙ before-is block prefix n begins now (numbers_in c.args.after.now) is m))
