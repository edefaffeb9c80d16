use Rattle.std.proofs.Common.{◌≡◌, refl, sym, subst}
use Rattle.s66_isa.specs.{has, numbers_in}
use Rattle.s66_facts.specs.{before_in, sooner, span_along, AreTimes, times_of}
use Rattle.s66_facts.proofs.Covered.{near-by, sooner-number}
use Rattle.s66_facts.proofs.Settled.{times-are}
use Rattle.s66_facts.proofs.paths.times_of.Goals as goal

pub by_all-by_others-requires-clause-near : goal.by_all-by_others-requires-clause-near
by_all-by_others-requires-clause-near c = λ m is. sooner-number c.args.direction c.args.graph.now c.requires.ordered m c.args.n (c.near-near.ensures.within m is)

pub returns : goal.returns
returns c = λ known.
    let g = c.args.graph.now in
    let d = c.args.direction in
    let is : c.all_moments.result ≡ times_of d g (λ i. has i (numbers_in c.near-near.result)) c.args.from.now c.args.times.now c.args.n =
    rw (c.all_moments.ensures, c.by_all-by_others.ensures, c.latest-load_issue.ensures, c.latest-load_start.ensures, c.loads.ensures, c.loads-2.ensures) refl in
    subst (AreTimes g.problem (span_along d g c.args.from.now) c.args.n) (sym is)
    (times-are d g c.requires.ordered c.args.from.now c.requires.from c.args.times.now c.args.n c.requires.n (λ i. has i (numbers_in c.near-near.result)) (near-by g.problem (sooner d (before_in g.marks)) c.near-near.result c.args.n c.near-near.ensures) known)
