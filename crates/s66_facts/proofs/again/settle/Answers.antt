use Rattle.std.proofs.Common.{◌≤◌, ◌≡◌, ◌==◌, false, true≢false, length, sym, arith, ◌∙◌}
use Rattle.std.proofs.lemmas.Bool.{or_right}
use Rattle.s66_isa.specs.{has, numbers_in}
use Rattle.s66_facts.specs.{before_in, sooner}
use Rattle.s66_facts.proofs.Covered.{sooner-number}
use Rattle.s66_facts.proofs.Settled.{step-kept, step-settled, still-marked, none-asked}
use Rattle.s66_facts.proofs.again.settle.Goals as goal

pub returns-then-is_same-clause-right : goal.returns-then-is_same-clause-right
returns-then-is_same-clause-right c =
    let room : c.args.n ≤ length c.args.times.now = omega (arith, c.told-times, c.requires.n.1, c.requires.few) in
    step-kept c.args.direction c.args.graph.now c.requires.ordered c.args.from.now c.args.times.now c.args.settled c.with.result c.args.n c.requires.n room c.times_of-time.result c.times_of-time.ensures (c.is_same.ensures.0 c.if-is_same.true ∙ c.times_at.ensures) c.with.ensures

pub returns-clause-right : goal.returns-clause-right
returns-clause-right c =
    let room : c.args.n ≤ length c.args.times.now = omega (arith, c.told-times, c.requires.n.1, c.requires.few) in
    step-settled c.args.direction c.args.graph.now c.requires.ordered c.args.from.now c.args.times.now c.args.settled c.with-2.result c.args.n c.requires.n room c.times_of-time.result c.times_of-time.ensures c.later.result c.without.result c.without.ensures c.with-2.ensures (λ m is_m first. c.later.ensures m is_m ∙ first)

pub returns-then-is_same-clause-kept : goal.returns-then-is_same-clause-kept
returns-then-is_same-clause-kept c = λ k is_k now asks. c.with.ensures k ∙ or_right (k == c.args.n) (has k (numbers_in c.args.settled)) now

pub returns-clause-kept : goal.returns-clause-kept
returns-clause-kept c = λ k is_k now asks.
    let off : sooner c.args.direction (before_in c.args.graph.now.marks) c.args.n k ≡ false = none-asked (sooner c.args.direction (before_in c.args.graph.now.marks) c.args.n k) (has c.args.n (numbers_in c.args.settled)) asks (sym c.has.ensures ∙ c.if-has.false) in
    still-marked c.args.settled c.later.result c.without.result c.with-2.result c.args.n c.without.ensures c.with-2.ensures k now (c.later.ensures k is_k ∙ off)

pub returns-then-not-is_within-clause-ready : goal.returns-then-not-is_within-clause-ready
returns-then-not-is_within-clause-ready c = λ ready.
    absurd (true≢false (sym (c.is_within.ensures.1 (λ m near.
    let first = c.near.ensures.within m near in
    ready m (sooner-number c.args.direction c.args.graph.now c.requires.ordered m c.args.n first) first)) ∙ c.if-not-is_within.true))
