use Rattle.std.proofs.Common.{ℕ, ◌≡◌, ◌==◌, not, true, sym, ap, arith, ◌∙◌}
use Rattle.std.proofs.lemmas.Bool.{and_parts}
use Rattle.s66_isa.specs.{has, numbers_in}
use Rattle.s66_isa.proofs.Sets.{taken-there, taken-out}
use Rattle.s66_moments.specs.{IsNumber}
use Rattle.s66_facts.specs.{before_in}
use Rattle.s66_facts.proofs.Each.{within-marked}
use Rattle.s66_facts.proofs.near.is_covered.Goals as goal

pub loop-k-init : goal.loop-k-init
loop-k-init c = λ k marked. marked

pub marks_at-requires : goal.marks_at-requires
marks_at-requires c =
    let is_k = c.requires.near c.in-Some.k (c.loop-k.invariant c.in-Some.k (taken-there c.loop-k.rest c.pop_first.new.self c.in-Some.k c.in-Some.ensures.some)) in
    omega (arith, is_k.0, is_k.1, c.requires.count)

pub covers-requires-clause-k : goal.covers-requires-clause-k
covers-requires-clause-k c =
    c.requires.near c.in-Some.k (c.loop-k.invariant c.in-Some.k (taken-there c.loop-k.rest c.pop_first.new.self c.in-Some.k c.in-Some.ensures.some))

pub loop-k-preserved : goal.loop-k-preserved
loop-k-preserved c = λ k marked.
    c.loop-k.invariant k (and_parts (not (k == c.in-Some.k)) (has k (numbers_in c.loop-k.rest)) (sym (taken-out c.loop-k.rest c.pop_first.new.self c.in-Some.k c.in-Some.ensures.some k) ∙ marked)).1

pub returns-then-covers : goal.returns-then-covers
returns-then-covers c = λ told.
    let k : ℕ = c.in-Some.k in
    let near : has k (numbers_in c.args.near) ≡ true = c.loop-k.invariant k (taken-there c.loop-k.rest c.pop_first.new.self c.in-Some.k c.in-Some.ensures.some) in
    let is_k : IsNumber c.args.graph.now.problem k = c.requires.near k near in
    let first : before_in c.args.sooner.now c.args.m k ≡ true =
    within-marked c.args.sooner.now c.args.m k c.requires.m.0 (omega (arith, c.requires.m.1, c.requires.count)) is_k.0 (omega (arith, is_k.1, c.requires.count))
    ∙ (ap (λ ms. has c.args.m (numbers_in ms)) (sym c.marks_at.ensures) ∙ (sym c.has.ensures ∙ c.if-has.true)) in
    (k, is_k, near, first, sym c.covers.ensures ∙ c.if-covers.true)
