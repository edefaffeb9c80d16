use Rattle.std.proofs.Common.{ℕ, ◌≡◌, ◌==◌, not, sym, ap, subst, ◌∙◌}
use Rattle.std.proofs.lemmas.Bool.{and_parts}
use Rattle.s66_isa.specs.{numbers, numbers_in, has}
use Rattle.s66_isa.proofs.Sets.{taken-there, taken-out}
use Rattle.s66_moments.specs.{IsNumber}
use Rattle.s66_facts.specs.{Times, later_times, gathered, by_one, by_all}
use Rattle.s66_facts.proofs.Latest.{gathered-next, gathered-end}
use Rattle.s66_facts.proofs.paths.by_all.Goals as goal

pub loop-m-init : goal.loop-m-init
loop-m-init c =
    let g = c.args.graph.now in
    record {
      are = c.requires.near;
      whole = ap (λ t. later_times t (gathered (λ i. has i (numbers_in c.args.near)) (by_one c.args.direction g.problem c.args.times.now c.args.n) (numbers g.problem.block))) c.none-latest.ensures;
    }

pub by_one-requires-clause-m : goal.by_one-requires-clause-m
by_one-requires-clause-m c = c.loop-m.invariant.are c.in-Some.m (taken-there c.loop-m.rest c.pop_first.new.self c.in-Some.m c.in-Some.ensures.some)

pub loop-m-preserved : goal.loop-m-preserved
loop-m-preserved c =
    let g = c.args.graph.now in
    let f : ℕ → Times = by_one c.args.direction g.problem c.args.times.now c.args.n in
    let old = c.loop-m.rest in
    let new = c.pop_first.new.self in
    let m : ℕ = c.in-Some.m in
    let whole : Times = by_all c.args.direction g.problem (λ i. has i (numbers_in c.args.near)) c.args.times.now c.args.n in
    let is_m : IsNumber g.problem m = c.loop-m.invariant.are m (taken-there c.loop-m.rest c.pop_first.new.self c.in-Some.m c.in-Some.ensures.some) in
    record {
      are = λ k is. c.loop-m.invariant.are k (and_parts (not (k == m)) (has k (numbers_in old)) (sym (taken-out old new m c.in-Some.ensures.some k) ∙ is)).1;
      whole = subst (λ t. later_times t (gathered (λ i. has i (numbers_in new)) f (numbers g.problem.block)) ≡ whole) (sym (c.later-latest.ensures ∙ ap (later_times c.loop-m.latest) c.by_one.ensures))
          (gathered-next g.problem old new f m c.loop-m.latest whole is_m (taken-there old new m c.in-Some.ensures.some) (taken-out old new m c.in-Some.ensures.some) c.loop-m.invariant.whole);
    }

pub returns : goal.returns
returns c =
    let g = c.args.graph.now in
    gathered-end g.problem c.loop-m.rest (by_one c.args.direction g.problem c.args.times.now c.args.n) c.loop-m.latest (by_all c.args.direction g.problem (λ i. has i (numbers_in c.args.near)) c.args.times.now c.args.n) (λ k. ap (has k) c.in_default.ensures.none) c.loop-m.invariant.whole
