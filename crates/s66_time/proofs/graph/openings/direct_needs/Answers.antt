use Rattle.std.proofs.Common.{ℕ, ◌∙◌, ◌&&◌, ◌==◌, not, ap, sym, refl, eq-eqb}
use Rattle.std.proofs.lemmas.Bool.{or_left, or_right}
use Rattle.std.proofs.Math.Bool.{and-true}
use Rattle.s66_isa.specs.{has, some_of, numbers_in}
use Rattle.s66_time.specs.{needs_of}
use Rattle.s66_time.proofs.Opened.{direct-next}
use Rattle.s66_time.proofs.graph.openings.direct_needs.Goals as goal

pub loop-k-init : goal.loop-k-init
loop-k-init c = record {
  range = λ k is. c.requires.needs k (sym (ap (has k) c.needs-direct.ensures) ∙ is);
  found = λ m. ap (λ ns. has m ns && not (some_of (λ k. has m (needs_of c.args.dependences.now k)) ns)) c.needs-direct.ensures;
}

pub needs-requires : goal.needs-requires
needs-requires c =
    let k : ℕ = c.in-Some.k in
    c.loop-k.invariant.range k (ap (has k) c.in-Some.ensures.some ∙ or_left (k == k) (has k (numbers_in c.pop_first.new.self)) (eq-eqb k k refl))

pub loop-k-preserved : goal.loop-k-preserved
loop-k-preserved c =
    let all = c.args.dependences.now in
    let later = numbers_in c.pop_first.new.self in
    let k : ℕ = c.in-Some.k in
    record {
      range = λ m is. c.loop-k.invariant.range m (ap (has m) c.in-Some.ensures.some ∙ or_right (m == k) (has m later) is);
      found = λ m.
          let others = some_of (λ a. has m (needs_of all a)) later in
          ap (λ b. b && not others) (c.without-direct.ensures m ∙ ap (λ ns. has m (numbers_in c.loop-k.direct) && not (has m ns)) c.needs.ensures)
          ∙ (direct-next (has m (numbers_in c.loop-k.direct)) others (has m (needs_of all k))
          ∙ (ap (λ ns. has m (numbers_in c.loop-k.direct) && not (some_of (λ a. has m (needs_of all a)) ns)) (sym c.in-Some.ensures.some)
          ∙ c.loop-k.invariant.found m));
    }

pub returns : goal.returns
returns c = λ m.
    let direct = numbers_in c.loop-k.direct in
    sym (and-true (has m direct))
    ∙ (ap (λ ns. has m direct && not (some_of (λ a. has m (needs_of c.args.dependences.now a)) ns)) (sym c.in_default.ensures.none)
    ∙ c.loop-k.invariant.found m)
