use Rattle.std.proofs.Common.{ℕ, ◌+◌, ◌≡◌, ◌⊎◌, true, true≢false, sym, subst, arith, inl, inr, ◌∙◌}
use Rattle.std.proofs.lemmas.Bool.{or_left, or_right, or_cases, cases_eq}
use Rattle.s66_isa.specs.{has, numbers_in}
use Rattle.s66_moments.specs.{IsNumber}
use Rattle.s66_facts.specs.{before_in, IsCovered}
use Rattle.s66_facts.proofs.NearEach.{covered-more, covered-self, marked-more}
use Rattle.s66_facts.proofs.near.with_near.Goals as goal

pub loop-distance-init : goal.loop-distance-init
loop-distance-init c = record {
  old = λ k is. is;
  new = λ k is. or_left (has k (numbers_in c.args.near)) (has k (numbers_in c.args.own)) is;
  numbers = c.requires.near;
  covered = λ m is_m less more own.
      let same : m ≡ c.args.n = omega (arith, less, more) in
      absurd (true≢false (sym (subst (λ k. has k (numbers_in c.args.own) ≡ true) same own) ∙ c.requires.other));
}

pub with_one-one-requires-clause-near : goal.with_one-one-requires-clause-near
with_one-one-requires-clause-near c = c.loop-distance.invariant.numbers

pub with_one-all-requires-clause-near : goal.with_one-all-requires-clause-near
with_one-all-requires-clause-near c = c.with_one-one.ensures.numbers

pub loop-distance-preserved : goal.loop-distance-preserved
loop-distance-preserved c =
    let b = c.args.graph.now.problem in
    let n : ℕ = c.args.n in
    let distance : ℕ = c.loop-distance.distance in
    let inv = c.loop-distance.invariant in
    let one = c.with_one-one.ensures in
    let two = c.with_one-all.ensures in
    let before = before_in c.args.sooner.now in
    record {
      old = λ k is. two.old k (one.old k (inv.old k is));
      new = λ k is. elim (or_cases (has k (numbers_in c.with_one-one.result)) (has k (numbers_in c.args.own)) (two.new k is)) [
        | inl was ↦ elim (or_cases (has k (numbers_in c.loop-distance.all)) (has k (numbers_in c.args.own)) (one.new k was)) [
          | inl first ↦ inv.new k first
          | inr its ↦ or_right (has k (numbers_in c.args.near)) (has k (numbers_in c.args.own)) its
        ]
        | inr its ↦ or_right (has k (numbers_in c.args.near)) (has k (numbers_in c.args.own)) its
      ];
      numbers = two.numbers;
      covered = λ m is_m less more own. elim (cases_eq m (n + distance)) [
        | inl above ↦ subst (λ k. (has k (numbers_in c.with_one-all.result) ≡ true) ⊎ IsCovered b before c.with_one-all.result k n) (sym above)
            (covered-self b before c.with_one-one.result c.with_one-all.result (n + distance) n two.old (two.covered (subst (IsNumber b) above is_m) (subst (λ k. has k (numbers_in c.args.own) ≡ true) above own)))
        | inr not_above ↦ elim (cases_eq m c.saturating_sub.result) [
          | inl below ↦
              let there = subst (λ k. (has k (numbers_in c.with_one-one.result) ≡ true) ⊎ IsCovered b before c.loop-distance.all k n) (sym below) (one.covered (subst (IsNumber b) below is_m) (subst (λ k. has k (numbers_in c.args.own) ≡ true) below own)) in
              covered-self b before c.loop-distance.all c.with_one-all.result m n (λ k is. two.old k (one.old k is)) (marked-more there (two.old m))
          | inr not_below ↦
              covered-more b before c.loop-distance.all c.with_one-all.result m n (λ k is. two.old k (one.old k is)) (inv.covered m is_m (omega (arith, less, not_above)) (omega (arith, more, not_below, less, not_above, c.saturating_sub.ensures)) own)
        ]
      ];
    }

pub returns : goal.returns
returns c =
    let inv = c.loop-distance.invariant in
    record {
      old = inv.old;
      new = inv.new;
      numbers = inv.numbers;
      covered = λ m is_m own. inv.covered m is_m (omega (arith, is_m.1, c.requires.n.0, c.loop-distance-test.false, c.count-count.ensures.value)) (omega (arith, is_m.0, c.requires.n.1, c.loop-distance-test.false, c.count-count.ensures.value)) own;
    }
