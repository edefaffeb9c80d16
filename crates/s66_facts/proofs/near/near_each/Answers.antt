use Rattle.std.proofs.Common.{ℕ, ◌+◌, ◌≡◌, not, ◌||◌, ◌&&◌, List, true, false, length, get_or, sym, ap, subst, arith, ◌∙◌}
use Rattle.std.proofs.lemmas.Bool.{and_left}
use Rattle.s66_isa.specs.{Set, has, numbers_in, no_set}
use Rattle.s66_moments.specs.{IsNumber}
use Rattle.s66_facts.specs.{before_in, IsNear}
use Rattle.s66_facts.proofs.Each.{each-push}
use Rattle.s66_facts.proofs.NearEach.{at, near-numbers, near-now}
use Rattle.s66_facts.proofs.near.near_each.Goals as goal

-- those at a position are those of its number
next-at : (marks : List Set) (position : ℕ) → get_or marks position no_set ≡ at marks (position + 1)
next-at marks position = ap (λ i. get_or marks i no_set) (omega arith)

pub loop-position-init : goal.loop-position-init
loop-position-init c = record { count = ap (λ (ms : List Set). length ms) c.new-all.ensures; each = λ n low high. absurd (omega (arith, low, high)) }

pub with_near-more-requires-clause-n : goal.with_near-more-requires-clause-n
with_near-more-requires-clause-n c = (omega arith, omega (arith, c.loop-position-test.true, c.requires.count))

pub with_near-more-requires-clause-near : goal.with_near-more-requires-clause-near
with_near-more-requires-clause-near c = λ k marked.
    let position = c.loop-position.position in
    let is_n : IsNumber c.args.graph.now.problem (position + 1) = (omega arith, omega (arith, c.loop-position-test.true, c.requires.count)) in
    near-numbers c.args.graph.now.problem c.requires.few c.args.sooner.now c.args.old.now c.args.near.now c.requires.count c.requires.count_old c.requires.more c.requires.near (position + 1) is_n k
    (subst (λ ms. has k (numbers_in ms) ≡ true) (c.marks_at-in-loop-position-2.ensures ∙ next-at c.args.near.now position) marked)

pub with_near-more-requires-clause-other : goal.with_near-more-requires-clause-other
with_near-more-requires-clause-other c =
    let position = c.loop-position.position in
    let is_n : IsNumber c.args.graph.now.problem (position + 1) = (omega arith, omega (arith, c.loop-position-test.true, c.requires.count)) in
    let off : has (position + 1) (numbers_in c.marks_at.result) ≡ false = ap (λ ms. has (position + 1) (numbers_in ms)) (c.marks_at.ensures ∙ next-at c.args.sooner.now position) ∙ c.requires.apart (position + 1) is_n in
    c.without-own.ensures (position + 1) ∙ and_left (has (position + 1) (numbers_in c.marks_at.result)) (not (has (position + 1) (numbers_in c.marks_at-in-loop-position.result))) off

pub loop-position-preserved : goal.loop-position-preserved
loop-position-preserved c =
    let b = c.args.graph.now.problem in
    let position = c.loop-position.position in
    let n : ℕ = position + 1 in
    let is_n : IsNumber b n = (omega arith, omega (arith, c.loop-position-test.true, c.requires.count)) in
    let made = c.with_near-more.ensures in
    let sooner-at : c.marks_at.result ≡ at c.args.sooner.now n = c.marks_at.ensures ∙ next-at c.args.sooner.now position in
    let old-at : c.marks_at-in-loop-position.result ≡ at c.args.old.now n = c.marks_at-in-loop-position.ensures ∙ next-at c.args.old.now position in
    let near-at : c.marks_at-in-loop-position-2.result ≡ at c.args.near.now n = c.marks_at-in-loop-position-2.ensures ∙ next-at c.args.near.now position in
    let is-own : (m : ℕ) → has m (numbers_in c.without-own.result) ≡ (has m (numbers_in (at c.args.sooner.now n)) && not (has m (numbers_in (at c.args.old.now n)))) =
    λ m. c.without-own.ensures m ∙ (ap (λ ms. has m (numbers_in ms) && not (has m (numbers_in c.marks_at-in-loop-position.result))) sooner-at ∙ ap (λ ms. has m (numbers_in (at c.args.sooner.now n)) && not (has m (numbers_in ms))) old-at) in
    let is-near : IsNear b (before_in c.args.sooner.now) c.with_near-more.result n =
    near-now b c.requires.few c.args.sooner.now c.args.old.now c.args.near.now c.requires.count c.requires.count_old c.requires.more c.requires.near n is_n c.without-own.result c.with_near-more.result is-own
    (λ k marked. made.old k (subst (λ ms. has k (numbers_in ms) ≡ true) (sym near-at) marked))
    (λ k marked. subst (λ ms. (has k (numbers_in ms) || has k (numbers_in c.without-own.result)) ≡ true) near-at (made.new k marked))
    made.numbers made.covered in
    let both = each-push (λ k ms. IsNear b (before_in c.args.sooner.now) ms k) c.loop-position.all.items c.push.new.self.items c.with_near-more.result position c.loop-position.invariant.count c.loop-position.invariant.each is-near c.push.ensures.items in
    record { count = both.0; each = both.1 }

pub returns : goal.returns
returns c =
    let end : c.loop-position.position ≡ length c.args.graph.now.problem.block = omega (arith, c.loop-position-test.false, c.loop-position.auto.position-end, c.requires.count) in
    record { count = c.loop-position.invariant.count ∙ end; each = λ n is_n. c.loop-position.invariant.each n is_n.0 (omega (arith, is_n.1, end)) }
