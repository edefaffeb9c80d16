use Rattle.std.proofs.Common.{ℕ, ◌≡◌, ◌<◌, ◌-◌, ◌∙◌, ◌++◌, ap, arith, length, sym, eq-eqb, ne_eqb, append-nil}
use Rattle.s66_model.specs.{Problem}
use Rattle.s66_cert.specs.{Document, Parts, document_of}
use Rattle.s66_checker.specs.{problem_of}
use Rattle.s66_reasons.specs.{pairs_over}
use Rattle.s66_reasons.proofs.PairsInTurn.{pairs-more, pairs-none}
use Rattle.s66_reasons.proofs.known_paths.KnownPaths.pairs_of.Goals as goal

abbrev count-of : Parts → ℕ
count-of p = length (problem_of (document_of p)).block

-- as many steps as the block has instructions
all-of : (end : ℕ) (b : Problem) (inside seen : Parts) → end ≡ length b.block → b ≡ problem_of (document_of inside) → inside ≡ seen → end ≡ count-of seen
all-of end b inside seen is same same_seen = is ∙ ap (λ (q : Problem). length q.block) same ∙ ap count-of same_seen

pub returns-then-number-eq0 : goal.returns-then-number-eq0
returns-then-number-eq0 c =
    let d : Document = document_of c.args.self.now in
    let l = c.loop-step in
    let all = all-of _ _ _ c.args.self.now c.count-step-end.ensures.value c.self.invariant.first.problem c.self.view_is in
    let within : l.step < count-of c.args.self.now = omega (arith, c.loop-step-test.true, all) in
    pairs-none d (count-of c.args.self.now) l.step l.from c.args.n c.pair_from-number.result l.numbers.items within c.pair_from-number.ensures (eq-eqb c.pair_from-number.result 0 c.if-number-eq0.true)
    ∙ l.invariant.all

pub loop-step-preserved : goal.loop-step-preserved
loop-step-preserved c =
    let d : Document = document_of c.args.self.now in
    let l = c.loop-step in
    let most = count-of c.args.self.now in
    let all = all-of _ _ _ c.args.self.now c.count-step-end.ensures.value c.self.invariant.first.problem c.self.view_is in
    let within : l.step < most = omega (arith, c.loop-step-test.true, all) in
    record {
      all = pairs-more d most l.step l.from c.args.n c.pair_from-number.result _ l.numbers.items c.push.new.self.items within c.pair_from-number.ensures
          (ne_eqb c.pair_from-number.result 0 c.if-number-eq0.false) c.second_of-from.ensures c.push.ensures.items
          ∙ l.invariant.all;
      few = omega (arith, l.invariant.few, c.push.ensures.len);
    }

pub returns : goal.returns
returns c =
    let d : Document = document_of c.args.self.now in
    let l = c.loop-step in
    let all = all-of _ _ _ c.args.self.now c.count-step-end.ensures.value c.self.invariant.first.problem c.self.view_is in
    let none : count-of c.args.self.now - l.step ≡ 0 = omega (arith, c.loop-step-test.false, all) in
    sym (append-nil l.numbers.items) ∙ sym (ap (λ k. l.numbers.items ++ pairs_over d k l.from c.args.n) none) ∙ l.invariant.all
