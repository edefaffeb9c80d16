use Rattle.std.proofs.Common.{◌≡◌, ◌≤◌, ◌∙◌, IfSome, ap, arith, inl, inr, length, subst, sym}
use Rattle.s66_isa.specs.{BLOCK_LIMIT}
use Rattle.s66_model.specs.{source_time, IsLegal, Problem, total_of, splits}
use Rattle.s66_model.proofs.Growth.{total-le}
use Rattle.s66_model.proofs.LegalOrders.{legal-order}
use Rattle.s66_line.specs.{instrs_of}
use Rattle.s66_time.specs.Ordered.{Ordered}
use Rattle.s66_cert.specs.{Parts, tree_of_lines}
use Rattle.s66_ledger.specs.{answer_of}
use Rattle.s66_answer.specs.{Candidate, IsEnough, problem_of, IsShownBy, claimed}
use Rattle.s66_answer.proofs.SearchAnswers.{search-answers}
use Rattle.s66_answer.proofs.FactAnswers.{IsCandidate, shown-claimed}
use Rattle.s66_answer.proofs.answers.shown_or_searched.Goals as goal

pub shown_by-requires-clause-time : goal.shown_by-requires-clause-time
shown_by-requires-clause-time c =
    let found = c.args.answer in
    let a = answer_of found in
    let is = c.time.ensures.answer in
    let few : length found.problem.block ≤ BLOCK_LIMIT = subst (λ (q : Problem). length q.block ≤ BLOCK_LIMIT) (sym c.requires.problem) (omega (arith, c.count.ensures.value, c.count.ensures.few)) in
    omega (arith, c.time.ensures.value, is.time, total-le found.problem a.order, (legal-order found.problem.block a.order is.legal).1, few)

pub returns-in-Some : goal.returns-in-Some
returns-in-Some c =
    λ strategy deep for beside worth.
    let p = c.args.profile.now in
    let block = c.args.block.now in
    let b : Problem = problem_of p block in
    let found = c.args.answer in
    let a = answer_of found in
    let is = search-answers strategy p block found for c.time.ensures.answer in
    let candidate : Candidate = record { order = c.duplicate.result; time = c.time.result; source = c.source.result; splits = c.saturating_add.result } in
    let s = c.in-Some.shown in
    let shown : IsShownBy p block candidate c.args.evidence s = subst (λ o. IfSome o (IsShownBy p block candidate c.args.evidence)) c.in-Some.is c.in_ok-shown.ensures in
    let order : c.duplicate.result ≡ record { block = found.problem.block; numbers = a.order } = c.duplicate.ensures ∙ c.order.ensures in
    let numbers : c.duplicate.result.numbers ≡ a.order = ap (λ (o : Ordered). o.numbers) order in
    let right : IsCandidate p block candidate =
    record {
      of_block = ap (λ (o : Ordered). o.block) order ∙ ap (λ (q : Problem). q.block) for.1;
      legal = subst (λ ns. IsLegal (instrs_of block) ns) (sym numbers) is.legal;
      time = c.time.ensures.value ∙ is.time ∙ ap (total_of b) (sym numbers);
      within = omega (arith, c.time.ensures.value, is.source);
      first = λ same. numbers ∙ is.first (same ∙ c.time.ensures.value);
      source = c.source.ensures ∙ ap source_time for.1;
    } in
    let time : s.document.time ≡ c.time.result = ap (λ (d : Parts). d.time) shown.document in
    let bound : s.document.bound ≡ c.args.evidence.bound = ap (λ (d : Parts). d.bound) shown.document in
    let counted : splits (tree_of_lines s.document.vertices) ≡ splits (tree_of_lines c.args.evidence.vertices) = ap (λ (d : Parts). splits (tree_of_lines d.vertices)) shown.document in
    let enough : IsEnough strategy.search b (claimed s) =
    elim worth [
      | inl best ↦ inl (bound ∙ best.0 ∙ sym c.time.ensures.value ∙ sym time, omega (arith, counted, best.1))
      | inr more ↦ inr (a, is, omega (arith, time, c.time.ensures.value), omega (arith, bound, more), omega (arith, shown.splits, c.saturating_add.ensures, c.splits.ensures.value, c.splits.ensures.few))
    ] in
    shown-claimed strategy p block candidate c.args.evidence s shown deep right enough (omega (arith, shown.splits, c.saturating_add.ensures, c.requires.made, c.ranges.beside)) (omega (arith, shown.splits, c.saturating_add.ensures, c.splits.ensures.value, is.within, beside.0))

pub returns-in-None : goal.returns-in-None
returns-in-None c = λ strategy deep for beside worth. c.by_search.ensures strategy c.args.profile.now c.args.block.now for beside
