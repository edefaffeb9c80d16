use Rattle.std.proofs.Common.{◌≡◌, ◌*◌, ◌≤◌, ◌∙◌, IfSome, ap, arith, inl, subst, sym}
use Rattle.s66_model.specs.{IsLegal, Problem, total_of, splits}
use Rattle.s66_line.specs.{instrs_of}
use Rattle.s66_time.specs.Ordered.{Ordered}
use Rattle.s66_cert.specs.{Parts, tree_of_lines, EvidenceOf}
use Rattle.s66_answer.specs.{Candidate, IsEnough, problem_of, IsShownBy, claimed, tree_splits}
use Rattle.s66_answer.proofs.SearchAnswers.{beside-deep}
use Rattle.s66_answer.proofs.FactAnswers.{IsCandidate, as-good, as-long, shown-claimed}
use Rattle.s66_answer.proofs.answers.answer_by.Goals as goal

pub found_or_shown-requires-clause-made : goal.found_or_shown-requires-clause-made
found_or_shown-requires-clause-made c = omega (arith, c.saturating_add-beside.ensures, c.requires.looked.made, c.ranges.made)

pub returns-then-total-bound : goal.returns-then-total-bound
returns-then-total-bound c =
    let searched = c.seek.ensures.search in
    let ended = c.in_ok-answer.ensures in
    c.found_or_shown.ensures c.args.strategy c.requires.deep (ended.rule ∙ searched.0, ended.problem ∙ searched.1, ended.budget ∙ searched.2)
    (beside-deep c.args.strategy c.saturating_add-beside.result c.requires.deep (omega (arith, c.saturating_add-beside.ensures, c.requires.made, c.in_ok-found.ensures.splits)))

pub returns-in-None : goal.returns-in-None
returns-in-None c =
    c.found_by_search.ensures c.args.strategy c.args.profile.now c.seek.ensures.search
    (beside-deep c.args.strategy c.saturating_add-beside.result c.requires.deep (omega (arith, c.saturating_add-beside.ensures, c.requires.made, c.in_ok-found.ensures.splits)))

pub returns-in-Some : goal.returns-in-Some
returns-in-Some c =
    let strategy = c.args.strategy in
    let p = c.args.profile.now in
    let block = c.args.block.now in
    let b : Problem = problem_of p block in
    let looked = c.args.looked in
    let is = c.requires.looked in
    let best = c.in_ok-found.found.best in
    let found = c.in_ok-found.ensures.best in
    let near = c.nearest_order-near.result in
    let nearer = c.nearest_order-near.ensures in
    let good = as-good b best near nearer.problem nearer.time found nearer.first in
    let same = as-long b best near nearer.problem nearer.time found.problem in
    let evidence : EvidenceOf = looked.evidence in
    let candidate : Candidate = record { order = c.duplicate.result; time = c.total-2.result; source = looked.source; splits = c.saturating_add.result } in
    let s = c.in-Some.shown in
    let shown : IsShownBy p block candidate evidence s = subst (λ o. IfSome o (IsShownBy p block candidate evidence)) c.in-Some.is c.in_ok-shown.ensures in
    let order : c.duplicate.result ≡ record { block = near.problem.block; numbers = near.numbers } = c.duplicate.ensures ∙ c.order.ensures.value in
    let numbers : c.duplicate.result.numbers ≡ near.numbers = ap (λ (o : Ordered). o.numbers) order in
    let total : c.total-2.result ≡ total_of b near.numbers = c.total-2.ensures.value ∙ ap (λ (q : Problem). total_of q near.numbers) good.problem in
    let right : IsCandidate p block candidate =
    record {
      of_block = ap (λ (o : Ordered). o.block) order ∙ ap (λ (q : Problem). q.block) good.problem;
      legal = subst (λ ns. IsLegal (instrs_of block) ns) (sym numbers) (subst (λ (q : Problem). IsLegal q.block near.numbers) good.problem c.order.ensures.legal);
      time = total ∙ ap (total_of b) (sym numbers);
      within = omega (arith, total, good.source);
      first = λ same. numbers ∙ good.first (same ∙ total);
      source = is.source;
    } in
    let first : c.total.result ≡ total_of b best.numbers = c.total.ensures.value ∙ ap (λ (q : Problem). total_of q best.numbers) found.problem in
    let time : s.document.time ≡ c.total-2.result = ap (λ (d : Parts). d.time) shown.document in
    let bound : s.document.bound ≡ evidence.bound = ap (λ (d : Parts). d.bound) shown.document in
    let counted : splits (tree_of_lines s.document.vertices) ≡ splits (tree_of_lines evidence.vertices) = ap (λ (d : Parts). splits (tree_of_lines d.vertices)) shown.document in
    let enough : IsEnough strategy.search b (claimed s) =
    inl (omega (arith, bound, c.bound-bound.ensures, time, total, same, first, c.if-total-bound.false), omega (arith, counted, is.splits)) in
    let made : tree_splits evidence ≤ s.splits = omega (arith, shown.splits, c.saturating_add.ensures, c.saturating_add-beside.ensures, is.made, c.ranges.made) in
    let all : 2 * s.splits ≤ 7 * strategy.search.nodes =
    omega (arith, shown.splits, c.saturating_add.ensures, c.splits.ensures, c.seek.ensures.search.2, c.saturating_add-beside.ensures, c.requires.made, c.in_ok-found.ensures.splits)
    in
    shown-claimed strategy p block candidate evidence s shown c.requires.deep right enough made all
