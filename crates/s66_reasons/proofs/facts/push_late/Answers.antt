use Rattle.std.proofs.Common.{◌≡◌, ◌++◌, ◌∙◌, ap, arith}
use Rattle.std.proofs.lemmas.Result.{IfOk-equal}
use Rattle.s66_isa.specs.{instr_at}
use Rattle.s66_isa.proofs.GoodRows.{row-good}
use Rattle.s66_model.specs.{Problem, row_at}
use Rattle.s66_moments.specs.{Issue, Free, Origin, At, End, arcs_of}
use Rattle.s66_facts.specs.{known_of as known_in}
use Rattle.s66_reasons.proofs.FactTexts.{late-by_parcels, late-by_unit}
use Rattle.s66_reasons.proofs.ShortPaths.{found-short}
use Rattle.s66_reasons.proofs.facts.push_late.Goals as goal

pub returns-then-is_late_by_parcels : goal.returns-then-is_late_by_parcels
returns-then-is_late_by_parcels c =
    let b : Problem = c.args.facts.now.problem in
    let n = c.args.n in
    let parcels : c.parcels_of-parcels.result ≡ (row_at b n).parcels = c.parcels_of-parcels.ensures ∙ ap (λ (q : Problem). (row_at q n).parcels) c.requires.same in
    IfOk-equal c.push_by_parcels.result _ _ _ c.push_by_parcels.ensures
    (ap (λ xs. c.args.out.now.items ++ xs)
    (late-by_parcels b c.args.bound (arcs_of b (known_in c.args.facts.now)) c.args.m n _ _ _ _ _ c.is_late_by_parcels.result
    c.head-head.ensures.issue c.tail-tail.ensures.issue parcels c.is_late_by_parcels.ensures c.if-is_late_by_parcels.true c.unwrap_or-soonest.ensures c.unwrap_or-rest.ensures))

pub returns-else-is_late_by_parcels : goal.returns-else-is_late_by_parcels
returns-else-is_late_by_parcels c =
    let b : Problem = c.args.facts.now.problem in
    let n = c.args.n in
    let parcels : c.parcels_of-parcels.result ≡ (row_at b n).parcels = c.parcels_of-parcels.ensures ∙ ap (λ (q : Problem). (row_at q n).parcels) c.requires.same in
    let kind : c.kind_of.result ≡ (row_at b n).kind = c.kind_of.ensures ∙ ap (λ (q : Problem). (row_at q n).kind) c.requires.same in
    IfOk-equal c.push_by_unit.result _ _ _ c.push_by_unit.ensures
    (ap (λ xs. c.args.out.now.items ++ xs)
    (late-by_unit b c.args.bound (arcs_of b (known_in c.args.facts.now)) c.args.m n _ _ _ _ _ _ _ c.is_late_by_parcels.result
    c.head-head.ensures.issue c.tail-tail.ensures.issue parcels c.is_late_by_parcels.ensures c.if-is_late_by_parcels.false c.head-head.ensures.free kind c.unwrap_or-soonest-else-is_late_by_parcels.ensures c.unwrap_or-rest.ensures))

pub push_by_parcels-requires : goal.push_by_parcels-requires
push_by_parcels-requires c =
    let g = c.args.facts.now in
    let b : Problem = g.problem in
    let n = c.args.n in
    let parcels : c.parcels_of-parcels.result ≡ (row_at b n).parcels = c.parcels_of-parcels.ensures ∙ ap (λ (q : Problem). (row_at q n).parcels) c.requires.same in
    omega (
      arith,
      parcels,
      (row-good b.profile (instr_at b.block n)).parcels.1,
      c.unwrap_or-soonest.ensures,
      c.unwrap_or-rest.ensures,
      found-short g c.count-count.ensures.ordered Origin (At n Issue) _ c.head-head.ensures.issue,
      found-short g c.count-count.ensures.ordered (At c.args.m Issue) End _ c.tail-tail.ensures.issue,
    )

pub push_by_unit-requires : goal.push_by_unit-requires
push_by_unit-requires c =
    let g = c.args.facts.now in
    omega (
      arith,
      c.unwrap_or-soonest-else-is_late_by_parcels.ensures,
      c.unwrap_or-rest.ensures,
      found-short g c.count-count.ensures.ordered Origin (At c.args.n Free) _ c.head-head.ensures.free,
      found-short g c.count-count.ensures.ordered (At c.args.m Issue) End _ c.tail-tail.ensures.issue,
    )
