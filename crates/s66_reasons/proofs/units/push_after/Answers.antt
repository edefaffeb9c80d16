use Rattle.std.proofs.Common.{◌≡◌, ◌++◌, ◌∙◌, ap, append_assoc, sym}
use Rattle.std.proofs.lemmas.Result.{IfOk-equal}
use Rattle.s66_isa.specs.{weigh}
use Rattle.s66_isa.proofs.Lists.{weigh-reverse}
use Rattle.s66_model.specs.{points_of, rest_busy}
use Rattle.s66_reasons.specs.{before_words, slot_words, work_before}
use Rattle.s66_reasons.proofs.units.push_after.Goals as goal

pub returns : goal.returns
returns c =
    let q = c.args.prefix.now in
    let kind = c.args.kind in
    let slot = c.args.slot in
    let out = c.args.out.now.items in
    let points = points_of q.problem q.numbers in
    let busy : c.rest_busy.result ≡ work_before q.problem q.numbers kind =
    c.rest_busy.ensures ∙ sym (weigh-reverse (rest_busy kind slot) c.points.result.now) ∙ ap (weigh (rest_busy kind slot)) c.points.ensures.value
    ∙ ap (λ t. weigh (rest_busy kind t) points) c.requires in
    IfOk-equal c.push_slot.result _ _ _ c.push_slot.ensures
    (ap (λ xs. xs ++ slot_words slot) (c.in_ok-push_before.ensures ∙ ap (λ k. out ++ before_words c.args.total k) busy)
    ∙ append_assoc out (before_words c.args.total (work_before q.problem q.numbers kind)) (slot_words slot))
