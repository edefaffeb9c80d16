use Rattle.std.proofs.Common.{Some, ◌≡◌, ◌∙◌, List, ap, arith, refl, rules, subst, sym}
use Rattle.s66_isa.specs.{Instr}
use Rattle.s66_model.specs.{IsLegal, ClampedStanding}
use Rattle.s66_cert.specs.{Parts, AreWhole}
use Rattle.s66_answer.specs.{parts_by}
use Rattle.s66_answer.proofs.AnswerDocuments.{same-parts}
use Rattle.s66_answer.proofs.FactDocuments.{shown-whole}
use Rattle.s66_answer.proofs.documents.document_by.Goals as goal

pub new-requires : goal.new-requires
new-requires c =
    let p = c.args.profile.now in
    let block = c.args.block.now in
    let order = c.args.order.now.numbers in
    let evidence = c.args.evidence in
    let claimed : Parts = record {
      rule = ClampedStanding;
      facts = Some c.into_parts-lines.result.0.items;
      profile = c.from.result.items;
      block = c.in_ok-texts_of.field-0.items;
      time = c.args.time;
      bound = c.bound-bound.result;
      numbers = c.in-Ok.numbers.items;
      vertices = c.into_parts-lines.result.1;
    } in
    let same : claimed ≡ parts_by p block order c.args.time evidence =
    same-parts claimed (parts_by p block order c.args.time evidence) refl (ap Some c.into_parts-lines.ensures.lines) (search rules) c.in_ok-texts_of.ensures.texts refl c.bound-bound.ensures (c.in-Ok.ensures.0 ∙ c.numbers.ensures.value) c.into_parts-lines.ensures.tree
    in
    let legal = subst (λ (instrs : List Instr). IsLegal instrs order) c.requires.order c.numbers.ensures.legal in
    subst AreWhole (sym same)
    (shown-whole p block order c.args.time evidence legal c.requires.time c.into_parts-lines.ensures.whole (omega (arith, c.count.ensures.value, c.count.ensures.some)) (omega (arith, c.count.ensures.value, c.count.ensures.few)) c.in_ok-texts_of.ensures.spelled)
