use Rattle.std.proofs.Common.{None, refl, ◌≡◌, ◌∙◌, if◌then◌else◌, ap, ap₂, sym, subst, arith, rules}
use Rattle.s66_model.specs.{NoneNamed, Problem, has_dominated_line, IsAnswer}
use Rattle.s66_line.specs.{instrs_of}
use Rattle.s66_time.specs.Ordered.{Ordered}
use Rattle.s66_cert.specs.{Document, Parts, AreWhole, document_of}
use Rattle.s66_ledger.specs.{answer_of}
use Rattle.s66_checker.specs.{Yes, verdict}
use Rattle.s66_answer.specs.{document_under, searched}
use Rattle.s66_answer.proofs.AnswerVerdicts.{verdict-of_search}
use Rattle.s66_answer.proofs.AnswerDocuments.{parts_under, parts-document, parts-whole, same-parts}
use Rattle.s66_answer.proofs.documents.document_of.Goals.{After-bound, After-new}
use Rattle.s66_answer.proofs.documents.document_of.Goals as goal

-- what the claim says, and the answer's own parts
abbrev claimed : After-bound → Parts
claimed c = record {
  rule = c.rule_of.result;
  facts = None;
  profile = c.from.result.items;
  block = c.in_ok-texts_of.field-0.items;
  time = c.time.result;
  bound = c.bound.result;
  numbers = c.in-Ok.order.items;
  vertices = c.in_ok-tree.tree;
}

abbrev own : After-bound → Parts
own c = parts_under c.args.answer.now.rule c.args.profile.now c.args.block.now (answer_of c.args.answer.now)

same : (c : After-bound) → claimed c ≡ own c
same c =
    same-parts (claimed c) (own c) (c.rule_of.ensures ∙ ap₂ (λ rule vertices. if has_dominated_line vertices then rule else NoneNamed) c.rule.ensures c.in_ok-tree.ensures) refl (search rules) (c.in_ok-texts_of.ensures.texts) c.time.ensures.value c.bound.ensures.value
    (c.in-Ok.ensures.0 ∙ c.numbers.ensures.value ∙ ap (λ (o : Ordered). o.numbers) c.order.ensures) c.in_ok-tree.ensures

is : (c : After-bound) → IsAnswer c.args.answer.now.rule (record { block = instrs_of c.args.block.now; profile = c.args.profile.now }) c.args.answer.now.budget (answer_of c.args.answer.now)
is c = subst (λ (b : Problem). IsAnswer c.args.answer.now.rule b c.args.answer.now.budget (answer_of c.args.answer.now)) c.requires c.time.ensures.answer

pub new-requires : goal.new-requires
new-requires c =
    subst AreWhole (sym (same c))
    (parts-whole c.args.answer.now.rule c.args.profile.now c.args.block.now c.args.answer.now.budget (answer_of c.args.answer.now) (is c) (omega (arith, c.splits.ensures.value, c.splits.ensures.few))
    (omega (arith, c.count.ensures.value, c.count.ensures.some)) (omega (arith, c.count.ensures.value, c.count.ensures.few)) c.in_ok-texts_of.ensures.spelled)

document : (c : After-new) → document_of c.new.result ≡ document_under c.args.answer.now.rule c.args.profile.now c.args.block.now (searched (answer_of c.args.answer.now))
document c =
    ap document_of (c.new.ensures ∙ same c.before)
    ∙ parts-document c.args.answer.now.rule c.args.profile.now c.args.block.now c.args.answer.now.budget (answer_of c.args.answer.now) (is c.before)

pub returns-clause-document : goal.returns-clause-document
returns-clause-document c = document c

pub returns-clause-yes : goal.returns-clause-yes
returns-clause-yes c =
    let a = answer_of c.args.answer.now in
    subst (λ (d : Document). verdict d ≡ Yes a.time a.bound) (sym (document c))
    (verdict-of_search c.args.answer.now.rule c.args.profile.now c.args.block.now c.args.answer.now.budget a
    (omega (arith, c.count.ensures.value, c.count.ensures.some), omega (arith, c.count.ensures.value, c.count.ensures.few), c.in_ok-texts_of.ensures.spelled)
    (omega (arith, c.splits.ensures.value, c.splits.ensures.few)) (is c.before))
