use Rattle.std.proofs.Common.{[], ◌≡◌, ◌≤◌, ◌<◌, ◌∙◌, ap, subst, sym}
use Rattle.s66_model.specs.{IsLegal, Problem, total_of, source_time, ended_answer}
use Rattle.s66_ledger.specs.{AnswerOf, IsKeptAnswer, answer_of, ended_of, ledger_from}
use Rattle.s66_ledger.proofs.Reordered.{reordered, reordered-answer}
use Rattle.s66_ledger.proofs.answer.Answer.with_order.Goals as goal

pub invariant_of-result : goal.invariant_of-result
invariant_of-result c =
    let s = c.self.inside in
    let b = s.best.problem in
    let nodes = s.nodes.items in
    let other = c.args.timed.numbers in
    let own : c.args.timed.problem ≡ b = c.requires.problem ∙ sym (ap (λ (a : AnswerOf). a.problem) c.self.view_is) in
    let legal : IsLegal b.block other = subst (λ (p : Problem). IsLegal p.block other) own c.order-legal.ensures.legal in
    let falls : total_of b other ≤ total_of b s.best.numbers =
    subst (λ (p : Problem). total_of p other ≤ total_of b s.best.numbers) own
    (subst (λ (a : AnswerOf). total_of c.args.timed.problem other ≤ (answer_of a).time) (sym c.self.view_is) c.requires.time) in
    let faster : total_of b other < source_time b =
    subst (λ (p : Problem). total_of p other < source_time b) own
    (subst (λ (a : AnswerOf). total_of c.args.timed.problem other < source_time a.problem) (sym c.self.view_is) c.requires.faster) in
    subst (λ (p : Problem). IsKeptAnswer (ended_of s.rule p s.budget nodes other s.splits) nodes s.bound s.source) (sym own)
    (reordered s.rule b s.budget nodes s.best.numbers other s.splits s.bound s.source c.self.invariant legal falls faster)

pub returns-clause-answer : goal.returns-clause-answer
returns-clause-answer c =
    let s = c.self.inside in
    let b = s.best.problem in
    let nodes = s.nodes.items in
    let other = c.args.timed.numbers in
    let own : c.args.timed.problem ≡ b = c.requires.problem ∙ sym (ap (λ (a : AnswerOf). a.problem) c.self.view_is) in
    let legal : IsLegal b.block other = subst (λ (p : Problem). IsLegal p.block other) own c.order-legal.ensures.legal in
    let falls : total_of b other ≤ total_of b s.best.numbers =
    subst (λ (p : Problem). total_of p other ≤ total_of b s.best.numbers) own
    (subst (λ (a : AnswerOf). total_of c.args.timed.problem other ≤ (answer_of a).time) (sym c.self.view_is) c.requires.time) in
    ap (λ (p : Problem). ended_answer p (ledger_from p nodes other 0 [] s.splits)) own
    ∙ (reordered-answer s.rule b s.budget nodes s.best.numbers other s.splits s.bound s.source c.self.invariant legal falls
    ∙ (ap (λ (a : AnswerOf). record (answer_of a) { order = other; time = total_of b other }) c.self.view_is
    ∙ ap (λ (p : Problem). record (answer_of c.args.self) { order = other; time = total_of p other }) (sym own)))
