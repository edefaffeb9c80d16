use Rattle.std.proofs.Common.{◌∙◌, [], ap, sym, subst}
use Rattle.s66_model.specs.{Problem, ended_answer}
use Rattle.s66_ledger.specs.{MachineOf, ledger_from, IsKeptAnswer, ended_of}
use Rattle.s66_ledger.proofs.Stored.{stored_of}
use Rattle.s66_ledger.proofs.Ends.{kept-answer}
use Rattle.s66_ledger.proofs.machine.Machine.into_answer.Goals as goal

pub invariant_of-result : goal.invariant_of-result
invariant_of-result c =
    let m = stored_of c.self.inside in
    subst (λ nodes. IsKeptAnswer (ended_of m.rule m.best.problem m.budget nodes m.best.numbers m.spent) nodes c.bound-bound.result m.source) (sym c.into_nodes.ensures)
    (kept-answer m c.self.invariant c.args.self c.self.view_is c.bound-bound.result c.requires c.bound-bound.ensures)

pub returns-clause-answer : goal.returns-clause-answer
returns-clause-answer c =
    let m = stored_of c.self.inside in
    ap (λ nodes. ended_answer m.best.problem (ledger_from m.best.problem nodes m.best.numbers 0 [] m.spent)) c.into_nodes.ensures
    ∙ (ap (λ (p : Problem). ended_answer p (ledger_from p m.nodes m.best.numbers 0 [] m.spent)) c.self.invariant.own
    ∙ ap (λ (l : MachineOf). ended_answer l.problem l.state) c.self.view_is)
