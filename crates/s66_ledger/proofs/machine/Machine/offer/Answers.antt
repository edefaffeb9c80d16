use Rattle.std.proofs.Common.{◌≡◌, ◌∙◌, arith, refl, ap, subst}
use Rattle.s66_model.specs.{Problem, total_of, IsLegal}
use Rattle.s66_ledger.specs.{MachineOf}
use Rattle.s66_ledger.proofs.Stored.{stored_of}
use Rattle.s66_ledger.proofs.Events.{kept-lower, event-lower, event-not-lower, event-other}
use Rattle.s66_ledger.proofs.machine.Machine.offer.Goals as goal

pub returns-then-not-is_of : goal.returns-then-not-is_of
returns-then-not-is_of c = record {
  offered = event-other (stored_of c.self.inside) c.self.invariant c.args.self.now c.self.view_is c.args.w c.requires c.args.timed _ c.is_of.ensures c.if-not-is_of.true;
  lines = refl;
}

pub invariant_of-self : goal.invariant_of-self
invariant_of-self c =
    let m = stored_of c.self.inside in
    let t = c.args.timed in
    let own : t.problem ≡ m.problem = c.is_of.ensures.0 c.if-not-is_of.false in
    let legal : IsLegal m.problem.block t.numbers = subst (λ (p : Problem). IsLegal p.block t.numbers) own c.order-legal.ensures.legal in
    kept-lower m c.self.invariant c.args.self.now c.self.view_is c.args.w c.requires t own legal
    (omega (arith, c.if-total-least.true, c.total.ensures.value, c.total-least.ensures.value, ap (λ p. total_of p t.numbers) own, ap (λ p. total_of p m.best.numbers) c.self.invariant.own))

pub returns-then-total-least : goal.returns-then-total-least
returns-then-total-least c =
    let m = stored_of c.self.inside in
    let t = c.args.timed in
    let own : t.problem ≡ m.problem = c.is_of.ensures.0 c.if-not-is_of.false in
    let legal : IsLegal m.problem.block t.numbers = subst (λ (p : Problem). IsLegal p.block t.numbers) own c.order-legal.ensures.legal in
    record {
      offered =
          event-lower m c.self.invariant c.args.self.now c.self.view_is c.args.w c.requires t own legal
          (omega (arith, c.if-total-least.true, c.total.ensures.value, c.total-least.ensures.value, ap (λ p. total_of p t.numbers) own, ap (λ p. total_of p m.best.numbers) c.self.invariant.own));
      lines = ap (λ (l : MachineOf). l.lines) c.self.view_is;
    }

pub returns-else-total-least : goal.returns-else-total-least
returns-else-total-least c =
    let m = stored_of c.self.inside in
    let t = c.args.timed in
    let own : t.problem ≡ m.problem = c.is_of.ensures.0 c.if-not-is_of.false in
    let legal : IsLegal m.problem.block t.numbers = subst (λ (p : Problem). IsLegal p.block t.numbers) own c.order-legal.ensures.legal in
    let least = c.total-least.ensures.value ∙ ap (λ p. total_of p m.best.numbers) c.self.invariant.own in
    record {
      offered =
          event-not-lower m c.self.invariant c.args.self.now c.self.view_is c.args.w c.requires t own legal c.total-least.result least
          (omega (arith, c.if-total-least.false, c.total.ensures.value, least, ap (λ p. total_of p t.numbers) own));
      lines = refl;
    }
