use Rattle.std.proofs.Common.{◌<◌, ◌≡◌, ◌+◌, ◌-◌, ◌∙◌, arith, length, ap, sym, subst, get_or, set}
use Rattle.s66_ledger.specs.{MachineOf, IsKeptMachine}
use Rattle.s66_ledger.proofs.Stored.{stored_of}
use Rattle.s66_ledger.proofs.NodePrefixes.{get_or-any}
use Rattle.s66_ledger.proofs.Events.{kept-room, kept-retire}
use Rattle.s66_ledger.proofs.machine.Machine.retire_at.Goals as goal

pub overflow_add-self : goal.overflow_add-self
overflow_add-self c =
    let m = stored_of c.self.inside in
    let lt : c.args.at < length m.allowances = omega (arith, c.requires, ap (λ (l : MachineOf). l.workers) c.self.view_is) in
    omega (arith, kept-room m c.self.invariant c.args.at, c.index.ensures ∙ get_or-any m.allowances c.args.at c.index.result.now 0 (λ n. n) lt, c.self.invariant.few)

pub invariant_of-self : goal.invariant_of-self
invariant_of-self c =
    let m = stored_of c.self.inside in
    let lt : c.args.at < length m.allowances = omega (arith, c.requires, ap (λ (l : MachineOf). l.workers) c.self.view_is) in
    let was = c.index.ensures ∙ get_or-any m.allowances c.args.at c.index.result.now 0 (λ n. n) lt in
    let at : c.args.at + 1 - 1 ≡ c.args.at = omega arith in
    subst (λ n. IsKeptMachine (record m { left = m.left + n; allowances = set m.allowances c.args.at 0 })) (sym was)
    (subst (λ i. IsKeptMachine (record m { left = m.left + get_or m.allowances i 0; allowances = set m.allowances i 0 })) at
    (kept-retire m c.self.invariant c.args.self.now c.self.view_is (c.args.at + 1) (omega arith, omega (arith, c.requires))))
