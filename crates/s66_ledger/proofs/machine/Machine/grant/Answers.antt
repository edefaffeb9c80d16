use Rattle.std.proofs.Common.{◌+◌, ◌-◌, ◌∙◌, arith, sym, subst, set}
use Rattle.s66_ledger.specs.{IsKeptMachine}
use Rattle.s66_ledger.proofs.Stored.{stored_of}
use Rattle.s66_ledger.proofs.NodePrefixes.{get_or-any}
use Rattle.s66_ledger.proofs.Events.{kept-room, kept-grant, worker-place}
use Rattle.s66_ledger.proofs.machine.Machine.grant.Goals as goal

pub overflow_add-index_mut : goal.overflow_add-index_mut
overflow_add-index_mut c =
    let m = stored_of c.self.inside in
    let lt = worker-place m c.self.invariant c.args.self.now c.self.view_is c.args.w c.requires in
    omega (arith, kept-room m c.self.invariant (c.args.w - 1), c.min-share.ensures, c.index_mut.ensures.value ∙ get_or-any m.allowances (c.args.w - 1) c.index_mut.result.now 0 (λ n. n) lt, c.self.invariant.few)

pub invariant_of-self : goal.invariant_of-self
invariant_of-self c =
    let m = stored_of c.self.inside in
    let lt = worker-place m c.self.invariant c.args.self.now c.self.view_is c.args.w c.requires in
    let was = c.index_mut.ensures.value ∙ get_or-any m.allowances (c.args.w - 1) c.index_mut.result.now 0 (λ n. n) lt in
    subst (λ n. IsKeptMachine (record m { left = m.left - c.min-share.result; allowances = set m.allowances (c.args.w - 1) (n + c.min-share.result) })) (sym was)
    (kept-grant m c.self.invariant c.args.self.now c.self.view_is c.args.w c.requires c.min-share.result (omega (arith, c.min-share.ensures)))
