use Rattle.std.proofs.Common.{◌+◌, ◌-◌, ◌∙◌, set, sym, arith, subst}
use Rattle.s66_ledger.specs.{machine_of, IsKeptMachine, IsTakenMove}
use Rattle.s66_ledger.proofs.Stored.{stored_of}
use Rattle.s66_ledger.proofs.NodePrefixes.{get_or-any}
use Rattle.s66_ledger.proofs.Events.{worker-place, kept-room}
use Rattle.s66_ledger.proofs.GraftSteps.{out-stored, over-stored, piece-floors, within, piece-room, graft-taken, kept-taken}
use Rattle.s66_ledger.proofs.machine.Machine.put_in.Goals as goal

pub attach-requires : goal.attach-requires
attach-requires c = record {
  out = out-stored (stored_of c.self.inside) c.args.self.now c.self.view_is c.args.node c.requires.out;
  over = over-stored (stored_of c.self.inside) c.args.self.now c.self.view_is c.args.node c.args.piece.now.prefix c.requires.out c.requires.prefix;
  floors = piece-floors (stored_of c.self.inside) c.self.invariant c.args.self.now c.self.view_is c.args.w c.requires.worker c.args.node c.args.piece.now c.requires.rule c.requires.problem c.requires.out;
  room =
      piece-room (stored_of c.self.inside) c.self.invariant c.args.self.now c.self.view_is c.args.w c.requires.worker c.args.node c.args.piece.now c.requires.rule c.requires.problem c.requires.out c.nodes-nodes.ensures.tree
      (omega (arith, c.count.ensures.value, c.count.ensures.few)) c.requires.within;
}

pub overflow_add-self : goal.overflow_add-self
overflow_add-self c =
    let m = stored_of c.self.inside in
    let fits = within m c.self.invariant c.args.self.now c.self.view_is c.args.w c.requires.worker c.args.node c.args.piece.now c.requires.rule c.requires.problem c.requires.out c.nodes-nodes.ensures.tree
    (omega (arith, c.count.ensures.value, c.count.ensures.few)) c.requires.within in
    omega (arith, fits, c.splits-splits.ensures, kept-room m c.self.invariant (c.args.w - 1), c.self.invariant.few)

pub invariant_of-self-2 : goal.invariant_of-self-2
invariant_of-self-2 c =
    let m = stored_of c.self.inside in
    let lt = worker-place m c.self.invariant c.args.self.now c.self.view_is c.args.w c.requires.worker in
    let now = c.index_mut.ensures.value ∙ get_or-any m.allowances (c.args.w - 1) c.index_mut.result.now 0 (λ n. n) lt in
    let k = c.splits-splits.result in
    subst (λ n. IsKeptMachine (record m { nodes = c.attach.new.self; allowances = set m.allowances (c.args.w - 1) (n - k); spent = m.spent + k })) (sym now)
    (kept-taken m c.self.invariant c.args.self.now c.self.view_is c.args.w c.requires.worker c.args.node c.args.piece.now c.requires.rule c.requires.problem c.requires.out c.nodes-nodes.ensures.tree
    (omega (arith, c.count.ensures.value, c.count.ensures.few)) c.requires.within c.attach.new.self k c.requires.prefix c.splits-splits.ensures c.total-best.result c.total-best.ensures.value c.in_ok-attach.ensures.ok)

pub returns-clause-ok : goal.returns-clause-ok
returns-clause-ok c =
    let m = stored_of c.self.inside in
    let lt = worker-place m c.self.invariant c.args.self.now c.self.view_is c.args.w c.requires.worker in
    let now = c.index_mut.ensures.value ∙ get_or-any m.allowances (c.args.w - 1) c.index_mut.result.now 0 (λ n. n) lt in
    let k = c.splits-splits.result in
    subst (λ n. IsTakenMove c.args.self.now c.args.w c.args.node c.args.piece.now (machine_of (record m { nodes = c.attach.new.self; allowances = set m.allowances (c.args.w - 1) (n - k); spent = m.spent + k }))) (sym now)
    (graft-taken m c.self.invariant c.args.self.now c.self.view_is c.args.w c.requires.worker c.args.node c.args.piece.now c.requires.rule c.requires.problem c.requires.out c.nodes-nodes.ensures.tree
    (omega (arith, c.count.ensures.value, c.count.ensures.few)) c.requires.within c.attach.new.self k c.requires.prefix c.splits-splits.ensures c.total-best.result c.total-best.ensures.value c.in_ok-attach.ensures.ok)
