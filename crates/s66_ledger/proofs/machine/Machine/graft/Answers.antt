use Rattle.std.proofs.Common.{◌-◌, ◌∙◌, true≢false, sym, arith, ap}
use Rattle.s66_model.specs.{allowance}
use Rattle.s66_ledger.specs.{MachineOf}
use Rattle.s66_ledger.proofs.Stored.{stored_of}
use Rattle.s66_ledger.proofs.NodePrefixes.{get_or-any}
use Rattle.s66_ledger.proofs.Events.{worker-place}
use Rattle.s66_ledger.proofs.GraftSteps.{graft-not-out, graft-other, graft-other-prefix, graft-over, out-seen-as, over-seen-as}
use Rattle.s66_ledger.proofs.machine.Machine.graft.Goals as goal

pub returns-then-not-is_out-clause-refused : goal.returns-then-not-is_out-clause-refused
returns-then-not-is_out-clause-refused c =
    graft-not-out (stored_of c.self.inside) c.self.invariant c.args.self.now c.self.view_is c.args.w c.requires.worker c.args.node c.args.piece.now c.args.own c.requires.own (λ out. true≢false (sym (c.is_out.ensures.1 out) ∙ c.if-not-is_out.true))

pub returns-then-not-own-clause-refused : goal.returns-then-not-own-clause-refused
returns-then-not-own-clause-refused c =
    graft-other (stored_of c.self.inside) c.self.invariant c.args.self.now c.self.view_is c.args.w c.requires.worker c.args.node c.args.piece.now c.args.own c.requires.own (c.is_out.ensures.0 c.if-not-is_out.false) c.if-not-own.true

pub returns-then-not-is_over-clause-refused : goal.returns-then-not-is_over-clause-refused
returns-then-not-is_over-clause-refused c =
    graft-other-prefix (stored_of c.self.inside) c.self.invariant c.args.self.now c.self.view_is c.args.w c.requires.worker c.args.node c.args.piece.now c.args.own c.requires.own (c.is_out.ensures.0 c.if-not-is_out.false) (λ over. true≢false (sym (c.is_over.ensures.1 (over ∙ sym c.prefix.ensures.value)) ∙ c.if-not-is_over.true))

pub returns-then-index-splits-clause-refused : goal.returns-then-index-splits-clause-refused
returns-then-index-splits-clause-refused c =
    let m = stored_of c.self.inside in
    let was = c.index.ensures ∙ get_or-any m.allowances (c.args.w - 1) c.index.result.now 0 (λ n. n) (worker-place m c.self.invariant c.args.self.now c.self.view_is c.args.w c.requires.worker) in
    graft-over m c.self.invariant c.args.self.now c.self.view_is c.args.w c.requires.worker c.args.node c.args.piece.now c.args.own c.requires.own (c.is_out.ensures.0 c.if-not-is_out.false) c.if-not-own.false (c.is_over.ensures.0 c.if-not-is_over.false ∙ c.prefix.ensures.value)
    (omega (arith, was, c.if-index-splits.true, c.splits.ensures))

pub put_in-requires-clause-out : goal.put_in-requires-clause-out
put_in-requires-clause-out c = out-seen-as (stored_of c.self.inside) c.args.self.now c.self.view_is c.args.node (c.is_out.ensures.0 c.if-not-is_out.false)

pub put_in-requires-clause-prefix : goal.put_in-requires-clause-prefix
put_in-requires-clause-prefix c =
    over-seen-as (stored_of c.self.inside) c.args.self.now c.self.view_is c.args.node c.args.piece.now.prefix (c.is_out.ensures.0 c.if-not-is_out.false) (c.is_over.ensures.0 c.if-not-is_over.false ∙ c.prefix.ensures.value)

pub put_in-requires-clause-within : goal.put_in-requires-clause-within
put_in-requires-clause-within c =
    let m = stored_of c.self.inside in
    let was = c.index.ensures ∙ get_or-any m.allowances (c.args.w - 1) c.index.result.now 0 (λ n. n) (worker-place m c.self.invariant c.args.self.now c.self.view_is c.args.w c.requires.worker) in
    omega (arith, was, c.if-index-splits.false, c.splits.ensures, ap (λ (l : MachineOf). allowance l.state c.args.w) c.self.view_is)
