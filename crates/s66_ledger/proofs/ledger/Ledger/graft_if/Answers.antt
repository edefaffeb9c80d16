use Rattle.std.proofs.Common.{ℕ, ◌∙◌, ◌-◌, true, ◌≡◌, None, refl, ap, sym, subst, length, drop, arith, length-append}
use Rattle.s66_model.specs.{flat, Graft, Reply, Taken, IsOwnPiece}
use Rattle.s66_node.specs.{PieceOf}
use Rattle.s66_ledger.specs.{GraftError, refusal_reply, MachineOf, IsGraftMove, IsRefusedMove, taken_event, IsTakenMove, IsGraft, IsRefusedGraft, LedgerOf, with_history, IsRecorded}
use Rattle.s66_ledger.proofs.Recording.{noted, noted-lineless, root-state, taken-entry, refused-move, refused-entry, refused-at}
use Rattle.s66_ledger.proofs.ledger.Ledger.graft_if.Goals as goal

-- the ledger is recorded, after a graft of the piece
abbrev IsNoted : LedgerOf → ℕ → ℕ → PieceOf → Reply → LedgerOf → Type 0
IsNoted old w i p reply new = IsRecorded new × IsGraft old w i p reply new

taken : (c : goal.After-push_reserved) → IsNoted c.args.self.now c.args.w c.args.node c.args.piece.now Taken (with_history c.graft.new.self c.push_reserved.new.self.items c.extend_from_slice.new.self.items)
taken c =
    let m = c.self.inside.machine in
    let new = c.graft.new.self in
    let w = c.args.w in
    let i = c.args.node in
    let p = c.args.piece.now in
    let history = c.self.inside.history in
    let h : IsTakenMove m w i p new = c.in-Ok-graft.ensures.ok in
    let over = c.prefix-prefix.ensures.value in
    let root = c.opened_state-root.ensures ∙ root-state p c.nodes.result.now _ h.part h.taken c.nodes.ensures.value in
    let counted : c.node_count.result - c.node_count-first.result ≡ length (drop 1 (flat h.part)) = omega (arith, c.node_count.ensures.lines, c.node_count-first.ensures.lines, ap length h.lines, length-append m.lines (drop 1 (flat h.part))) in
    let (kept, event) = noted m new history.entries.items c.reserve.new.self.items c.push_reserved.new.self.items history.bytes.items c.extend_from_slice.new.self.items _ c.prefix-prefix.result.now (drop 1 (flat h.part)) (taken_event w i p h.part) Taken h.move h.lines
    (taken-entry m new w i p c.splits-splits.result c.splits-splits.ensures c.prefix-prefix.result.now _ h over root)
    c.reserve.ensures.items c.push_reserved.ensures.items c.in-Ok-extend_from_slice.ensures.items refl counted c.self.invariant in
    let now = with_history new c.push_reserved.new.self.items c.extend_from_slice.new.self.items in
    subst (λ (l : LedgerOf). IsNoted l w i p Taken now) c.self.view_is
    (kept, (taken_event w i p h.part, (true, h.part, ((λ e. (h.rule, h.problem)), (λ e. refl)), h.taken.opens, refl), event))

pub invariant_of-self-in-Ok-graft : goal.invariant_of-self-in-Ok-graft
invariant_of-self-in-Ok-graft c = (taken c).0

pub returns-in-Ok-graft-clause-ok : goal.returns-in-Ok-graft-clause-ok
returns-in-Ok-graft-clause-ok c = (taken c).1

refused : (c : goal.After-push_reserved-2) → IsNoted c.args.self.now c.args.w c.args.node c.args.piece.now (refusal_reply c.in-Some.why) (with_history c.graft.new.self c.push_reserved-2.new.self.items c.extend_from_slice.new.self.items)
refused c =
    let m = c.self.inside.machine in
    let new = c.graft.new.self in
    let w = c.args.w in
    let i = c.args.node in
    let p = c.args.piece.now in
    let history = c.self.inside.history in
    let why = c.in-Some.why in
    let over = c.prefix-prefix.ensures.value in
    let h : IsGraftMove m w i p (refusal_reply why) new =
    refused-move m new w i p c.splits-splits.result c.splits-splits.ensures why (subst (λ (e : GraftError). IsRefusedMove m w i p e new) c.in-Some.ensures.some c.in-Err.ensures.refused) in
    let own : IsOwnPiece m.rule m.problem p.rule p.problem c.args.own = subst (λ (l : LedgerOf). IsOwnPiece l.rule l.problem p.rule p.problem c.args.own) (sym c.self.view_is) c.requires.own in
    let entry = ap (λ at. (Graft w i c.args.own at c.splits-splits.result None, refusal_reply why)) over ∙ refused-entry m new w i p c.splits-splits.result c.splits-splits.ensures c.args.own why own h in
    let (kept, event) = noted-lineless m new history.entries.items c.reserve.new.self.items c.push_reserved-2.new.self.items history.bytes.items c.extend_from_slice.new.self.items _ c.prefix-prefix.result.now h.0 (refusal_reply why) h.2 (ap (λ (n : MachineOf). n.lines) c.in-Err.ensures.err) entry
    c.reserve.ensures.items c.push_reserved-2.ensures.items c.in-Ok-extend_from_slice.ensures.items refl refl c.self.invariant in
    let now = with_history new c.push_reserved-2.new.self.items c.extend_from_slice.new.self.items in
    subst (λ (l : LedgerOf). IsNoted l w i p (refusal_reply why) now) c.self.view_is (kept, (h.0, h.1, event))

pub invariant_of-self-2 : goal.invariant_of-self-2
invariant_of-self-2 c = (refused c).0

pub returns-clause-refused : goal.returns-clause-refused
returns-clause-refused c =
    let now = with_history c.graft.new.self c.push_reserved-2.new.self.items c.extend_from_slice.new.self.items in
    subst (λ (e : GraftError). IsRefusedGraft c.args.self.now c.args.w c.args.node c.args.piece.now e now) (sym c.in-Some.ensures.some)
    (refused-at c.args.self.now now c.args.w c.args.node c.args.piece.now c.in-Some.why (refused c).1)
