use Rattle.std.proofs.Common.{refl, subst}
use Rattle.s66_model.specs.{Back, Returned, NotOut}
use Rattle.s66_ledger.specs.{LedgerOf, IsEvent, with_history}
use Rattle.s66_ledger.proofs.Recording.{recorded-alone, event-alone}
use Rattle.s66_ledger.proofs.ledger.Ledger.back_at.Goals as goal

pub invariant_of-self-in-Ok-back : goal.invariant_of-self-in-Ok-back
invariant_of-self-in-Ok-back c =
    recorded-alone c.self.inside.machine c.back.new.self c.self.inside.history.entries.items c.reserve.new.self.items c.push_reserved.new.self.items c.self.inside.history.bytes.items _ (Back c.args.w c.args.node) Returned
    c.in-Ok-back.ensures.ok c.in-Ok-back.ensures.lines refl c.reserve.ensures.items c.push_reserved.ensures.items refl refl c.self.invariant

pub invariant_of-self-in-Err-NotOut : goal.invariant_of-self-in-Err-NotOut
invariant_of-self-in-Err-NotOut c =
    recorded-alone c.self.inside.machine c.back.new.self c.self.inside.history.entries.items c.reserve.new.self.items c.push_reserved-in-Err-NotOut.new.self.items c.self.inside.history.bytes.items _ (Back c.args.w c.args.node) NotOut
    (c.in-Err-NotOut.ensures.not_out c.in-Err-NotOut.field-0-is) c.in-Err-NotOut.ensures.lines refl c.reserve.ensures.items c.push_reserved-in-Err-NotOut.ensures.items refl refl c.self.invariant

pub returns-in-Ok-back-clause-ok : goal.returns-in-Ok-back-clause-ok
returns-in-Ok-back-clause-ok c =
    subst (λ (l : LedgerOf). IsEvent l (Back c.args.w c.args.node) Returned (with_history c.back.new.self c.push_reserved.new.self.items c.self.inside.history.bytes.items)) c.self.view_is
    (event-alone c.self.inside.machine c.back.new.self c.self.inside.history.entries.items c.reserve.new.self.items c.push_reserved.new.self.items c.self.inside.history.bytes.items _ (Back c.args.w c.args.node) Returned
    c.in-Ok-back.ensures.ok c.in-Ok-back.ensures.lines refl c.reserve.ensures.items c.push_reserved.ensures.items refl refl c.self.invariant)

pub returns-in-Err-NotOut-clause-not_out : goal.returns-in-Err-NotOut-clause-not_out
returns-in-Err-NotOut-clause-not_out c =
    λ _. subst (λ (l : LedgerOf). IsEvent l (Back c.args.w c.args.node) NotOut (with_history c.back.new.self c.push_reserved-in-Err-NotOut.new.self.items c.self.inside.history.bytes.items)) c.self.view_is
    (event-alone c.self.inside.machine c.back.new.self c.self.inside.history.entries.items c.reserve.new.self.items c.push_reserved-in-Err-NotOut.new.self.items c.self.inside.history.bytes.items _ (Back c.args.w c.args.node) NotOut
    (c.in-Err-NotOut.ensures.not_out c.in-Err-NotOut.field-0-is) c.in-Err-NotOut.ensures.lines refl c.reserve.ensures.items c.push_reserved-in-Err-NotOut.ensures.items refl refl c.self.invariant)
