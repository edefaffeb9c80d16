use Rattle.std.proofs.Common.{refl, subst}
use Rattle.s66_model.specs.{Grant, Granted}
use Rattle.s66_ledger.specs.{LedgerOf, IsEvent, with_history}
use Rattle.s66_ledger.proofs.Recording.{recorded-alone, event-alone}
use Rattle.s66_ledger.proofs.ledger.Ledger.grant.Goals as goal

pub invariant_of-self-2 : goal.invariant_of-self-2
invariant_of-self-2 c =
    recorded-alone c.self.inside.machine c.grant-splits.new.self c.self.inside.history.entries.items c.reserve.new.self.items c.push_reserved.new.self.items c.self.inside.history.bytes.items _ (Grant c.args.w) (Granted c.grant-splits.result)
    c.grant-splits.ensures.granted c.grant-splits.ensures.lines refl c.reserve.ensures.items c.push_reserved.ensures.items refl refl c.self.invariant

pub returns-clause-ok : goal.returns-clause-ok
returns-clause-ok c =
    subst (λ (l : LedgerOf). IsEvent l (Grant c.args.w) (Granted c.grant-splits.result) (with_history c.grant-splits.new.self c.push_reserved.new.self.items c.self.inside.history.bytes.items)) c.self.view_is
    (event-alone c.self.inside.machine c.grant-splits.new.self c.self.inside.history.entries.items c.reserve.new.self.items c.push_reserved.new.self.items c.self.inside.history.bytes.items _ (Grant c.args.w) (Granted c.grant-splits.result)
    c.grant-splits.ensures.granted c.grant-splits.ensures.lines refl c.reserve.ensures.items c.push_reserved.ensures.items refl refl c.self.invariant)
