use Rattle.std.proofs.Common.{refl, subst}
use Rattle.s66_model.specs.{Retire, Retired}
use Rattle.s66_ledger.specs.{LedgerOf, IsEvent, with_history}
use Rattle.s66_ledger.proofs.Recording.{recorded-alone, event-alone}
use Rattle.s66_ledger.proofs.ledger.Ledger.retire.Goals as goal

pub invariant_of-self-2 : goal.invariant_of-self-2
invariant_of-self-2 c =
    recorded-alone c.self.inside.machine c.retire.new.self c.self.inside.history.entries.items c.reserve.new.self.items c.push_reserved.new.self.items c.self.inside.history.bytes.items _ (Retire c.args.w) Retired
    c.retire.ensures.retired c.retire.ensures.lines refl c.reserve.ensures.items c.push_reserved.ensures.items refl refl c.self.invariant

pub returns-clause-ok : goal.returns-clause-ok
returns-clause-ok c =
    subst (λ (l : LedgerOf). IsEvent l (Retire c.args.w) Retired (with_history c.retire.new.self c.push_reserved.new.self.items c.self.inside.history.bytes.items)) c.self.view_is
    (event-alone c.self.inside.machine c.retire.new.self c.self.inside.history.entries.items c.reserve.new.self.items c.push_reserved.new.self.items c.self.inside.history.bytes.items _ (Retire c.args.w) Retired
    c.retire.ensures.retired c.retire.ensures.lines refl c.reserve.ensures.items c.push_reserved.ensures.items refl refl c.self.invariant)
