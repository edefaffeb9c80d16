use Rattle.std.proofs.Common.{◌≡◌, ◌∙◌, refl, ap, subst, arith}
use Rattle.s66_model.specs.{Event, IsOwn, IsOfferOf}
use Rattle.s66_time.specs.Ordered.{Ordered}
use Rattle.s66_ledger.specs.{offered_reply, LedgerOf, IsEvent, with_history}
use Rattle.s66_ledger.proofs.Recording.{recorded-lineless, event-lineless, offered-own, offer-entry}
use Rattle.s66_ledger.proofs.ledger.Ledger.offer.Goals as goal

pub invariant_of-self-2 : goal.invariant_of-self-2
invariant_of-self-2 c =
    let m = c.self.inside.machine in
    let t = c.args.timed in
    let order : c.numbers-numbers.result.now ≡ t.numbers = c.numbers-numbers.ensures.value ∙ ap (λ (o : Ordered). o.numbers) c.order.ensures.value in
    let (event, offers, moves) = c.offer-offered.ensures.offered in
    let own : IsOwn m.problem t.problem c.is_own.result = offered-own m.rule m.problem t.problem m.state c.offer-offered.new.self.state c.args.w t.numbers event c.offer-offered.result c.is_own.result offers moves.3.1 c.is_own.ensures.other c.is_own.ensures.own in
    recorded-lineless m c.offer-offered.new.self c.self.inside.history.entries.items c.reserve.new.self.items c.push_reserved.new.self.items c.self.inside.history.bytes.items c.extend_from_slice.new.self.items _ c.numbers-numbers.result.now event (offered_reply c.offer-offered.result)
    moves c.offer-offered.ensures.lines (offer-entry m.problem t.problem c.args.w t.numbers c.numbers-numbers.result.now c.is_own.result c.total-time.result (offered_reply c.offer-offered.result) event own order c.total-time.ensures.value offers)
    c.reserve.ensures.items c.push_reserved.ensures.items c.in_ok-extend_from_slice.ensures.items (omega (arith, c.numbers-numbers.ensures.few)) refl c.self.invariant

pub returns-clause-ok : goal.returns-clause-ok
returns-clause-ok c =
    let m = c.self.inside.machine in
    let t = c.args.timed in
    let order : c.numbers-numbers.result.now ≡ t.numbers = c.numbers-numbers.ensures.value ∙ ap (λ (o : Ordered). o.numbers) c.order.ensures.value in
    let (event, offers, moves) = c.offer-offered.ensures.offered in
    let own : IsOwn m.problem t.problem c.is_own.result = offered-own m.rule m.problem t.problem m.state c.offer-offered.new.self.state c.args.w t.numbers event c.offer-offered.result c.is_own.result offers moves.3.1 c.is_own.ensures.other c.is_own.ensures.own in
    let new = with_history c.offer-offered.new.self c.push_reserved.new.self.items c.extend_from_slice.new.self.items in
    subst (λ (l : LedgerOf). (e : Event) × IsOfferOf l.problem c.args.w t.problem t.numbers e × IsEvent l e (offered_reply c.offer-offered.result) new) c.self.view_is (
      event,
      offers,
      event-lineless m c.offer-offered.new.self c.self.inside.history.entries.items c.reserve.new.self.items c.push_reserved.new.self.items c.self.inside.history.bytes.items c.extend_from_slice.new.self.items _ c.numbers-numbers.result.now event (offered_reply c.offer-offered.result)
          moves c.offer-offered.ensures.lines (offer-entry m.problem t.problem c.args.w t.numbers c.numbers-numbers.result.now c.is_own.result c.total-time.result (offered_reply c.offer-offered.result) event own order c.total-time.ensures.value offers)
          c.reserve.ensures.items c.push_reserved.ensures.items c.in_ok-extend_from_slice.ensures.items (omega (arith, c.numbers-numbers.ensures.few)) refl c.self.invariant,
    )
