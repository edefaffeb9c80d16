use Rattle.std.proofs.Common.{◌≡◌, ap, refl, ◌∙◌}
use Rattle.std.proofs.lemmas.Result.{IfOk-weaker, on_err_weaker}
use Rattle.s66_model.specs.{Retire, Retired, SeatRecord, after_event}
use Rattle.s66_ledger.specs.{account_summary}
use Rattle.s66_share.specs.{book}
use Rattle.s66_pool.specs.{SeatOf}
use Rattle.s66_pool.proofs.SeatEvents.{number_within, follows-at, gave-book}
use Rattle.s66_pool.proofs.AfterCalls.{seat-keeps, seat-same, same-call, quiet-call, plain-call}
use Rattle.s66_pool.proofs.hub.Hub.retire.Goals as goal

pub retire-retired-requires : goal.retire-retired-requires
retire-retired-requires g c =
    number_within c.take-ledger.result.value c.deref_mut.result.now c.deref_mut.ensures.value (book c.seat.inside.token) c.seat.inside.number c.take-ledger.ensures.agrees c.seat.invariant.1

pub give-requires-clause-follows : goal.give-requires-clause-follows
give-requires-clause-follows g c =
    let p = book c.seat.inside.token in
    let keeps = plain-call c.take-ledger.result.value c.deref_mut.result.now c.retire-retired.new.self c.deref_mut.ensures.value p c.seat.inside.number c.seat.invariant.1 c.take-ledger.ensures.agrees
    c.retire-retired.result (λ w. Retire w) (λ x. Retired) refl (λ x. refl) (λ x. refl) c.retire-retired.ensures.ok c.retire-retired.ensures.err in
    follows-at c.take-ledger.new.token.me (account_summary c.take-ledger.result.value) p c.take-ledger.ensures.holding (account_summary c.retire-retired.new.self) keeps.0

pub invariant_of-seat : goal.invariant_of-seat
invariant_of-seat g c =
    let p = book c.seat.inside.token in
    let keeps = plain-call c.take-ledger.result.value c.deref_mut.result.now c.retire-retired.new.self c.deref_mut.ensures.value p c.seat.inside.number c.seat.invariant.1 c.take-ledger.ensures.agrees
    c.retire-retired.result (λ w. Retire w) (λ x. Retired) refl (λ x. refl) (λ x. refl) c.retire-retired.ensures.ok c.retire-retired.ensures.err in
    seat-keeps c.take-ledger.new.token.me (account_summary c.take-ledger.result.value) p c.take-ledger.ensures.holding (account_summary c.retire-retired.new.self) c.give.new.token.me c.give.ensures.resting c.seat.inside.number c.seat.inside.splits c.seat.invariant.1 (keeps.1 ∙ c.seat.invariant.2)

pub returns-clause-ok : goal.returns-clause-ok
returns-clause-ok g c =
    let p = book c.seat.inside.token in
    let at : p ≡ c.args.seat.now.book = ap (λ (s : SeatOf). s.book) c.seat.view_is in
    let gave = gave-book c.take-ledger.new.token.me (account_summary c.take-ledger.result.value) p c.take-ledger.ensures.holding (account_summary c.retire-retired.new.self) c.give.new.token.me c.give.ensures.resting in
    IfOk-weaker c.retire-retired.result _ _
    (λ x h. gave ∙ (quiet-call c.take-ledger.result.value c.deref_mut.result.now c.retire-retired.new.self c.deref_mut.ensures.value p c.seat.inside.number c.seat.invariant.1 c.take-ledger.ensures.agrees (λ w. Retire w) Retired refl refl h).1
    ∙ ap (λ (q : SeatRecord). after_event q (Retire q.who) Retired) at)
    c.retire-retired.ensures.ok

pub returns-clause-err : goal.returns-clause-err
returns-clause-err g c =
    let p = book c.seat.inside.token in
    let gave = gave-book c.take-ledger.new.token.me (account_summary c.take-ledger.result.value) p c.take-ledger.ensures.holding (account_summary c.retire-retired.new.self) c.give.new.token.me c.give.ensures.resting in
    on_err_weaker c.retire-retired.result
    (λ h. seat-same c.args.seat.now c.seat.inside.token.table_id c.give.new.token.table_id p (book c.give.new.token) c.seat.view_is (c.give.ensures.here ∙ c.take-ledger.ensures.here)
    (gave ∙ (same-call c.take-ledger.result.value c.deref_mut.result.now c.retire-retired.new.self c.deref_mut.ensures.value p c.seat.inside.number c.seat.invariant.1 c.take-ledger.ensures.agrees h).1))
    c.retire-retired.ensures.err
