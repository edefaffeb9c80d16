use Rattle.std.proofs.Common.{ap, ◌∙◌}
use Rattle.s66_ledger.specs.{account_summary}
use Rattle.s66_share.specs.{book}
use Rattle.s66_pool.specs.{SeatOf}
use Rattle.s66_pool.proofs.SeatEvents.{number_within, follows-at, gave-book}
use Rattle.s66_pool.proofs.AfterCalls.{seat-keeps}
use Rattle.s66_pool.proofs.Supplied.{supply-keeps, has-supply}
use Rattle.s66_pool.proofs.hub.Hub.supply.Goals as goal

pub serve-got-requires-clause-worker : goal.serve-got-requires-clause-worker
serve-got-requires-clause-worker g c =
    number_within c.take-ledger.result.value c.deref_mut.result.now c.deref_mut.ensures.value (book c.seat.inside.token) c.seat.inside.number c.take-ledger.ensures.agrees c.seat.invariant.1

pub give-requires-clause-follows : goal.give-requires-clause-follows
give-requires-clause-follows g c =
    let p = book c.seat.inside.token in
    let keeps = supply-keeps c.take-ledger.result.value p c.take-ledger.ensures.agrees c.deref_mut.result.now c.serve-got.new.ledger c.deref_mut.ensures.value c.seat.inside.number c.seat.invariant.1
    c.serve-got.result c.serve-got.new.tickets.items c.serve-got.ensures.events in
    follows-at c.take-ledger.new.token.me (account_summary c.take-ledger.result.value) p c.take-ledger.ensures.holding (account_summary c.serve-got.new.ledger) keeps.0

pub invariant_of-seat : goal.invariant_of-seat
invariant_of-seat g c =
    let p = book c.seat.inside.token in
    let keeps = supply-keeps c.take-ledger.result.value p c.take-ledger.ensures.agrees c.deref_mut.result.now c.serve-got.new.ledger c.deref_mut.ensures.value c.seat.inside.number c.seat.invariant.1
    c.serve-got.result c.serve-got.new.tickets.items c.serve-got.ensures.events in
    seat-keeps c.take-ledger.new.token.me (account_summary c.take-ledger.result.value) p c.take-ledger.ensures.holding (account_summary c.serve-got.new.ledger) c.give.new.token.me c.give.ensures.resting c.seat.inside.number
    c.seat.inside.splits c.seat.invariant.1 (keeps.1 ∙ c.seat.invariant.2)

pub returns-clause-supply : goal.returns-clause-supply
returns-clause-supply g c =
    let p = book c.seat.inside.token in
    let now : SeatOf = record { hub = c.give.new.token.table_id; book = book c.give.new.token } in
    let gave = gave-book c.take-ledger.new.token.me (account_summary c.take-ledger.result.value) p c.take-ledger.ensures.holding (account_summary c.serve-got.new.ledger) c.give.new.token.me c.give.ensures.resting in
    has-supply c.take-ledger.result.value p c.take-ledger.ensures.agrees c.deref_mut.result.now c.serve-got.new.ledger c.deref_mut.ensures.value c.seat.inside.number c.seat.invariant.1
    c.serve-got.result c.serve-got.new.tickets.items c.serve-got.ensures.events c.args.seat.now now (ap (λ (t : SeatOf). t.book) c.seat.view_is) gave
