use Rattle.std.proofs.Common.{◌≡◌, ◌+◌, ap, ◌∙◌, arith}
use Rattle.s66_isa.specs.{weigh}
use Rattle.s66_ledger.specs.{LedgerOf, account_summary}
use Rattle.s66_share.specs.{book, renewed}
use Rattle.s66_pool.specs.{SeatOf}
use Rattle.s66_pool.proofs.SeatEvents.{number_within, renewed-agrees, follows-at, gave-book}
use Rattle.s66_pool.proofs.AfterCalls.{seat-keeps, grafted, graft-refused, keeps-within}
use Rattle.s66_pool.proofs.Supplied.{graft-keeps, has-grafted-and-supply}
use Rattle.s66_pool.proofs.hub.Hub.graft_and_supply.Goals as goal

pub graft-requires : goal.graft-requires
graft-requires g c =
    number_within c.take-ledger.result.value c.deref_mut.result.now c.deref_mut.ensures.value (book c.seat.inside.token) c.seat.inside.number c.take-ledger.ensures.agrees c.seat.invariant.1

-- REFUSED

pub give-requires-clause-follows : goal.give-requires-clause-follows
give-requires-clause-follows g c =
    let p = book c.seat.inside.token in
    let call = graft-refused c.take-ledger.result.value c.deref_mut.result.now c.graft.new.self c.deref_mut.ensures.value p c.seat.inside.number c.seat.invariant.1 c.take-ledger.ensures.agrees
    c.args.node c.args.piece.now c.in-Err.why c.in-Err.ensures.refused in
    follows-at c.take-ledger.new.token.me (account_summary c.take-ledger.result.value) p c.take-ledger.ensures.holding (account_summary c.graft.new.self) call.0.0

pub invariant_of-seat : goal.invariant_of-seat
invariant_of-seat g c =
    let p = book c.seat.inside.token in
    let call = graft-refused c.take-ledger.result.value c.deref_mut.result.now c.graft.new.self c.deref_mut.ensures.value p c.seat.inside.number c.seat.invariant.1 c.take-ledger.ensures.agrees
    c.args.node c.args.piece.now c.in-Err.why c.in-Err.ensures.refused in
    seat-keeps c.take-ledger.new.token.me (account_summary c.take-ledger.result.value) p c.take-ledger.ensures.holding (account_summary c.graft.new.self) c.give.new.token.me c.give.ensures.resting c.seat.inside.number
    c.seat.inside.splits c.seat.invariant.1 (call.0.1 ∙ c.seat.invariant.2)

pub returns-in-Err-clause-refused : goal.returns-in-Err-clause-refused
returns-in-Err-clause-refused g c =
    let p = book c.seat.inside.token in
    let now : SeatOf = record { hub = c.give.new.token.table_id; book = book c.give.new.token } in
    let gave = gave-book c.take-ledger.new.token.me (account_summary c.take-ledger.result.value) p c.take-ledger.ensures.holding (account_summary c.graft.new.self) c.give.new.token.me c.give.ensures.resting in
    (graft-refused c.take-ledger.result.value c.deref_mut.result.now c.graft.new.self c.deref_mut.ensures.value p c.seat.inside.number c.seat.invariant.1 c.take-ledger.ensures.agrees
    c.args.node c.args.piece.now c.in-Err.why c.in-Err.ensures.refused).1
    c.args.seat.now now (ap (λ (t : SeatOf). t.book) c.seat.view_is) gave (c.give.ensures.here ∙ c.take-ledger.ensures.here ∙ ap (λ (t : SeatOf). t.hub) c.seat.view_is)

-- TAKEN

pub overflow_add-seat : goal.overflow_add-seat
overflow_add-seat g c =
    let p = book c.seat.inside.token in
    let call = grafted c.take-ledger.result.value c.deref_mut.result.now c.graft.new.self c.deref_mut.ensures.value p c.seat.inside.number c.seat.invariant.1 c.take-ledger.ensures.agrees
    c.args.node c.args.piece.now c.in_default.ensures.ok in
    let now : c.deref-2.result.now ≡ c.graft.new.self = c.deref-2.ensures in
    omega (
      arith,
      keeps-within c.take-ledger.result.value c.graft.new.self p _ c.take-ledger.ensures.agrees call.0,
      c.splits-spent.ensures.accounts,
      c.splits-spent.ensures.value,
      ap (λ (l : LedgerOf). weigh (λ a. a.splits) (account_summary l).accounts) now,
      c.seat.invariant.2,
      c.splits-added.ensures,
    )

pub serve-got-requires-clause-worker : goal.serve-got-requires-clause-worker
serve-got-requires-clause-worker g c =
    let p = book c.seat.inside.token in
    let call = grafted c.take-ledger.result.value c.deref_mut.result.now c.graft.new.self c.deref_mut.ensures.value p c.seat.inside.number c.seat.invariant.1 c.take-ledger.ensures.agrees
    c.args.node c.args.piece.now c.in_default.ensures.ok in
    number_within c.graft.new.self c.deref_mut-2.result.now c.deref_mut-2.ensures.value (renewed (account_summary c.graft.new.self) p p.least) c.seat.inside.number (renewed-agrees (account_summary c.take-ledger.result.value) (account_summary c.graft.new.self) p c.take-ledger.ensures.agrees call.0.0) c.seat.invariant.1

pub give-requires-2-clause-follows : goal.give-requires-2-clause-follows
give-requires-2-clause-follows g c =
    let p = book c.seat.inside.token in
    let keeps = graft-keeps c.take-ledger.result.value p c.take-ledger.ensures.agrees c.deref_mut.result.now c.graft.new.self c.deref_mut.ensures.value c.seat.inside.number c.seat.invariant.1
    c.args.node c.args.piece.now c.in_default.ensures.ok c.deref_mut-2.result.now c.serve-got.new.ledger c.deref_mut-2.ensures.value c.serve-got.result c.serve-got.new.tickets.items c.serve-got.ensures.events in
    follows-at c.take-ledger.new.token.me (account_summary c.take-ledger.result.value) p c.take-ledger.ensures.holding (account_summary c.serve-got.new.ledger) keeps.0

pub invariant_of-seat-2 : goal.invariant_of-seat-2
invariant_of-seat-2 g c =
    let p = book c.seat.inside.token in
    let keeps = graft-keeps c.take-ledger.result.value p c.take-ledger.ensures.agrees c.deref_mut.result.now c.graft.new.self c.deref_mut.ensures.value c.seat.inside.number c.seat.invariant.1
    c.args.node c.args.piece.now c.in_default.ensures.ok c.deref_mut-2.result.now c.serve-got.new.ledger c.deref_mut-2.ensures.value c.serve-got.result c.serve-got.new.tickets.items c.serve-got.ensures.events in
    seat-keeps c.take-ledger.new.token.me (account_summary c.take-ledger.result.value) p c.take-ledger.ensures.holding (account_summary c.serve-got.new.ledger) c.give-2.new.token.me c.give-2.ensures.resting c.seat.inside.number
    (c.seat.inside.splits + c.splits-added.result) c.seat.invariant.1 (omega (arith, keeps.1, c.seat.invariant.2, c.splits-added.ensures))

pub returns-clause-ok : goal.returns-clause-ok
returns-clause-ok g c =
    let p = book c.seat.inside.token in
    let now : SeatOf = record { hub = c.give-2.new.token.table_id; book = book c.give-2.new.token } in
    let gave = gave-book c.take-ledger.new.token.me (account_summary c.take-ledger.result.value) p c.take-ledger.ensures.holding (account_summary c.serve-got.new.ledger) c.give-2.new.token.me c.give-2.ensures.resting in
    has-grafted-and-supply c.take-ledger.result.value p c.take-ledger.ensures.agrees c.deref_mut.result.now c.graft.new.self c.deref_mut.ensures.value c.seat.inside.number c.seat.invariant.1
    c.args.node c.args.piece.now c.in_default.ensures.ok c.deref_mut-2.result.now c.serve-got.new.ledger c.deref_mut-2.ensures.value c.serve-got.result c.serve-got.new.tickets.items c.serve-got.ensures.events
    c.args.seat.now now (ap (λ (t : SeatOf). t.book) c.seat.view_is) gave
