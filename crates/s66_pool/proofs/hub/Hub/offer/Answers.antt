use Rattle.std.proofs.Common.{rules, ◌≡◌, ap, ◌∙◌}
use Rattle.s66_ledger.specs.{account_summary}
use Rattle.s66_share.specs.{book}
use Rattle.s66_pool.specs.{SeatOf}
use Rattle.s66_pool.proofs.SeatEvents.{number_within, follows-at, gave-book, gave-opened}
use Rattle.s66_pool.proofs.AfterCalls.{seat-keeps, seat-reads, seat-same, same-call, other-keeps, other-offered, stated-follows, stated-splits, stated-offered, stated-known}
use Rattle.s66_pool.proofs.hub.Hub.offer.Goals as goal

pub offer-requires : goal.offer-requires
offer-requires g c =
    number_within c.take-ledger.result.value c.deref_mut.result.now c.deref_mut.ensures.value (book c.seat.inside.token) c.seat.inside.number c.take-ledger.ensures.agrees c.seat.invariant.1

pub invariant_of-seat : goal.invariant_of-seat
invariant_of-seat g c =
    let p = book c.seat.inside.token in
    let call = same-call c.take-ledger.result.value c.deref_mut.result.now c.offer.new.self c.deref_mut.ensures.value p c.seat.inside.number c.seat.invariant.1 c.take-ledger.ensures.agrees c.in_default.ensures.err in
    seat-keeps c.take-ledger.new.token.me (account_summary c.take-ledger.result.value) p c.take-ledger.ensures.holding (account_summary c.offer.new.self) c.give.new.token.me c.give.ensures.resting c.seat.inside.number
    c.seat.inside.splits c.seat.invariant.1 (call.0.1 ∙ c.seat.invariant.2)

pub returns-in_default-clause-err : goal.returns-in_default-clause-err
returns-in_default-clause-err g c =
    let p = book c.seat.inside.token in
    let gave = gave-book c.take-ledger.new.token.me (account_summary c.take-ledger.result.value) p c.take-ledger.ensures.holding (account_summary c.offer.new.self) c.give.new.token.me c.give.ensures.resting in
    seat-same c.args.seat.now c.seat.inside.token.table_id c.give.new.token.table_id p (book c.give.new.token) c.seat.view_is (c.give.ensures.here ∙ c.take-ledger.ensures.here)
    (gave ∙ (same-call c.take-ledger.result.value c.deref_mut.result.now c.offer.new.self c.deref_mut.ensures.value p c.seat.inside.number c.seat.invariant.1 c.take-ledger.ensures.agrees c.in_default.ensures.err).1)

pub give-requires-in-OtherBlock-clause-follows : goal.give-requires-in-OtherBlock-clause-follows
give-requires-in-OtherBlock-clause-follows g c =
    let p = book c.seat.inside.token in
    let keeps = other-keeps c.take-ledger.result.value c.deref_mut.result.now c.offer.new.self c.deref_mut.ensures.value p c.seat.inside.number c.seat.invariant.1 c.take-ledger.ensures.agrees c.args.timed c.in-Ok.offered c.in-OtherBlock.is c.in-Ok.ensures.ok in
    follows-at c.take-ledger.new.token.me (account_summary c.take-ledger.result.value) p c.take-ledger.ensures.holding (account_summary c.offer.new.self) keeps.0

pub invariant_of-seat-in-OtherBlock : goal.invariant_of-seat-in-OtherBlock
invariant_of-seat-in-OtherBlock g c =
    let p = book c.seat.inside.token in
    let keeps = other-keeps c.take-ledger.result.value c.deref_mut.result.now c.offer.new.self c.deref_mut.ensures.value p c.seat.inside.number c.seat.invariant.1 c.take-ledger.ensures.agrees c.args.timed c.in-Ok.offered c.in-OtherBlock.is c.in-Ok.ensures.ok in
    seat-keeps c.take-ledger.new.token.me (account_summary c.take-ledger.result.value) p c.take-ledger.ensures.holding (account_summary c.offer.new.self) c.give-in-OtherBlock.new.token.me c.give-in-OtherBlock.ensures.resting c.seat.inside.number
    c.seat.inside.splits c.seat.invariant.1 (keeps.1 ∙ c.seat.invariant.2)

pub give_read-requires : goal.give_read-requires
give_read-requires g c =
    let p = book c.seat.inside.token in
    let follows = stated-follows c.take-ledger.result.value c.deref_mut.result.now c.offer.new.self c.deref_mut.ensures.value p c.seat.inside.number c.seat.invariant.1 c.take-ledger.ensures.agrees c.args.timed c.in-Ok.offered c.in-Ok.ensures.ok in
    record {
      here = search rules;
      holding = search rules;
      agrees = search rules;
      follows = follows-at c.take-ledger.new.token.me (account_summary c.take-ledger.result.value) p c.take-ledger.ensures.holding (account_summary c.offer.new.self) follows;
    }

pub invariant_of-seat-in_default-offered : goal.invariant_of-seat-in_default-offered
invariant_of-seat-in_default-offered g c =
    let p = book c.seat.inside.token in
    let splits = stated-splits c.take-ledger.result.value c.deref_mut.result.now c.offer.new.self c.deref_mut.ensures.value p c.seat.inside.number c.seat.invariant.1 c.take-ledger.ensures.agrees c.args.timed c.in-Ok.offered c.in_default-offered.not-OtherBlock c.in-Ok.ensures.ok in
    seat-reads c.take-ledger.new.token.me (account_summary c.take-ledger.result.value) p c.take-ledger.ensures.holding (account_summary c.offer.new.self) c.give_read.new.token.me c.give_read.ensures.resting c.seat.inside.number
    c.seat.inside.splits c.seat.invariant.1 (splits ∙ c.seat.invariant.2)

pub returns-in-OtherBlock-clause-ok : goal.returns-in-OtherBlock-clause-ok
returns-in-OtherBlock-clause-ok g c =
    let p = book c.seat.inside.token in
    let now : SeatOf = record { hub = c.give-in-OtherBlock.new.token.table_id; book = book c.give-in-OtherBlock.new.token } in
    let gave = gave-book c.take-ledger.new.token.me (account_summary c.take-ledger.result.value) p c.take-ledger.ensures.holding (account_summary c.offer.new.self) c.give-in-OtherBlock.new.token.me c.give-in-OtherBlock.ensures.resting in
    other-offered c.take-ledger.result.value c.deref_mut.result.now c.offer.new.self c.deref_mut.ensures.value p c.seat.inside.number c.seat.invariant.1 c.take-ledger.ensures.agrees c.args.timed
    c.args.seat.now now c.in-Ok.offered c.in-OtherBlock.is (ap (λ (t : SeatOf). t.book) c.seat.view_is) gave c.in-Ok.ensures.ok

pub returns-in_default-offered : goal.returns-in_default-offered
returns-in_default-offered g c =
    let p = book c.seat.inside.token in
    let now : SeatOf = record { hub = c.give_read.new.token.table_id; book = book c.give_read.new.token } in
    let at : p ≡ c.args.seat.now.book = ap (λ (t : SeatOf). t.book) c.seat.view_is in
    let gave = gave-opened c.take-ledger.new.token.me (account_summary c.take-ledger.result.value) p c.take-ledger.ensures.holding (account_summary c.offer.new.self) c.give_read.new.token.me c.give_read.ensures.resting in
    record {
      here = search rules;
      ok = stated-offered c.take-ledger.result.value c.deref_mut.result.now c.offer.new.self c.deref_mut.ensures.value p c.seat.inside.number c.seat.invariant.1 c.take-ledger.ensures.agrees c.args.timed
          c.args.seat.now now c.in-Ok.offered c.in_default-offered.not-OtherBlock at gave c.in-Ok.ensures.ok;
      answer = stated-known c.take-ledger.result.value c.deref_mut.result.now c.offer.new.self c.deref_mut.ensures.value p c.seat.inside.number c.seat.invariant.1 c.take-ledger.ensures.agrees c.args.timed
          c.args.seat.now c.in-Ok.offered c.in_default-offered.not-OtherBlock at c.in-Ok.ensures.ok;
      err = tt;
    }
