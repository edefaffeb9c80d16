use Rattle.std.proofs.Common.{rules, ◌≡◌, ap, refl, ◌∙◌}
use Rattle.std.proofs.lemmas.Result.{IfOk-weaker}
use Rattle.s66_model.specs.{Back, Returned, NotOut, SeatRecord, after_event}
use Rattle.s66_ledger.specs.{account_summary}
use Rattle.s66_share.specs.{book}
use Rattle.s66_pool.specs.{SeatOf}
use Rattle.s66_pool.proofs.SeatEvents.{number_within, follows-at, gave-book}
use Rattle.s66_pool.proofs.AfterCalls.{seat-keeps, seat-same, same-call, quiet-call, back-call, weaker-err}
use Rattle.s66_pool.proofs.hub.Hub.back.Goals as goal

pub back-returned-requires : goal.back-returned-requires
back-returned-requires g c =
    number_within c.take-ledger.result.value c.deref_mut.result.now c.deref_mut.ensures.value (book c.seat.inside.token) c.seat.inside.number c.take-ledger.ensures.agrees c.seat.invariant.1

pub give-requires-clause-follows : goal.give-requires-clause-follows
give-requires-clause-follows g c =
    let p = book c.seat.inside.token in
    let keeps = back-call c.take-ledger.result.value c.deref_mut.result.now c.back-returned.new.self c.deref_mut.ensures.value p c.seat.inside.number c.seat.invariant.1 c.take-ledger.ensures.agrees
    c.back-returned.result c.args.ticket.node c.back-returned.ensures.ok c.back-returned.ensures.not_out c.back-returned.ensures.no_memory in
    follows-at c.take-ledger.new.token.me (account_summary c.take-ledger.result.value) p c.take-ledger.ensures.holding (account_summary c.back-returned.new.self) keeps.0

pub invariant_of-seat : goal.invariant_of-seat
invariant_of-seat g c =
    let p = book c.seat.inside.token in
    let keeps = back-call c.take-ledger.result.value c.deref_mut.result.now c.back-returned.new.self c.deref_mut.ensures.value p c.seat.inside.number c.seat.invariant.1 c.take-ledger.ensures.agrees
    c.back-returned.result c.args.ticket.node c.back-returned.ensures.ok c.back-returned.ensures.not_out c.back-returned.ensures.no_memory in
    seat-keeps c.take-ledger.new.token.me (account_summary c.take-ledger.result.value) p c.take-ledger.ensures.holding (account_summary c.back-returned.new.self) c.give.new.token.me c.give.ensures.resting c.seat.inside.number c.seat.inside.splits c.seat.invariant.1 (keeps.1 ∙ c.seat.invariant.2)

pub returns : goal.returns
returns g c =
    let p = book c.seat.inside.token in
    let at : p ≡ c.args.seat.now.book = ap (λ (s : SeatOf). s.book) c.seat.view_is in
    let gave = gave-book c.take-ledger.new.token.me (account_summary c.take-ledger.result.value) p c.take-ledger.ensures.holding (account_summary c.back-returned.new.self) c.give.new.token.me c.give.ensures.resting in
    record {
      here = search rules;
      ok =
          IfOk-weaker c.back-returned.result _ _
          (λ x h. gave ∙ (quiet-call c.take-ledger.result.value c.deref_mut.result.now c.back-returned.new.self c.deref_mut.ensures.value p c.seat.inside.number c.seat.invariant.1 c.take-ledger.ensures.agrees (λ w. Back w c.args.ticket.node) Returned refl refl h).1
          ∙ ap (λ (q : SeatRecord). after_event q (Back q.who c.args.ticket.node) Returned) at)
          c.back-returned.ensures.ok;
      not_out =
          weaker-err c.back-returned.result _ _
          (λ x h out. gave ∙ (quiet-call c.take-ledger.result.value c.deref_mut.result.now c.back-returned.new.self c.deref_mut.ensures.value p c.seat.inside.number c.seat.invariant.1 c.take-ledger.ensures.agrees (λ w. Back w c.args.ticket.node) NotOut refl refl (h out)).1
          ∙ ap (λ (q : SeatRecord). after_event q (Back q.who c.args.ticket.node) NotOut) at)
          c.back-returned.ensures.not_out;
      no_memory =
          weaker-err c.back-returned.result _ _
          (λ x h none. seat-same c.args.seat.now c.seat.inside.token.table_id c.give.new.token.table_id p (book c.give.new.token) c.seat.view_is (c.give.ensures.here ∙ c.take-ledger.ensures.here)
          (gave ∙ (same-call c.take-ledger.result.value c.deref_mut.result.now c.back-returned.new.self c.deref_mut.ensures.value p c.seat.inside.number c.seat.invariant.1 c.take-ledger.ensures.agrees (h none)).1))
          c.back-returned.ensures.no_memory;
      handed_back = search rules;
    }
