use Rattle.std.proofs.Common.{◌≡◌, ℕ, ◌≤◌, All, length, List, [], ◌∷◌, ◌++◌, Some, sym, ap, ◌∙◌, subst, arith, append-nil}
use Rattle.std.proofs.lemmas.List.Elements.{All-pop}
use Rattle.atomic_table.specs.Table.{Me}
use Rattle.s66_model.specs.{SeatRecord, Agrees}
use Rattle.s66_model.proofs.AccountLaws.{accounts-count}
use Rattle.s66_ledger.specs.{LedgerOf, events_of, account_summary}
use Rattle.s66_share.specs.{books_of, HaveEvery}
use Rattle.s66_share.proofs.Dealt.{idles}
use Rattle.s66_pool.specs.{SeatOf, HaveSeats}
use Rattle.s66_pool.proofs.Collecting.{books_in, collects, none-left, have-every, seats-agree, seats-splits}
use Rattle.s66_pool.proofs.hub.Hub.close.Goals as goal

pub loop-seat-init : goal.loop-seat-init
loop-seat-init c =
    let P : SeatOf → Type 0 = λ s. s.hub ≡ c.self.inside.lock.table.shared.table_id in
    let all : All P c.args.seats.items = λ k d lt. c.requires k d lt ∙ sym (ap (λ h. h.id) c.self.view_is) in
    let cut = All-pop P c.args.seats.items c.pop.new.self.items (Some c.in-Some.last) c.in-Some.ensures.items all in
    record {
      here = c.into_token-all.ensures.here ∙ cut.1;
      idles = idles c.into_token-all.result.me (c.in-Some.last.book ∷ []) c.into_token-all.ensures.resting;
      collected =
          collects c.args.seats.items c.pop.new.self.items c.in-Some.last [] c.into_token-all.result.me.0.books (books_in c.args.seats.items) c.in-Some.ensures.items
          (ap (λ m. m.0.books) c.into_token-all.ensures.resting) (append-nil (books_in c.args.seats.items));
      seats = cut.0;
    }

pub join-requires-clause-here : goal.join-requires-clause-here
join-requires-clause-here c =
    let P : SeatOf → Type 0 = λ s. s.hub ≡ c.self.inside.lock.table.shared.table_id in
    let cut = All-pop P c.loop-seat.seats.items c.pop-in-loop-seat.new.self.items (Some c.in-Some-pop.seat) c.in-Some-pop.ensures.items c.loop-seat.invariant.seats in
    (c.loop-seat.invariant.here, c.into_token.ensures.here ∙ cut.1)

pub loop-seat-preserved : goal.loop-seat-preserved
loop-seat-preserved c =
    let P : SeatOf → Type 0 = λ s. s.hub ≡ c.self.inside.lock.table.shared.table_id in
    let cut = All-pop P c.loop-seat.seats.items c.pop-in-loop-seat.new.self.items (Some c.in-Some-pop.seat) c.in-Some-pop.ensures.items c.loop-seat.invariant.seats in
    let old = c.loop-seat.all.me.0.books in
    record {
      here = c.join.ensures.here ∙ c.loop-seat.invariant.here;
      idles = idles c.join.new.all.me (c.into_token.result.me.0.books ++ old) c.join.ensures.books;
      collected =
          collects c.loop-seat.seats.items c.pop-in-loop-seat.new.self.items c.in-Some-pop.seat old c.join.new.all.me.0.books (books_in c.args.seats.items) c.in-Some-pop.ensures.items
          (ap (λ m. m.0.books) c.join.ensures.books ∙ ap (λ (m : Me _ _). m.0.books ++ old) c.into_token.ensures.resting) c.loop-seat.invariant.collected;
      seats = cut.0;
    }

pub close-requires-clause-every : goal.close-requires-clause-every
close-requires-clause-every c =
    let empty : length c.loop-seat.seats.items ≡ 0 = let n = c.in_default-pop.ensures.cases.0 in omega (arith, c.loop-seat.seats.ok) in
    let back = none-left c.loop-seat.seats.items c.loop-seat.all.me.0.books (books_in c.args.seats.items) empty c.loop-seat.invariant.collected in
    let have : HaveSeats c.self.inside.workers c.args.seats.items =
    subst (λ (l : List SeatOf). HaveSeats c.self.inside.workers l) c.as_slice.ensures.value (c.have_seats.ensures.0 c.if-not-have_seats.false) in
    let every = have-every c.self.inside.workers c.args.seats.items have in
    λ w low high. subst (λ (ps : List SeatRecord). HaveEvery c.self.inside.workers ps) (sym back) every w low (omega (arith, high, c.self.invariant.1))

pub returns-clause-workers : goal.returns-clause-workers
returns-clause-workers c =
    let l = c.into_inner-ledger.result in
    sym (accounts-count l.rule l.problem l.budget l.workers (events_of l) l.state) ∙ ap (λ (k : LedgerOf). length (account_summary k).accounts) c.into_inner-ledger.ensures
    ∙ c.close.ensures.search.workers ∙ ap (λ h. length h.summary.accounts) c.self.view_is

pub returns-clause-best : goal.returns-clause-best
returns-clause-best c =
    omega (arith, c.close.ensures.search.best, ap (λ (k : LedgerOf). (account_summary k).best) c.into_inner-ledger.ensures, ap (λ h. h.summary.best) c.self.view_is)

pub returns-clause-agrees : goal.returns-clause-agrees
returns-clause-agrees c =
    let empty : length c.loop-seat.seats.items ≡ 0 = let n = c.in_default-pop.ensures.cases.0 in omega (arith, c.loop-seat.seats.ok) in
    let back = none-left c.loop-seat.seats.items c.loop-seat.all.me.0.books (books_in c.args.seats.items) empty c.loop-seat.invariant.collected in
    let agree : All (Agrees (account_summary c.into_inner-ledger.result)) (books_in c.args.seats.items) =
    subst (λ (k : LedgerOf). All (Agrees (account_summary k)) (books_in c.args.seats.items)) (sym c.into_inner-ledger.ensures)
    (subst (λ (ps : List SeatRecord). All (Agrees (account_summary c.close.result.value)) ps) back c.close.ensures.agrees) in
    seats-agree (account_summary c.into_inner-ledger.result) c.args.seats.items agree

pub returns-clause-splits : goal.returns-clause-splits
returns-clause-splits c =
    let s = account_summary c.into_inner-ledger.result in
    let seats = c.args.seats.items in
    let empty : length c.loop-seat.seats.items ≡ 0 = let n = c.in_default-pop.ensures.cases.0 in omega (arith, c.loop-seat.seats.ok) in
    let back = none-left c.loop-seat.seats.items c.loop-seat.all.me.0.books (books_in seats) empty c.loop-seat.invariant.collected in
    let agree : All (Agrees s) (books_in seats) =
    subst (λ (k : LedgerOf). All (Agrees (account_summary k)) (books_in seats)) (sym c.into_inner-ledger.ensures)
    (subst (λ (ps : List SeatRecord). All (Agrees (account_summary c.close.result.value)) ps) back c.close.ensures.agrees) in
    let have : HaveSeats c.self.inside.workers seats =
    subst (λ (l : List SeatOf). HaveSeats c.self.inside.workers l) c.as_slice.ensures.value (c.have_seats.ensures.0 c.if-not-have_seats.false) in
    let workers : length s.accounts ≡ c.self.inside.workers =
    ap (λ (k : LedgerOf). length (account_summary k).accounts) c.into_inner-ledger.ensures ∙ c.close.ensures.search.workers ∙ c.self.invariant.1 in
    let every = subst (λ (n : ℕ). HaveEvery n (books_in seats)) (sym workers) (have-every c.self.inside.workers seats have) in
    let once = subst (λ (ps : List SeatRecord). (w : ℕ) → books_of w ps ≤ 1) back c.close.ensures.once in
    seats-splits s seats agree every once ∙ c.splits-spent.ensures.accounts
