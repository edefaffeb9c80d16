use Rattle.std.proofs.Common.{◌≡◌, ℕ, ◌+◌, ◌-◌, ◌++◌, List, [], All, Box, Global, get_or, map, length, ap, sym, subst, ◌∙◌, arith}
use Rattle.std.proofs.lemmas.Grind.{get_or_default_zero}
use Rattle.std.proofs.lemmas.List.Elements.{All-nil}
use Rattle.atomic_table.specs.Seated.{TableId}
use Rattle.s66_isa.specs.{rising}
use Rattle.s66_model.specs.{Summary, SeatRecord, opened, account_at}
use Rattle.s66_ledger.specs.{LedgerOf, account_summary}
use Rattle.s66_share.specs.{all_opened}
use Rattle.s66_share.proofs.Dealt.{idles}
use Rattle.s66_pool.specs.{SeatOf}
use Rattle.s66_pool.proofs.Dealing.{account-count, books_from, seats_of, some-left, first-left, rest-left, dealt, all-dealt, all-here, seats-opened}
use Rattle.s66_pool.proofs.hub.Hub.new.Goals as goal

pub found-requires : goal.found-requires
found-requires c =
    let same : c.in-Ok.value.value ≡ c.args.ledger = c.in-Ok.ensures.ok in
    omega (arith, account-count c.in-Ok.value.value, ap (λ (l : LedgerOf). l.workers) same, c.requires)

pub loop-i-init : goal.loop-i-init
loop-i-init c =
    let z : TableId = c.in_ok-lock.lock.table.shared.table_id in
    let s : Summary = account_summary c.in_ok-lock.lock.table.shared.key.value in
    let key : c.in_ok-lock.lock.table.shared.key.value ≡ c.in-Ok.value.value = ap (λ (b : Box LedgerOf Global). b.value) c.in_ok-lock.ensures.key in
    let books : c.in_ok-lock.founder.me.0.books ≡ all_opened s = ap (λ m. m.0.books) c.in_ok-lock.ensures.books ∙ ap (λ (l : LedgerOf). all_opened (account_summary l)) (sym key) in
    let count : length s.accounts ≡ c.workers-workers.result - 0 =
    omega (arith, account-count c.in_ok-lock.lock.table.shared.key.value, ap (λ (l : LedgerOf). l.workers) (key ∙ c.in-Ok.ensures.ok), c.workers-workers.ensures) in
    let none : c.in_ok-seats.seats.items ≡ [] = c.in_ok-seats.ensures.items in
    record {
      here = c.in_ok-lock.ensures.here;
      idles = idles _ _ c.in_ok-lock.ensures.books;
      room = (c.in_ok-seats.ensures.len, c.in_ok-seats.ensures.exact);
      left = books ∙ ap (λ (k : ℕ). books_from s k 1) count;
      dealt = ap (λ (l : List SeatOf). l ++ seats_of z c.in_ok-lock.founder.me.0.books) none ∙ ap (seats_of z) books;
      all = subst (λ (l : List SeatOf). All (λ t. t.hub ≡ z) l) (sym none) (All-nil (λ t. t.hub ≡ z));
    }

pub deal-token-requires-clause-some_book : goal.deal-token-requires-clause-some_book
deal-token-requires-clause-some_book c =
    some-left (account_summary c.in_ok-lock.lock.table.shared.key.value) c.workers-workers.result c.loop-i.i c.loop-i.founder.me.0.books c.loop-i-test.true c.loop-i.invariant.left

pub new-requires-in-loop-i-clause-number : goal.new-requires-in-loop-i-clause-number
new-requires-in-loop-i-clause-number c =
    ap (λ p. p.who) (c.deal-token.ensures.dealt.1 ∙ first-left (account_summary c.in_ok-lock.lock.table.shared.key.value) c.workers-workers.result c.loop-i.i c.loop-i.founder.me.0.books c.loop-i-test.true c.loop-i.invariant.left)

pub new-requires-in-loop-i-clause-splits : goal.new-requires-in-loop-i-clause-splits
new-requires-in-loop-i-clause-splits c =
    let i = c.loop-i.i in
    let l : LedgerOf = c.in_ok-lock.lock.table.shared.key.value in
    let key : l ≡ c.args.ledger = ap (λ (b : Box LedgerOf Global). b.value) c.in_ok-lock.ensures.key ∙ c.in-Ok.ensures.ok in
    let first = c.deal-token.ensures.dealt.1 ∙ first-left (account_summary l) c.workers-workers.result i c.loop-i.founder.me.0.books c.loop-i-test.true c.loop-i.invariant.left in
    let splits = c.in_ok-splits.ensures in
    let place : i + 1 - 1 ≡ i = omega arith in
    omega (
      arith,
      ap (λ (p : SeatRecord). p.account.splits) first,
      ap (λ (m : LedgerOf). (account_at (account_summary m) (i + 1)).splits) key,
      splits.1 (i + 1) (omega arith) (omega (arith, c.loop-i-test.true, c.workers-workers.ensures)),
      ap (λ (k : ℕ). get_or c.in_ok-splits.splits.items k 0) place,
      get_or_default_zero c.in_ok-splits.splits.items i c.index.result.now (omega (arith, splits.0, c.loop-i-test.true, c.workers-workers.ensures)),
      c.index.ensures,
    )

pub loop-i-preserved : goal.loop-i-preserved
loop-i-preserved c =
    let i = c.loop-i.i in
    let z : TableId = c.in_ok-lock.lock.table.shared.table_id in
    let s : Summary = account_summary c.in_ok-lock.lock.table.shared.key.value in
    let ps : List SeatRecord = c.loop-i.founder.me.0.books in
    let was = c.loop-i.invariant in
    let deal = c.deal-token.ensures in
    let id : c.deal-token.result.table_id ≡ z = deal.here.1 ∙ was.here in
    let rest = ap (λ m. m.0.books) deal.rest in
    record {
      here = deal.here.0 ∙ was.here;
      idles = idles _ _ deal.rest;
      room = (omega arith, omega arith);
      left = rest ∙ rest-left s c.workers-workers.result i ps c.loop-i-test.true was.left;
      dealt = dealt s c.workers-workers.result i ps c.loop-i-test.true was.left z _ _ c.new-in-loop-i.result _ _ c.push_reserved.ensures.items (c.new-in-loop-i.ensures ∙ (λ j. record { hub = id j; book = deal.dealt.1 j })) rest was.dealt;
      all = all-here z _ _ c.new-in-loop-i.result c.push_reserved.ensures.items (ap (λ (t : SeatOf). t.hub) c.new-in-loop-i.ensures ∙ id) was.all;
    }

pub invariant_of-result : goal.invariant_of-result
invariant_of-result c =
    let l : LedgerOf = c.in_ok-lock.lock.table.shared.key.value in
    let key : l ≡ c.args.ledger = ap (λ (b : Box LedgerOf Global). b.value) c.in_ok-lock.ensures.key ∙ c.in-Ok.ensures.ok in
    let workers = ap (λ (m : LedgerOf). m.workers) key in
    (omega (arith, c.requires, c.workers-workers.ensures), omega (arith, account-count l, workers, c.workers-workers.ensures))

pub returns-clause-seats : goal.returns-clause-seats
returns-clause-seats c =
    let z : TableId = c.in_ok-lock.lock.table.shared.table_id in
    let l : LedgerOf = c.in_ok-lock.lock.table.shared.key.value in
    let s : Summary = account_summary l in
    let key : l ≡ c.args.ledger = ap (λ (b : Box LedgerOf Global). b.value) c.in_ok-lock.ensures.key ∙ c.in-Ok.ensures.ok in
    let count : length s.accounts ≡ c.args.ledger.workers = account-count l ∙ ap (λ (m : LedgerOf). m.workers) key in
    all-dealt s z c.workers-workers.result c.loop-i.i c.loop-i.founder.me.0.books c.loop-i.seats.items _ c.loop-i-test.false c.loop-i.invariant.left c.loop-i.invariant.dealt
    ∙ seats-opened z s (rising (length s.accounts) 1) ∙ ap (λ (k : ℕ). map (λ w. record { hub = z; book = opened s w }) (rising k 1)) count
