-- What a call of the ledger makes of its summary, and of the seat record of the worker who called.
use Rattle.std.proofs.Common.{◌≡◌, ℕ, ◌≤◌, Bool, List, [], ◌∷◌, ◌++◌, Option, None, sym, refl, ap, ◌∙◌, subst, arith}
use Rattle.atomic_table.specs.Table.{Me}
use Rattle.s66_model.specs.{Problem, Event, Reply, Offer, Lower, NotLower, worker, best_time, Summary, SeatRecord, Agrees, summary_of, opened, after_event, least_after}
use Rattle.s66_model.proofs.AccountLaws.{agrees-own, agrees-other, accounts-count}
use Rattle.s66_model.proofs.LedgerRuns.{step-falls}
use Rattle.s66_ledger.specs.{LedgerOf, IsEvent, events_of, account_summary}
use Rattle.s66_share.specs.{View, MayBecome, renewed, idle, holding, first_book, found_at}

-- a ledger has the worker as it was found
pub number_within : (l found : LedgerOf) → found ≡ l → (p : SeatRecord) (number : ℕ) → Agrees (account_summary l) p → p.who ≡ number → (1 ≤ number) × (number ≤ found.workers)
number_within l found at p number is who =
    let count = accounts-count l.rule l.problem l.budget l.workers (events_of l) l.state in
    (omega (arith, is.worker.0, who), omega (arith, is.worker.1, who, count, ap (λ (k : LedgerOf). k.workers) at))

pub follows-itself : (w : ℕ) (s : Summary) → MayBecome w s s
follows-itself w s = record { search = record { rule = refl; problem = refl; budget = refl; workers = refl; best = omega arith }; others = λ p ne is. is }

pub follows-on : (w : ℕ) (s t u : Summary) → MayBecome w s t → MayBecome w t u → MayBecome w s u
follows-on w s t u f g = record {
  search = record { rule = g.search.rule ∙ f.search.rule; problem = g.search.problem ∙ f.search.problem; budget = g.search.budget ∙ f.search.budget; workers = g.search.workers ∙ f.search.workers; best = omega (arith, f.search.best, g.search.best) };
  others = λ p ne is. g.others p ne (f.others p ne is);
}

-- a call leaves a worker's seat record that agrees, if it is opened anew
pub renewed-agrees : (s t : Summary) (p : SeatRecord) → Agrees s p → MayBecome p.who s t → Agrees t (renewed t p p.least)
renewed-agrees s t p is follows = record {
  worker = (is.worker.0, omega (arith, is.worker.1, follows.search.workers));
  rule = refl;
  problem = refl;
  budget = refl;
  account = refl;
  least = omega (arith, is.least, follows.search.best);
}

-- the seat record that agrees is the one that is opened, but for its least time
pub renewed-is : (s : Summary) (p : SeatRecord) → Agrees s p → renewed s p p.least ≡ p
renewed-is s p is = λ i. record { who = p.who; rule = sym is.rule i; problem = sym is.problem i; budget = sym is.budget i; account = sym is.account i; least = p.least }

module _ (old new : LedgerOf) (p : SeatRecord) where
  -- THE LEDGER IS AS IT WAS

  pub same-follows : new ≡ old → MayBecome p.who (account_summary old) (account_summary new)
  same-follows same = subst (λ (l : LedgerOf). MayBecome p.who (account_summary old) (account_summary l)) (sym same) (follows-itself p.who (account_summary old))

  pub same-book : new ≡ old → Agrees (account_summary old) p → renewed (account_summary new) p p.least ≡ p
  same-book same is = ap (λ (l : LedgerOf). renewed (account_summary l) p p.least) same ∙ renewed-is (account_summary old) p is

  -- OR IT HAS AN EVENT OF THE WORKER

  module _ (event : Event) (reply : Reply) (h : IsEvent old event reply new) where
    summary-after : account_summary new ≡ summary_of old.rule old.problem old.budget old.workers (events_of old ++ (event, reply) ∷ []) new.state
    summary-after = λ i. summary_of (h.5 i) (h.0 i) (h.1 i) (h.2 i) (h.4 i) new.state

    module _ (own : worker event ≡ p.who) where
      pub event-follows : MayBecome p.who (account_summary old) (account_summary new)
      event-follows =
          let before = accounts-count old.rule old.problem old.budget old.workers (events_of old) old.state in
          let now = accounts-count new.rule new.problem new.budget new.workers (events_of new) new.state in
          record {
            search = record {
              rule = h.5;
              problem = h.0;
              budget = h.1;
              workers = omega (arith, before, now, h.2);
              best = omega (arith, step-falls old.rule old.problem old.state new.state event reply h.3, ap (λ (b : Problem). best_time b new.state) h.0);
            };
            others = λ q ne is. subst (λ (s : Summary). Agrees s q) (sym summary-after)
                (agrees-other old.rule old.problem old.budget old.workers (events_of old) old.state event reply new.state q h.3 is (λ e. ne (sym e ∙ own)));
          }

      pub event-agrees : Agrees (account_summary old) p → Agrees (account_summary new) (after_event p event reply)
      event-agrees is = subst (λ (s : Summary). Agrees s (after_event p event reply)) (sym summary-after)
          (agrees-own old.rule old.problem old.budget old.workers (events_of old) old.state event reply new.state p h.3 is own)

      -- which gives no time
      pub quiet-book : Agrees (account_summary old) p → least_after p.least event reply ≡ p.least → renewed (account_summary new) p p.least ≡ after_event p event reply
      quiet-book is quiet =
          ap (λ (n : ℕ). renewed (account_summary new) p n) (sym quiet) ∙ renewed-is (account_summary new) (after_event p event reply) (event-agrees is)

      -- or the best
      pub stated-book : Agrees (account_summary old) p → (account_summary new).best ≡ least_after p.least event reply → opened (account_summary new) p.who ≡ after_event p event reply
      stated-book is stated =
          ap (λ (n : ℕ). renewed (account_summary new) p n) stated ∙ renewed-is (account_summary new) (after_event p event reply) (event-agrees is)

  -- an offer that is lower is the best time
  pub lower-stated : (w : ℕ) (own : Bool) (order : List ℕ) (time : ℕ) → IsEvent old (Offer w own order time) Lower new → Agrees (account_summary old) p
      → (account_summary new).best ≡ least_after p.least (Offer w own order time) Lower
  lower-stated w own order time h is =
      let m = h.3.1 in
      omega (arith, ap (λ (b : Problem). best_time b new.state) h.0, ap (best_time old.problem) m.2, m.0.2, m.1, is.least)

  -- one that isn't is answered the best time
  pub answer-stated : (w : ℕ) (own : Bool) (order : List ℕ) (time answer : ℕ) → IsEvent old (Offer w own order time) (NotLower answer) new → Agrees (account_summary old) p
      → ((account_summary new).best ≡ least_after p.least (Offer w own order time) (NotLower answer)) × (answer ≤ p.least)
  answer-stated w own order time answer h is =
      let m = h.3.1 in (
        omega (arith, ap (λ (b : Problem). best_time b new.state) h.0, ap (best_time old.problem) m.3, m.1, m.2, is.least),
        omega (arith, m.2, is.least),
      )

-- THE TOKEN

module _ {X : Type 0} (m : Me (Option X) View) (y : Summary) (p : SeatRecord) (held : m ≡ (holding y (p ∷ []), (0, None) ∷ [])) where
  pub follows-at : (z : Summary) → MayBecome p.who y z → MayBecome (first_book m.0.books).who (found_at m.0.stage) z
  follows-at z h = subst (λ (k : Me (Option X) View). MayBecome (first_book k.0.books).who (found_at k.0.stage) z) (sym held) h

  pub gave-book : (z : Summary) (n : Me (Option X) View) → n ≡ (idle (renewed z (first_book m.0.books) (first_book m.0.books).least ∷ []), []) → first_book n.0.books ≡ renewed z p p.least
  gave-book z n rests = ap (λ (k : Me (Option X) View). first_book k.0.books) rests ∙ ap (λ (k : Me (Option X) View). renewed z (first_book k.0.books) (first_book k.0.books).least) held

  pub gave-opened : (z : Summary) (n : Me (Option X) View) → n ≡ (idle (opened z (first_book m.0.books).who ∷ []), []) → first_book n.0.books ≡ opened z p.who
  gave-opened z n rests = ap (λ (k : Me (Option X) View). first_book k.0.books) rests ∙ ap (λ (k : Me (Option X) View). opened z (first_book k.0.books).who) held
