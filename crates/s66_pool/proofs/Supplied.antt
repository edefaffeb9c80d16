-- What the events of a turn at the lock make of the ledger's summary, and of the seat record of the worker whose turn it is.
use Rattle.std.proofs.Common.{◌≡◌, ℕ, ◌+◌, Bool, true, false, List, [], ◌∷◌, ◌++◌, Option, Some, None, sym, refl, ap, ◌∙◌, subst, arith}
use Rattle.s66_model.specs.LedgerRuns as model
use Rattle.s66_model.specs.{Event, Reply, Claim, Claimed, worker, spends, splits, SeatRecord, Agrees, after_event, least_after, TicketOf}
use Rattle.s66_node.specs.{PieceOf, tree_of}
use Rattle.s66_ledger.specs.{LedgerOf, IsEvent, account_summary, IsGraft}
use Rattle.s66_share.specs.{MayBecome, renewed}
use Rattle.s66_pool.specs.{Supply, AreEvents, after_events, grants, claims, last_claim, supplied, SeatOf, HasSupply, HasGrafted, HasGraftedAndSupply}
use Rattle.s66_pool.proofs.SeatEvents.{event-follows, event-agrees, follows-itself, follows-on, renewed-is, renewed-agrees}
use Rattle.s66_pool.proofs.AfterCalls.{Keeps, grafted}

-- EVENTS, one after another

pub events-append : (l m n : LedgerOf) (es fs : List (Event × Reply)) → AreEvents l es m → AreEvents m fs n → AreEvents l (es ++ fs) n
events-append l m n [] fs e h = subst (λ (k : LedgerOf). AreEvents k fs n) e h
events-append l m n (x ∷ es) fs (between, first, more) h = (between, first, events-append between m n es fs more h)

-- one claim more
pub claims-append : (l m n : LedgerOf) (w : ℕ) (tickets : List TicketOf) (t : TicketOf) → AreEvents l (claims w tickets) m → IsEvent m (Claim w) (Claimed (Some t.node)) n → AreEvents l (claims w (tickets ++ t ∷ [])) n
claims-append l m n w [] t e h = (n, subst (λ (k : LedgerOf). IsEvent k (Claim w) (Claimed (Some t.node)) n) e h, refl)
claims-append l m n w (x ∷ tickets) t (between, first, more) h = (between, first, claims-append between m n w tickets t more h)

pub claims-none : (l m n : LedgerOf) (w : ℕ) (tickets : List TicketOf) → AreEvents l (claims w tickets) m → IsEvent m (Claim w) (Claimed None) n → AreEvents l (claims w tickets ++ last_claim w true) n
claims-none l m n w tickets h last = events-append l m n (claims w tickets) (last_claim w true) h (n, last, refl)

-- EVENTS OF ONE WORKER, which give no time and spend nothing

abbrev IsQuiet : ℕ → Event × Reply → Type 0
IsQuiet w entry = (worker entry.0 ≡ w) × ((least : ℕ) → least_after least entry.0 entry.1 ≡ least) × (spends entry.0 entry.1 ≡ 0)

abbrev AreQuiet : ℕ → List (Event × Reply) → Type 0
AreQuiet w [] = Unit {0}
AreQuiet w (entry ∷ entries) = IsQuiet w entry × AreQuiet w entries

quiet-append : (w : ℕ) (es fs : List (Event × Reply)) → AreQuiet w es → AreQuiet w fs → AreQuiet w (es ++ fs)
quiet-append w [] fs none h = h
quiet-append w (x ∷ es) fs (first, more) h = (first, quiet-append w es fs more h)

quiet-grants : (w : ℕ) (granted : Option ℕ) → AreQuiet w (grants w granted)
quiet-grants w None = tt
quiet-grants w (Some n) = ((refl, (λ least. refl), refl), tt)

quiet-claims : (w : ℕ) (tickets : List TicketOf) → AreQuiet w (claims w tickets)
quiet-claims w [] = tt
quiet-claims w (t ∷ tickets) = ((refl, (λ least. refl), refl), quiet-claims w tickets)

quiet-last : (w : ℕ) (none_open : Bool) → AreQuiet w (last_claim w none_open)
quiet-last w true = ((refl, (λ least. refl), refl), tt)
quiet-last w false = tt

quiet-supply : (w : ℕ) (supply : Supply) (tickets : List TicketOf) → AreQuiet w (supplied w supply tickets)
quiet-supply w supply tickets =
    quiet-append w (grants w supply.granted) (claims w tickets ++ last_claim w supply.none_open) (quiet-grants w supply.granted)
    (quiet-append w (claims w tickets) (last_claim w supply.none_open) (quiet-claims w tickets) (quiet-last w supply.none_open))

-- what they leave of the ledger and of the worker's seat record
record IsAfterQuiet (l new : LedgerOf) (p q : SeatRecord) : Type 0 where
  pub follows : MayBecome p.who (account_summary l) (account_summary new)
  pub agrees : Agrees (account_summary new) q
  pub who : q.who ≡ p.who
  pub least : q.least ≡ p.least
  pub splits : q.account.splits ≡ p.account.splits

quiet-events : (es : List (Event × Reply)) (l new : LedgerOf) (p : SeatRecord) → AreQuiet p.who es → Agrees (account_summary l) p → AreEvents l es new → IsAfterQuiet l new p (after_events p es)
quiet-events [] l new p quiet agrees same = record {
  follows = subst (λ (k : LedgerOf). MayBecome p.who (account_summary l) (account_summary k)) (sym same) (follows-itself p.who (account_summary l));
  agrees = subst (λ (k : LedgerOf). Agrees (account_summary k) p) (sym same) agrees;
  who = refl;
  least = refl;
  splits = refl;
}
quiet-events (x ∷ es) l new p ((own, least, free), quiet) agrees (between, first, more) =
    let q = after_event p x.0 x.1 in
    let on = quiet-events es between new q quiet (event-agrees l between p x.0 x.1 first own agrees) more in
    record {
      follows = follows-on p.who (account_summary l) (account_summary between) (account_summary new) (event-follows l between p x.0 x.1 first own) on.follows;
      agrees = on.agrees;
      who = on.who;
      least = on.least ∙ least p.least;
      splits = on.splits ∙ omega (arith, free);
    }

-- opened anew with its least time, the seat record is as these events leave it
quiet-renewed : (l new : LedgerOf) (p q : SeatRecord) → IsAfterQuiet l new p q → renewed (account_summary new) p p.least ≡ q
quiet-renewed l new p q after =
    (λ i. renewed (account_summary new) (record p { who = sym after.who i }) (sym after.least i)) ∙ renewed-is (account_summary new) q after.agrees

-- A TURN

-- by its number and in its words
at-worker : (l new : LedgerOf) (w number : ℕ) (supply : Supply) (tickets : List TicketOf) → w ≡ number → AreEvents l (supplied number supply tickets) new → AreEvents l (supplied w supply tickets) new
at-worker l new w number supply tickets who h = subst (λ (n : ℕ). AreEvents l (supplied n supply tickets) new) (sym who) h

module _ (l : LedgerOf) (p : SeatRecord) (agrees : Agrees (account_summary l) p) (old new : LedgerOf) (e : old ≡ l) (number : ℕ) (who : p.who ≡ number) (supply : Supply) (tickets : List TicketOf)
    (events : AreEvents old (supplied number supply tickets) new) where
  after-turn : IsAfterQuiet l new p (after_events p (supplied p.who supply tickets))
  after-turn =
      quiet-events (supplied p.who supply tickets) l new p (quiet-supply p.who supply tickets) agrees
      (subst (λ (k : LedgerOf). AreEvents k (supplied p.who supply tickets) new) e (at-worker old new p.who number supply tickets who events))

  turn-book : renewed (account_summary new) p p.least ≡ after_events p (supplied p.who supply tickets)
  turn-book = quiet-renewed l new p (after_events p (supplied p.who supply tickets)) after-turn

  -- of which only this turn is the worker's
  pub supply-keeps : Keeps l new p p.account.splits
  supply-keeps = (after-turn.follows, ap (λ (q : SeatRecord). q.account.splits) turn-book ∙ after-turn.splits)

  pub has-supply : (s now : SeatOf) → p ≡ s.book → now.book ≡ renewed (account_summary new) p p.least → HasSupply s supply tickets now
  has-supply s now at gave = let P : SeatRecord → Type 0 = λ q. now.book ≡ after_events q (supplied q.who supply tickets) in subst P at (gave ∙ turn-book)

-- A GRAFT THAT WAS TAKEN, AND THEN A TURN'S SUPPLY

module _ (l : LedgerOf) (p : SeatRecord) (agrees : Agrees (account_summary l) p) (old mid : LedgerOf) (e : old ≡ l) (number : ℕ) (who : p.who ≡ number) (node : ℕ) (piece : PieceOf)
    (graft : IsGraft old number node piece model.Taken mid) (began new : LedgerOf) (f : began ≡ mid) (supply : Supply) (tickets : List TicketOf)
    (events : AreEvents began (supplied number supply tickets) new) where
  call : Keeps l mid p (p.account.splits + splits (tree_of piece)) × ((s now : SeatOf) → p ≡ s.book → now.book ≡ renewed (account_summary mid) p p.least → HasGrafted s node piece model.Taken now)
  call = grafted l old mid e p number who agrees node piece graft

  abbrev book-between : SeatRecord
  book-between = renewed (account_summary mid) p p.least

  agrees-between : Agrees (account_summary mid) book-between
  agrees-between = renewed-agrees (account_summary l) (account_summary mid) p agrees call.0.0

  then-keeps : Keeps mid new book-between book-between.account.splits
  then-keeps = supply-keeps mid book-between agrees-between began new f number who supply tickets events

  pub graft-keeps : Keeps l new p (p.account.splits + splits (tree_of piece))
  graft-keeps = (follows-on p.who (account_summary l) (account_summary mid) (account_summary new) call.0.0 then-keeps.0, then-keeps.1 ∙ call.0.1)

  pub has-grafted-and-supply : (s now : SeatOf) → p ≡ s.book → now.book ≡ renewed (account_summary new) p p.least → HasGraftedAndSupply s node piece supply tickets now
  has-grafted-and-supply s now at gave =
      let between : SeatOf = record { hub = s.hub; book = book-between } in (
        between,
        call.1 s between at refl,
        ap (λ (q : SeatRecord). q.who) at,
        has-supply mid book-between agrees-between began new f number who supply tickets events between now refl gave,
      )

-- THE WORKER of a seat stays the same

events-who : (es : List (Event × Reply)) (p : SeatRecord) → (after_events p es).who ≡ p.who
events-who [] p = refl
events-who (x ∷ es) p = events-who es (after_event p x.0 x.1)

pub supply-who : (old new : SeatOf) (supply : Supply) (tickets : List TicketOf) → HasSupply old supply tickets new → new.book.who ≡ old.book.who
supply-who old new supply tickets h = ap (λ (q : SeatRecord). q.who) h ∙ events-who (supplied old.book.who supply tickets) old.book

pub graft-who : (old new : SeatOf) (node : ℕ) (piece : PieceOf) (supply : Supply) (tickets : List TicketOf) → HasGraftedAndSupply old node piece supply tickets new → new.book.who ≡ old.book.who
graft-who old new node piece supply tickets (between, grafted, who, h) = supply-who between new supply tickets h ∙ who
