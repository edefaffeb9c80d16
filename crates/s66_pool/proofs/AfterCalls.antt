-- What a worker's seat knows after a call of the hub, of a ledger that others may have changed.
use Rattle.std.proofs.Common.{◌≡◌, ℕ, ◌+◌, ◌-◌, ◌<◌, ◌≤◌, zero, suc, Bool, List, [], ◌∷◌, length, get_or, Result, Ok, Err, Option, None, IfOk, IfErr, sym, refl, ap, ◌∙◌, subst, arith}
use Rattle.atomic_table.specs.Table.{Me}
use Rattle.atomic_table.specs.Seated.{TableId}
use Rattle.s66_isa.specs.{weigh}
use Rattle.s66_model.specs.LedgerRuns as model
use Rattle.s66_model.specs.{Event, Reply, Back, Returned, NotOut, Offer, worker, IsGraftOf, IsOfferOf, IsOwn, IsOwnPiece, TreeOpens, graft_event, spends, Rule, Problem, total_of, Tree, splits}
use Rattle.s66_model.specs.{Terminal, Summary, SeatRecord, Account, Agrees, opened, account_at, after_event, least_after, no_account}
use Rattle.s66_time.specs.TimedOrder.{TimedOrder}
use Rattle.s66_node.specs.{PieceOf, tree_of}
use Rattle.s66_ledger.specs.{LedgerOf, IsEvent, account_summary, IsGraft, IsRefusedGraft, Offered, offered_reply, GraftError, BackError}
use Rattle.s66_ledger.specs.declared.reply.Offered.TheVariants as offered
use Rattle.s66_ledger.specs.declared.reply.GraftError.TheVariants as refused
use Rattle.s66_ledger.specs.declared.reply.BackError.TheVariants as kept
use Rattle.s66_ledger.proofs.Taken.{same-splits}
use Rattle.s66_share.specs.{View, MayBecome, renewed, idle, holding, first_book}
use Rattle.s66_pool.specs.{SeatOf, HasGrafted, HasBeenRefused, HasOffered, IsKnown}
use Rattle.s66_pool.proofs.SeatEvents.{renewed-agrees, same-follows, same-book, event-follows, quiet-book, stated-book, lower-stated, answer-stated, gave-book, gave-opened}

-- A SEAT THAT GAVE THE LEDGER BACK

module _ {X : Type 0} (m : Me (Option X) View) (y : Summary) (p : SeatRecord) (held : m ≡ (holding y (p ∷ []), (0, None) ∷ [])) (z : Summary) (n : Me (Option X) View)
    (rests : n ≡ (idle (renewed z (first_book m.0.books) (first_book m.0.books).least ∷ []), [])) where
  pub seat-keeps : (number count : ℕ) → p.who ≡ number → (renewed z p p.least).account.splits ≡ count
      → (n ≡ (idle (first_book n.0.books ∷ []), [])) × ((first_book n.0.books).who ≡ number) × ((first_book n.0.books).account.splits ≡ count)
  seat-keeps number count who counts =
      let book = gave-book m y p held z n rests in (
        rests ∙ ap (λ (q : SeatRecord). (idle (q ∷ []), [])) (sym (ap (λ (k : Me (Option X) View). first_book k.0.books) rests)),
        ap (λ (q : SeatRecord). q.who) book ∙ who,
        ap (λ (q : SeatRecord). q.account.splits) book ∙ counts,
      )

pub seat-same : (old : SeatOf) (hub now : TableId) (p q : SeatRecord) → record { hub = hub; book = p } ≡ old → now ≡ hub → q ≡ p → record { hub = now; book = q } ≡ old
seat-same old hub now p q is here same = (λ i. record { hub = here i; book = same i }) ∙ is

-- A CALL BY THE WORKER OF THE SEAT RECORD

-- what a call keeps: the others' seat records, and this many splits in its own
abbrev pub Keeps : LedgerOf → LedgerOf → SeatRecord → ℕ → Type 0
Keeps l new p count = MayBecome p.who (account_summary l) (account_summary new) × ((renewed (account_summary new) p p.least).account.splits ≡ count)

module _ (l old new : LedgerOf) (e : old ≡ l) (p : SeatRecord) (number : ℕ) (who : p.who ≡ number) (agrees : Agrees (account_summary l) p) where
  pub called : (event : ℕ → Event) (reply : Reply) → IsEvent old (event number) reply new → IsEvent l (event p.who) reply new
  called event reply h =
      let P : LedgerOf → Type 0 = λ k. IsEvent k (event p.who) reply new in
      let Q : ℕ → Type 0 = λ w. IsEvent old (event w) reply new in
      subst P e (subst Q (sym who) h)

  pub same-call : new ≡ old → Keeps l new p p.account.splits × (renewed (account_summary new) p p.least ≡ p)
  same-call h =
      let same = h ∙ e in
      let book = same-book l new p same agrees in
      ((same-follows l new p same, ap (λ (q : SeatRecord). q.account.splits) book), book)

  -- an event that gives no time
  pub quiet-call : (event : ℕ → Event) (reply : Reply) → worker (event p.who) ≡ p.who → least_after p.least (event p.who) reply ≡ p.least → IsEvent old (event number) reply new
      → Keeps l new p (p.account.splits + spends (event p.who) reply) × (renewed (account_summary new) p p.least ≡ after_event p (event p.who) reply)
  quiet-call event reply own quiet h =
      let now = called event reply h in
      let book = quiet-book l new p (event p.who) reply now own agrees quiet in
      ((event-follows l new p (event p.who) reply now own, ap (λ (q : SeatRecord). q.account.splits) book), book)

  -- a graft, and of any seat with this seat record what became of it
  module _ (i : ℕ) (piece : PieceOf) where
    grafted-as : (reply : Reply) (cost : ℕ) → ((w : ℕ) (own : Bool) (taken : Tree Terminal) → worker (graft_event w i own piece.prefix taken reply) ≡ w)
        → ((w : ℕ) (own : Bool) (taken : Tree Terminal) → least_after p.least (graft_event w i own piece.prefix taken reply) reply ≡ p.least)
        → ((w : ℕ) (own : Bool) (taken : Tree Terminal) → TreeOpens (tree_of piece) taken → spends (graft_event w i own piece.prefix taken reply) reply ≡ cost)
        → IsGraft old number i piece reply new
        → Keeps l new p (p.account.splits + cost) × ((s now : SeatOf) → p ≡ s.book → now.book ≡ renewed (account_summary new) p p.least → HasGrafted s i piece reply now)
    grafted-as reply cost by quiet spent (event, (own, taken, of, opens, is), h) =
        let named : ℕ → Event = λ w. graft_event w i own piece.prefix taken reply in
        let P : Event → Type 0 = λ v. IsEvent old v reply new in
        let call = quiet-call named reply (by p.who own taken) (quiet p.who own taken) (subst P is h) in
        let own_by = subst (λ (r : Rule). IsOwnPiece r old.problem piece.rule piece.problem own) (ap (λ (k : LedgerOf). k.rule) e ∙ sym agrees.rule) of in
        let owned = subst (λ (b : Problem). IsOwnPiece p.rule b piece.rule piece.problem own) (ap (λ (k : LedgerOf). k.problem) e ∙ sym agrees.problem) own_by in (
          (call.0.0, call.0.1 ∙ ap (λ (n : ℕ). p.account.splits + n) (spent p.who own taken opens)),
          λ s now at after.
              (let R : SeatRecord → Type 0 = λ q. (v : Event) × IsGraftOf q.rule q.problem q.who i piece.rule piece.problem piece.prefix (tree_of piece) reply v × (now.book ≡ after_event q v reply) in
              subst R at (named p.who, (own, taken, owned, opens, refl), after ∙ call.1)),
        )

    pub grafted : IsGraft old number i piece model.Taken new
        → Keeps l new p (p.account.splits + splits (tree_of piece)) × ((s now : SeatOf) → p ≡ s.book → now.book ≡ renewed (account_summary new) p p.least → HasGrafted s i piece model.Taken now)
    grafted h = grafted-as model.Taken (splits (tree_of piece)) (λ w own taken. refl) (λ w own taken. refl) (λ w own taken opens. sym (same-splits (tree_of piece) taken opens)) h

    abbrev Refused : GraftError → Type 0
    Refused why = Keeps l new p p.account.splits × ((s now : SeatOf) → p ≡ s.book → now.book ≡ renewed (account_summary new) p p.least → now.hub ≡ s.hub → HasBeenRefused s i piece why now)

    pub graft-refused : (why : GraftError) → IsRefusedGraft old number i piece why new → Refused why
    graft-refused refused.NotOut h =
        let call = grafted-as model.NotOut 0 (λ w own taken. refl) (λ w own taken. refl) (λ w own taken opens. refl) h in
        ((call.0.0, call.0.1 ∙ omega arith), λ s now at after here. call.1 s now at after)
    graft-refused refused.OtherPrefix h =
        let call = grafted-as model.OtherPrefix 0 (λ w own taken. refl) (λ w own taken. refl) (λ w own taken opens. refl) h in
        ((call.0.0, call.0.1 ∙ omega arith), λ s now at after here. call.1 s now at after)
    graft-refused refused.OverAllowance h =
        let call = grafted-as model.OverAllowance 0 (λ w own taken. refl) (λ w own taken. refl) (λ w own taken opens. refl) h in
        ((call.0.0, call.0.1 ∙ omega arith), λ s now at after here. call.1 s now at after)
    graft-refused refused.OutOfMemory h =
        let call = same-call h in
        (call.0, λ s now at after here. (λ i. record { hub = here i; book = (after ∙ call.1 ∙ at) i }))

  -- a node given back
  pub back-call : {E : Type 0} (r : Result (Unit {0}) (BackError × E)) (node : ℕ) → IfOk r (λ _. IsEvent old (Back number node) Returned new)
      → IfErr r (λ e. e.0 ≡ kept.NotOut → IsEvent old (Back number node) NotOut new) → IfErr r (λ e. e.0 ≡ kept.OutOfMemory → new ≡ old) → Keeps l new p p.account.splits
  back-call (Ok x) node ok out none = let call = quiet-call (λ w. Back w node) Returned refl refl ok in (call.0.0, call.0.1 ∙ omega arith)
  back-call (Err (kept.NotOut, t)) node ok out none = let call = quiet-call (λ w. Back w node) NotOut refl refl (out refl) in (call.0.0, call.0.1 ∙ omega arith)
  back-call (Err (kept.OutOfMemory, t)) node ok out none = (same-call (none refl)).0

  -- a call of one reply, or without memory
  pub plain-call : {T E : Type 0} (r : Result T E) (event : ℕ → Event) (reply : T → Reply) → worker (event p.who) ≡ p.who → ((x : T) → least_after p.least (event p.who) (reply x) ≡ p.least)
      → ((x : T) → spends (event p.who) (reply x) ≡ 0) → IfOk r (λ x. IsEvent old (event number) (reply x) new) → IfErr r (λ _. new ≡ old) → Keeps l new p p.account.splits
  plain-call (Ok x) event reply own quiet free ok err =
      let call = quiet-call event (reply x) own (quiet x) ok in (call.0.0, call.0.1 ∙ (let none = free x in omega arith))
  plain-call (Err x) event reply own quiet free ok err = (same-call err).0

pub weaker-err : {T E : Type 0} (r : Result T E) (P Q : E → Type 0) → ((e : E) → P e → Q e) → IfErr r P → IfErr r Q
weaker-err (Ok x) P Q f h = tt
weaker-err (Err e) P Q f h = f e h

-- NO WORKER HAS SPENT MORE THAN ALL HAVE

got-le-weigh : (accounts : List Account) (i : ℕ) → i < length accounts → (get_or accounts i no_account).splits ≤ weigh (λ a. a.splits) accounts
got-le-weigh [] i h = absurd (omega arith)
got-le-weigh (a ∷ accounts) zero h = omega arith
got-le-weigh (a ∷ accounts) (suc i) h = omega (arith, got-le-weigh accounts i (omega arith))

pub account-within : (s : Summary) (w : ℕ) → 1 ≤ w → w ≤ length s.accounts → (account_at s w).splits ≤ weigh (λ a. a.splits) s.accounts
account-within s w low high = got-le-weigh s.accounts (w - 1) (omega (arith, low, high))

-- nor the worker who called
pub keeps-within : (l new : LedgerOf) (p : SeatRecord) (count : ℕ) → Agrees (account_summary l) p → Keeps l new p count → count ≤ weigh (λ a. a.splits) (account_summary new).accounts
keeps-within l new p count agrees keeps =
    let is = renewed-agrees (account_summary l) (account_summary new) p agrees keeps.0 in
    omega (arith, keeps.1, account-within (account_summary new) p.who is.worker.0 is.worker.1)

-- AN OFFER

module _ (l old new : LedgerOf) (e : old ≡ l) (p : SeatRecord) (number : ℕ) (who : p.who ≡ number) (agrees : Agrees (account_summary l) p) (timed : TimedOrder) where
  abbrev named : Bool → ℕ → Event
  named own w = Offer w own timed.numbers (total_of timed.problem timed.numbers)

  abbrev Recorded : Reply → Type 0
  Recorded reply = (event : Event) × IsOfferOf old.problem number timed.problem timed.numbers event × IsEvent old event reply new

  -- the event, in the words of the ledger that was taken
  offered-as : (reply : Reply) → Recorded reply → (own : Bool) × IsOwn p.problem timed.problem own × IsEvent l (named own p.who) reply new
  offered-as reply (event, (own, of, is), h) =
      let P : Event → Type 0 = λ v. IsEvent old v reply new in
      let Q : Problem → Type 0 = λ b. IsOwn b timed.problem own in
      (own, subst Q (ap (λ (k : LedgerOf). k.problem) e ∙ sym agrees.problem) of, called l old new e p number who agrees (named own) reply (subst P is h))

  has-offered : (s now : SeatOf) (reply : Reply) (own : Bool) → p ≡ s.book → IsOwn p.problem timed.problem own → now.book ≡ after_event p (named own p.who) reply → HasOffered s timed reply now
  has-offered s now reply own at of is =
      let R : SeatRecord → Type 0 = λ q. (v : Event) × IsOfferOf q.problem q.who timed.problem timed.numbers v × (now.book ≡ after_event q v reply) in
      subst R at (named own p.who, (own, of, refl), is)

  -- of another block
  pub other-keeps : (o : Offered) → o ≡ offered.OtherBlock → Recorded (offered_reply o) → Keeps l new p p.account.splits
  other-keeps offered.OtherBlock is h =
      let (own, of, now) = offered-as model.OtherBlock h in
      let book = quiet-book l new p (named own p.who) model.OtherBlock now refl agrees refl in
      (event-follows l new p (named own p.who) model.OtherBlock now refl, ap (λ (q : SeatRecord). q.account.splits) book ∙ omega arith)
  other-keeps offered.Lower is h = absurd (let no : offered.Lower ≡ offered.OtherBlock = is in cc)
  other-keeps (offered.NotLower n) is h = absurd (let no : offered.NotLower n ≡ offered.OtherBlock = is in cc)

  pub other-offered : (s now : SeatOf) (o : Offered) → o ≡ offered.OtherBlock → p ≡ s.book → now.book ≡ renewed (account_summary new) p p.least → Recorded (offered_reply o) → HasOffered s timed (offered_reply o) now
  other-offered s after offered.OtherBlock is at gave h =
      let (own, of, now) = offered-as model.OtherBlock h in
      has-offered s after model.OtherBlock own at of (gave ∙ quiet-book l new p (named own p.who) model.OtherBlock now refl agrees refl)
  other-offered s after offered.Lower is at gave h = absurd (let no : offered.Lower ≡ offered.OtherBlock = is in cc)
  other-offered s after (offered.NotLower n) is at gave h = absurd (let no : offered.NotLower n ≡ offered.OtherBlock = is in cc)

  -- of this one
  pub stated-follows : (o : Offered) → Recorded (offered_reply o) → MayBecome p.who (account_summary l) (account_summary new)
  stated-follows o h =
      let (own, of, now) = offered-as (offered_reply o) h in event-follows l new p (named own p.who) (offered_reply o) now refl

  pub stated-opened : (o : Offered) → (o ≡ offered.OtherBlock → ⊥) → Recorded (offered_reply o)
      → (own : Bool) × IsOwn p.problem timed.problem own × (opened (account_summary new) p.who ≡ after_event p (named own p.who) (offered_reply o)) × IsKnown (offered_reply o) p
  stated-opened offered.OtherBlock other h = absurd (other refl)
  stated-opened offered.Lower other h =
      let (own, of, now) = offered-as model.Lower h in
      let stated = lower-stated l new p p.who own timed.numbers (total_of timed.problem timed.numbers) now agrees in
      (own, of, stated-book l new p (named own p.who) model.Lower now refl agrees stated, tt)
  stated-opened (offered.NotLower n) other h =
      let (own, of, now) = offered-as (model.NotLower n) h in
      let stated = answer-stated l new p p.who own timed.numbers (total_of timed.problem timed.numbers) n now agrees in
      (own, of, stated-book l new p (named own p.who) (model.NotLower n) now refl agrees stated.0, stated.1)

  free : (own : Bool) (w : ℕ) (o : Offered) → spends (named own w) (offered_reply o) ≡ 0
  free own w offered.OtherBlock = refl
  free own w offered.Lower = refl
  free own w (offered.NotLower n) = refl

  pub stated-splits : (o : Offered) → (o ≡ offered.OtherBlock → ⊥) → Recorded (offered_reply o) → (opened (account_summary new) p.who).account.splits ≡ p.account.splits
  stated-splits o other h =
      let (own, of, book, known) = stated-opened o other h in
      ap (λ (q : SeatRecord). q.account.splits) book ∙ (let none = free own p.who o in omega arith)

  pub stated-offered : (s now : SeatOf) (o : Offered) → (o ≡ offered.OtherBlock → ⊥) → p ≡ s.book → now.book ≡ opened (account_summary new) p.who → Recorded (offered_reply o) → HasOffered s timed (offered_reply o) now
  stated-offered s after o other at gave h =
      let (own, of, book, known) = stated-opened o other h in
      has-offered s after (offered_reply o) own at of (gave ∙ book)

  pub stated-known : (s : SeatOf) (o : Offered) → (o ≡ offered.OtherBlock → ⊥) → p ≡ s.book → Recorded (offered_reply o) → IsKnown (offered_reply o) s.book
  stated-known s o other at h = let (own, of, book, known) = stated-opened o other h in subst (λ (q : SeatRecord). IsKnown (offered_reply o) q) at known

module _ {X : Type 0} (m : Me (Option X) View) (y : Summary) (p : SeatRecord) (held : m ≡ (holding y (p ∷ []), (0, None) ∷ [])) (z : Summary) (n : Me (Option X) View)
    (rests : n ≡ (idle (opened z (first_book m.0.books).who ∷ []), [])) where
  pub seat-reads : (number count : ℕ) → p.who ≡ number → (opened z p.who).account.splits ≡ count
      → (n ≡ (idle (first_book n.0.books ∷ []), [])) × ((first_book n.0.books).who ≡ number) × ((first_book n.0.books).account.splits ≡ count)
  seat-reads number count who counts =
      let book = gave-opened m y p held z n rests in (
        rests ∙ ap (λ (q : SeatRecord). (idle (q ∷ []), [])) (sym (ap (λ (k : Me (Option X) View). first_book k.0.books) rests)),
        ap (λ (q : SeatRecord). q.who) book ∙ who,
        ap (λ (q : SeatRecord). q.account.splits) book ∙ counts,
      )
