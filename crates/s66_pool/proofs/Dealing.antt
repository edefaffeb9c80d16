-- The seats that a hub deals, one after the other.
use Rattle.std.proofs.Common.{◌≡◌, ℕ, suc, ◌+◌, ◌-◌, ◌<◌, ◌≤◌, List, [], ◌∷◌, ◌++◌, length, map, All, sym, refl, ap, ◌∙◌, subst, arith, append_assoc, append-nil}
use Rattle.std.proofs.lemmas.List.Elements.{All-push}
use Rattle.atomic_table.specs.Seated.{TableId}
use Rattle.s66_isa.specs.{rising}
use Rattle.s66_model.specs.{Summary, SeatRecord, opened}
use Rattle.s66_model.proofs.AccountLaws.{accounts-count}
use Rattle.s66_ledger.specs.{LedgerOf, events_of, account_summary}
use Rattle.s66_share.specs.{rest_of, first_book}
use Rattle.s66_pool.specs.{SeatOf}

-- an account for each worker
pub account-count : (l : LedgerOf) → length (account_summary l).accounts ≡ l.workers
account-count l = accounts-count l.rule l.problem l.budget l.workers (events_of l) l.state

-- the seat records of workers from low on
abbrev pub books_from : Summary → (count low : ℕ) → List SeatRecord
books_from s count low = map (opened s) (rising count low)

abbrev pub seats_of : TableId → List SeatRecord → List SeatOf
seats_of z ps = map (λ p. record { hub = z; book = p }) ps

module _ (s : Summary) (workers i : ℕ) (ps : List SeatRecord) (lt : i < workers) (are : ps ≡ books_from s (workers - i) (i + 1)) where
  cut : ps ≡ opened s (i + 1) ∷ books_from s (workers - (i + 1)) (i + 1 + 1)
  cut =
      let count : workers - i ≡ suc (workers - (i + 1)) = omega (arith, lt) in
      let low : suc (i + 1) ≡ i + 1 + 1 = omega arith in
      are ∙ ap (λ (k : ℕ). books_from s k (i + 1)) count ∙ ap (λ (k : ℕ). opened s (i + 1) ∷ books_from s (workers - (i + 1)) k) low

  pub some-left : 0 < length ps
  some-left = omega (arith, ap (λ (qs : List SeatRecord). length qs) cut)

  pub first-left : first_book ps ≡ opened s (i + 1)
  first-left = ap first_book cut

  pub rest-left : rest_of ps ≡ books_from s (workers - (i + 1)) (i + 1 + 1)
  rest-left = ap rest_of cut

  whole-left : first_book ps ∷ rest_of ps ≡ ps
  whole-left = ap (λ (qs : List SeatRecord). first_book qs ∷ rest_of qs) cut ∙ sym cut

  -- one more seat
  pub dealt : (z : TableId) (all seats : List SeatOf) (seat : SeatOf) (rest : List SeatRecord) (whole : List SeatOf) → all ≡ seats ++ seat ∷ [] → seat ≡ record { hub = z; book = first_book ps }
      → rest ≡ rest_of ps → seats ++ seats_of z ps ≡ whole → all ++ seats_of z rest ≡ whole
  dealt z all seats seat rest whole more is left was =
      ap (λ (l : List SeatOf). l ++ seats_of z rest) more ∙ append_assoc seats (seat ∷ []) (seats_of z rest) ∙ ap (λ (t : SeatOf). seats ++ (t ∷ seats_of z rest)) is
      ∙ ap (λ (qs : List SeatRecord). seats ++ (record { hub = z; book = first_book ps } ∷ seats_of z qs)) left ∙ ap (λ (qs : List SeatRecord). seats ++ seats_of z qs) whole-left ∙ was

-- all are dealt
pub all-dealt : (s : Summary) (z : TableId) (workers i : ℕ) (ps : List SeatRecord) (seats whole : List SeatOf) → workers ≤ i → ps ≡ books_from s (workers - i) (i + 1) → seats ++ seats_of z ps ≡ whole → seats ≡ whole
all-dealt s z workers i ps seats whole past are was =
    let none : workers - i ≡ 0 = omega (arith, past) in
    let no_books : ps ≡ [] = are ∙ ap (λ (k : ℕ). books_from s k (i + 1)) none in
    sym (append-nil seats) ∙ ap (λ (qs : List SeatRecord). seats ++ seats_of z qs) (sym no_books) ∙ was

pub all-here : (z : TableId) (all seats : List SeatOf) (seat : SeatOf) → all ≡ seats ++ seat ∷ [] → seat.hub ≡ z → All (λ t. t.hub ≡ z) seats → All (λ t. t.hub ≡ z) all
all-here z all seats seat more here old =
    subst (λ (l : List SeatOf). All (λ t. t.hub ≡ z) l) (sym more) (All-push (λ t. t.hub ≡ z) seats seat old here)

-- seats with the seat records of these workers
pub seats-opened : (z : TableId) (s : Summary) (ws : List ℕ) → seats_of z (map (opened s) ws) ≡ map (λ w. record { hub = z; book = opened s w }) ws
seats-opened z s [] = refl
seats-opened z s (w ∷ ws) = ap (λ (l : List SeatOf). record { hub = z; book = opened s w } ∷ l) (seats-opened z s ws)
