-- The seats with which a hub closes, collected one after the other from the last.
use Rattle.std.proofs.Common.{◌≡◌, ℕ, ◌+◌, ◌≤◌, ◌||◌, cond, eqb, Bool, true, false, List, [], ◌∷◌, ◌++◌, length, map, All, sym, refl, ap, ◌∙◌, arith, append_assoc}
use Rattle.std.proofs.lemmas.List.{map-append}
use Rattle.std.proofs.lemmas.List.Elements.{All-nil, All-cons, All-head, All-tail}
use Rattle.s66_isa.specs.{weigh, some_of}
use Rattle.s66_model.specs.{Summary, SeatRecord, Agrees}
use Rattle.s66_share.specs.{books_of, HaveEvery}
use Rattle.s66_share.proofs.Sums.{splits-of-all}
use Rattle.s66_pool.specs.{SeatOf, HaveSeats}

abbrev pub books_in : List SeatOf → List SeatRecord
books_in seats = map (λ s. s.book) seats

-- one seat less, and its seat record is with the others
pub collects : (all left : List SeatOf) (s : SeatOf) (ps qs whole : List SeatRecord) → all ≡ left ++ s ∷ [] → qs ≡ s.book ∷ ps → books_in all ++ ps ≡ whole → books_in left ++ qs ≡ whole
collects all left s ps qs whole more is was =
    let cut : books_in all ≡ books_in left ++ s.book ∷ [] = ap books_in more ∙ map-append (λ (t : SeatOf). t.book) left (s ∷ []) in
    ap (λ l. books_in left ++ l) is ∙ sym (append_assoc (books_in left) (s.book ∷ []) ps) ∙ ap (λ l. l ++ ps) (sym cut) ∙ was

pub none-left : (seats : List SeatOf) (ps whole : List SeatRecord) → length seats ≡ 0 → books_in seats ++ ps ≡ whole → ps ≡ whole
none-left [] ps whole none was = was
none-left (s ∷ seats) ps whole none was = absurd (omega arith)

-- a worker's seat has its seat record
seat-counts : (w : ℕ) (here : Bool) (seats : List SeatOf) → (here || some_of (λ s. eqb s.book.who w) seats) ≡ true → (some_of (λ s. eqb s.book.who w) seats ≡ true → 1 ≤ books_of w (books_in seats))
    → 1 ≤ cond {A = ℕ} here 1 0 + books_of w (books_in seats)
seat-counts w true seats has rest = omega arith
seat-counts w false seats has rest = omega (arith, rest has)

has-book : (w : ℕ) (seats : List SeatOf) → some_of (λ s. eqb s.book.who w) seats ≡ true → 1 ≤ books_of w (books_in seats)
has-book w [] has = cc
has-book w (s ∷ seats) has = seat-counts w (eqb s.book.who w) seats has (has-book w seats)

pub have-every : (workers : ℕ) (seats : List SeatOf) → HaveSeats workers seats → HaveEvery workers (books_in seats)
have-every workers seats have w low high = has-book w seats (have w low high)

pub seats-agree : (s : Summary) (seats : List SeatOf) → All (Agrees s) (books_in seats) → All (λ t. Agrees s t.book) seats
seats-agree s [] agree = All-nil (λ (t : SeatOf). Agrees s t.book)
seats-agree s (t ∷ seats) agree =
    All-cons (λ (u : SeatOf). Agrees s u.book) t seats (All-head (Agrees s) t.book (books_in seats) agree) (seats-agree s seats (All-tail (Agrees s) t.book (books_in seats) agree))

splits-in : (seats : List SeatOf) → weigh (λ t. t.book.account.splits) seats ≡ weigh (λ p. p.account.splits) (books_in seats)
splits-in [] = refl
splits-in (t ∷ seats) = ap (λ (n : ℕ). t.book.account.splits + n) (splits-in seats)

-- if no worker has two seat records, and each has one, the splits of the seats are those of the accounts
pub seats-splits : (s : Summary) (seats : List SeatOf) → All (Agrees s) (books_in seats) → HaveEvery (length s.accounts) (books_in seats) → ((w : ℕ) → books_of w (books_in seats) ≤ 1)
    → weigh (λ t. t.book.account.splits) seats ≡ weigh (λ a. a.splits) s.accounts
seats-splits s seats agree every once =
    splits-in seats ∙ splits-of-all s (books_in seats) agree (λ w low high. omega (arith, every w low high, once w))
