-- How many free times of each kind are kept, and the places where they are.
use Rattle.std.proofs.Common.{ℕ, zero, suc, ◌+◌, ◌-◌, ◌≤◌, ◌<◌, ◌≡◌, ◌≢◌, ◌∙◌, true≢false, cond, min, List, [], ◌∷◌, length, take, set, get_or, map, refl, sym, ap, arith, inl, inr, subst, eqb-true}
use Rattle.std.proofs.Common.{eq-eqb, get_or-set_same, get_or-set_other}
use Rattle.std.proofs.lemmas.Bool.{cases_Bool, cond-true, cond-false}
use Rattle.std.proofs.lemmas.List.{take_more}
use Rattle.s66_isa.specs.{tally, weigh, Row, all_kinds, kind_number, kind_of, same_kind, row, Kind, Boolean, Shift, Add, LongAdd, Multiply, Divide, Increment, Profile}
use Rattle.s66_isa.specs.Table.{Instr}
use Rattle.s66_isa.proofs.Lists.{cases_le, weigh-append, weigh-same, tally-append}
use Rattle.s66_time.specs.{first_kept, word_count, words_from, kept_in, AreLatest, first_unit, UNITS_AT}
use Rattle.s66_time.proofs.RowsOfBlock.{row-kind}
use Rattle.s66_time.proofs.WorkOfKinds.{kinds-few}

-- PLACES

weigh-take : {X : Type 0} (f : X → ℕ) (n : ℕ) (xs : List X) → weigh f (take n xs) ≤ weigh f xs
weigh-take f zero xs = omega arith
weigh-take f (suc n) [] = omega arith
weigh-take f (suc n) (x ∷ xs) = omega (arith, weigh-take f n xs)

pub kinds-more : (f : Kind → ℕ) (n : ℕ) → n < 7 → weigh f (take (n + 1) all_kinds) ≡ weigh f (take n all_kinds) + f (get_or all_kinds n Boolean)
kinds-more f n lt =
    omega (arith, ap (weigh f) (take_more all_kinds n Boolean lt), weigh-append f (take n all_kinds) (get_or all_kinds n Boolean ∷ []))

weigh-rises : (f : Kind → ℕ) (n k : ℕ) → n ≤ k → weigh f (take n all_kinds) ≤ weigh f (take k all_kinds)
weigh-rises f n k le = rises f n k all_kinds le
  where
    rises : (f : Kind → ℕ) (n k : ℕ) (kinds : List Kind) → n ≤ k → weigh f (take n kinds) ≤ weigh f (take k kinds)
    rises f zero k kinds le = omega arith
    rises f (suc n) zero kinds le = absurd (omega arith)
    rises f (suc n) (suc k) [] le = omega arith
    rises f (suc n) (suc k) (kind ∷ kinds) le = omega (arith, rises f n k kinds (omega arith))

pub kind-here : (kind : Kind) → get_or all_kinds (kind_number kind) Boolean ≡ kind
kind-here Boolean = refl
kind-here Shift = refl
kind-here Add = refl
kind-here LongAdd = refl
kind-here Multiply = refl
kind-here Divide = refl
kind-here Increment = refl

pub number-at : (n : ℕ) → n < 7 → kind_number (get_or all_kinds n Boolean) ≡ n
number-at zero lt = refl
number-at (suc zero) lt = refl
number-at (suc (suc zero)) lt = refl
number-at (suc (suc (suc zero))) lt = refl
number-at (suc (suc (suc (suc zero)))) lt = refl
number-at (suc (suc (suc (suc (suc zero))))) lt = refl
number-at (suc (suc (suc (suc (suc (suc zero)))))) lt = refl
number-at (suc (suc (suc (suc (suc (suc (suc n))))))) lt = absurd (omega (arith, lt))

-- those of a kind come before those of later kinds
pub kept-before : (f : Kind → ℕ) (kind : Kind) (k : ℕ) → kind_number kind < k → first_kept f kind + f kind ≤ UNITS_AT + weigh f (take k all_kinds)
kept-before f kind k lt =
    omega (arith, kinds-more f (kind_number kind) (omega (arith, kinds-few kind)), ap f (kind-here kind), weigh-rises f (kind_number kind + 1) k (omega (arith, lt)))

pub kept-within : (f : Kind → ℕ) (kind : Kind) → first_kept f kind + f kind ≤ word_count f
kept-within f kind = omega (arith, kept-before f kind 7 (omega (arith, kinds-few kind)))

pub kinds-within : (f : Kind → ℕ) (n : ℕ) → weigh f (take n all_kinds) ≤ weigh f all_kinds
kinds-within f n = weigh-take f n all_kinds

pub count-same : (f g : Kind → ℕ) → ((kind : Kind) → f kind ≡ g kind) → word_count f ≡ word_count g
count-same f g same = omega (arith, weigh-same f g all_kinds (λ kind among. same kind))

pub first-same : (f g : Kind → ℕ) (kind : Kind) → ((kind : Kind) → f kind ≡ g kind) → first_kept f kind ≡ first_kept g kind
first-same f g kind same = omega (arith, weigh-same f g (take (kind_number kind) all_kinds) (λ k among. same k))

-- each place is of a kind
place-below : (f : Kind → ℕ) (k j : ℕ) → k ≤ 7 → j < weigh f (take k all_kinds) → (kind : Kind) × (i : ℕ) × (i < f kind) × (first_kept f kind + i ≡ UNITS_AT + j)
place-below f zero j few lt = absurd (omega (arith, lt))
place-below f (suc k) j few lt =
    let step : suc k ≡ k + 1 = omega arith in
    let more : weigh f (take (suc k) all_kinds) ≡ weigh f (take k all_kinds) + f (get_or all_kinds k Boolean) = ap (λ n. weigh f (take n all_kinds)) step ∙ kinds-more f k (omega (arith, few)) in
    elim (cases_le (weigh f (take k all_kinds)) j) [
      | inl here ↦
          let kind = get_or all_kinds k Boolean in
          let number : kind_number kind ≡ k = number-at k (omega (arith, few)) in
          (kind, j - weigh f (take k all_kinds), omega (arith, more, lt, here), omega (arith, ap (λ n. weigh f (take n all_kinds)) number, here))
      | inr before ↦ place-below f k j (omega (arith, few)) before
    ]

pub place-kind : (f : Kind → ℕ) (j : ℕ) → UNITS_AT ≤ j → j < word_count f → (kind : Kind) × (i : ℕ) × (i < f kind) × (first_kept f kind + i ≡ j)
place-kind f j past lt =
    let (kind, i, within, is) = place-below f 7 (j - UNITS_AT) (omega arith) (omega (arith, lt, past)) in
    (kind, i, within, omega (arith, is, past))

-- what the code has written of a kind
pub latest-at : (f g : Kind → ℕ) (kind : Kind) (k first count copies : ℕ) (units words : List ℕ) → kind_number kind ≡ k → count ≡ f kind → copies ≡ g kind → first ≡ UNITS_AT + weigh f (take k all_kinds) →
    AreLatest count (words_from (first_unit kind) copies units) (words_from first count words) → AreLatest (f kind) (words_from (first_unit kind) (g kind) units) (words_from (first_kept f kind) (f kind) words)
latest-at f g kind k first count copies units words e1 e2 e3 e4 is =
    let place : first ≡ first_kept f kind = e4 ∙ ap (λ n. UNITS_AT + weigh f (take n all_kinds)) (sym e1) in
    subst (λ n. AreLatest (f kind) (words_from (first_unit kind) (g kind) units) (words_from n (f kind) words)) place
    (subst (λ n. AreLatest (f kind) (words_from (first_unit kind) n units) (words_from first (f kind) words)) e3
    (subst (λ n. AreLatest n (words_from (first_unit kind) copies units) (words_from first n words)) e2 is))

-- COUNTS

seven : (P : List ℕ → Type 0) → ((a b c d e f g : ℕ) → P (a ∷ b ∷ c ∷ d ∷ e ∷ f ∷ g ∷ [])) → (xs : List ℕ) → length xs ≡ 7 → P xs
seven P h [] size = absurd (omega (arith, size))
seven P h (a ∷ []) size = absurd (omega (arith, size))
seven P h (a ∷ b ∷ []) size = absurd (omega (arith, size))
seven P h (a ∷ b ∷ c ∷ []) size = absurd (omega (arith, size))
seven P h (a ∷ b ∷ c ∷ d ∷ []) size = absurd (omega (arith, size))
seven P h (a ∷ b ∷ c ∷ d ∷ e ∷ []) size = absurd (omega (arith, size))
seven P h (a ∷ b ∷ c ∷ d ∷ e ∷ f ∷ []) size = absurd (omega (arith, size))
seven P h (a ∷ b ∷ c ∷ d ∷ e ∷ f ∷ g ∷ []) size = h a b c d e f g
seven P h (a ∷ b ∷ c ∷ d ∷ e ∷ f ∷ g ∷ x ∷ xs) size = absurd (omega (arith, size))

one-more : (kind : Kind) (a b c d e f g : ℕ) → (let kept : List ℕ = a ∷ b ∷ c ∷ d ∷ e ∷ f ∷ g ∷ [] in weigh (kept_in (set kept (kind_number kind) (kept_in kept kind + 1))) all_kinds ≡ weigh (kept_in kept) all_kinds + 1)
one-more Boolean a b c d e f g = omega arith
one-more Shift a b c d e f g = omega arith
one-more Add a b c d e f g = omega arith
one-more LongAdd a b c d e f g = omega arith
one-more Multiply a b c d e f g = omega arith
one-more Divide a b c d e f g = omega arith
one-more Increment a b c d e f g = omega arith

pub sum-more : (kind : Kind) (kept : List ℕ) → length kept ≡ 7 → weigh (kept_in (set kept (kind_number kind) (kept_in kept kind + 1))) all_kinds ≡ weigh (kept_in kept) all_kinds + 1
sum-more kind kept size = seven (λ xs. weigh (kept_in (set xs (kind_number kind) (kept_in xs kind + 1))) all_kinds ≡ weigh (kept_in xs) all_kinds + 1) (one-more kind) kept size

abbrev pub IsCounted : List ℕ → List ℕ → List Row → Type 0
IsCounted copies kept rows = (kind : Kind) → kept_in kept kind ≡ min (kept_in copies kind) (tally (λ (r : Row). same_kind r.kind kind) rows)

module _ (copies kept : List ℕ) (rows : List Row) (i : ℕ) (r : Row) (lt : i < length rows) (is : r ≡ get_or rows i r) (known : IsCounted copies kept (take i rows)) where
  next-row : (kind : Kind) → tally (λ (x : Row). same_kind x.kind kind) (take (i + 1) rows) ≡ tally (λ (x : Row). same_kind x.kind kind) (take i rows) + cond (same_kind r.kind kind) 1 0
  next-row kind =
      omega (
        arith,
        ap (tally (λ (x : Row). same_kind x.kind kind)) (take_more rows i r lt),
        tally-append (λ (x : Row). same_kind x.kind kind) (take i rows) (get_or rows i r ∷ []),
        ap (λ (x : Row). cond {A = ℕ} (same_kind x.kind kind) 1 0) is,
      )

  pub counted-more : length kept ≡ 7 → kept_in kept r.kind < kept_in copies r.kind → IsCounted copies (set kept (kind_number r.kind) (kept_in kept r.kind + 1)) (take (i + 1) rows)
  counted-more size less kind =
      let place = kind_number r.kind in
      let new = kept_in kept r.kind + 1 in
      elim (cases_Bool (same_kind r.kind kind)) [
        | inl same ↦
            let here : place ≡ kind_number kind = eqb-true place (kind_number kind) same in
            omega (
              arith,
              ap (λ k. get_or (set kept place new) k 0) (sym here),
              get_or-set_same kept place new 0 (omega (arith, size, kinds-few r.kind)),
              next-row kind,
              known kind,
              cond-true {A = ℕ} (same_kind r.kind kind) 1 0 same,
              less,
              ap (λ k. get_or kept k 0) here,
              ap (λ k. get_or copies k 0) here,
            )
        | inr other ↦
            let apart : kind_number kind ≢ place = λ e. true≢false (sym (eq-eqb place (kind_number kind) (sym e)) ∙ other) in
            omega (arith, get_or-set_other kept place (kind_number kind) new 0 apart, known kind, next-row kind, cond-false {A = ℕ} (same_kind r.kind kind) 1 0 other)
      ]

  pub counted-full : kept_in copies r.kind ≤ kept_in kept r.kind → IsCounted copies kept (take (i + 1) rows)
  counted-full full kind =
      elim (cases_Bool (same_kind r.kind kind)) [
        | inl same ↦
            let here : kind_number r.kind ≡ kind_number kind = eqb-true (kind_number r.kind) (kind_number kind) same in
            omega (arith, next-row kind, known kind, cond-true {A = ℕ} (same_kind r.kind kind) 1 0 same, full, ap (λ k. get_or kept k 0) here, ap (λ k. get_or copies k 0) here)
        | inr other ↦ omega (arith, known kind, next-row kind, cond-false {A = ℕ} (same_kind r.kind kind) 1 0 other)
      ]

-- by the rows of a block
pub rows-of-kind : (p : Profile) (kind : Kind) (block : List Instr) → tally (λ (r : Row). same_kind r.kind kind) (map (row p) block) ≡ tally (λ (i : Instr). same_kind (kind_of i.op.code) kind) block
rows-of-kind p kind [] = refl
rows-of-kind p kind (i ∷ block) =
    omega (arith, rows-of-kind p kind block, ap (λ (k : Kind). cond {A = ℕ} (same_kind k kind) 1 0) (row-kind p i))
