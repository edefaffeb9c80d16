-- Words of units that are set to 0 from any state, as a timer begins anew.
use Rattle.std.proofs.Common.{ℕ, zero, suc, ◌+◌, ◌<◌, ◌≡◌, List, [], ◌∷◌, set, get_or, length, refl, sym, ap, ◌∙◌, arith, ltb, drop, length-take, le-ltb, get_or-drop, get_or-take}
use Rattle.std.proofs.lemmas.Bool.{cond-false}
use Rattle.s66_isa.specs.{tally, all_kinds, copies_of, kind_number, Kind, Boolean, Shift, Add, LongAdd, Multiply, Divide, Increment, Profile}
use Rattle.s66_time.specs.{first_unit, units_of}

pub zero-set : (ws : List ℕ) (i : ℕ) → get_or (set ws i 0) i 0 ≡ 0
zero-set [] i = refl
zero-set (w ∷ ws) zero = refl
zero-set (w ∷ ws) (suc i) = zero-set ws i

pub zero-stays : (ws : List ℕ) (i j : ℕ) → get_or ws j 0 ≡ 0 → get_or (set ws i 0) j 0 ≡ 0
zero-stays [] i j is = refl
zero-stays (w ∷ ws) zero zero is = refl
zero-stays (w ∷ ws) zero (suc j) is = is
zero-stays (w ∷ ws) (suc i) zero is = is
zero-stays (w ∷ ws) (suc i) (suc j) is = zero-stays ws i j is

pub kind-at : (kind : Kind) (i : ℕ) → kind_number kind ≡ i → get_or all_kinds i Boolean ≡ kind
kind-at kind i is = ap (λ n. get_or all_kinds n Boolean) (sym is) ∙ own kind
  where
    own : (k : Kind) → get_or all_kinds (kind_number k) Boolean ≡ k
    own Boolean = refl
    own Shift = refl
    own Add = refl
    own LongAdd = refl
    own Multiply = refl
    own Divide = refl
    own Increment = refl

-- no word is later than a time if all are 0
none-late : (t : ℕ) (ws : List ℕ) → ((i : ℕ) → i < length ws → get_or ws i 0 ≡ 0) → tally (λ (f : ℕ). ltb t f) ws ≡ 0
none-late t [] zeros = refl
none-late t (w ∷ ws) zeros =
    omega (arith, cond-false {A = ℕ} (ltb t w) 1 0 (le-ltb t w (omega (arith, zeros 0 (omega arith)))), none-late t ws (λ i lt. zeros (suc i) (omega arith)))

pub none-busy : (p : Profile) (kind : Kind) (t : ℕ) (ws : List ℕ) → ((i : ℕ) → i < copies_of p kind → get_or ws (first_unit kind + i) 0 ≡ 0) → tally (λ (f : ℕ). ltb t f) (units_of p kind ws) ≡ 0
none-busy p kind t ws zeros = none-late t (units_of p kind ws) (λ i lt.
    let within : i < copies_of p kind = omega (arith, lt, length-take (copies_of p kind) (drop (first_unit kind) ws)) in
    get_or-take (copies_of p kind) (drop (first_unit kind) ws) i 0 within ∙ get_or-drop (first_unit kind) ws i 0 ∙ zeros i within)
