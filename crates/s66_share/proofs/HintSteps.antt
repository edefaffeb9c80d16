-- Each step of a hint keeps its rule: to read it, to lower it, and to copy a seat.
use mathlib.Core.Option.{some}
use lib.ListN.{get_elem?}
use Rattle.std.proofs.Common.{◌≡◌, ℕ, ◌≤◌, List, [], ◌∷◌, ◌++◌, set, get_or, min, sym, refl, ap, subst, arith}
use Rattle.atomic_table.specs.Table.{State, Me, keeps, Allows, Splits, opening}
use Rattle.atomic_table.proofs.Lists.{set_here, set_again, at_longer}
use Rattle.s66_share.specs.{IsLowest}
use Rattle.s66_share.proofs.Seats.{inside, each-set, each-snoc, each-one}

-- the word becomes one that isn't above it, which the seat then keeps
falls : (id now : ℕ) (s : State Unit ℕ) (kept : ℕ) (h : IsLowest s) → now ≤ h.word → get_elem? s.views id ≡ some kept
    → IsLowest record { words = set s.words 0 now; homes = s.homes; views = set s.views id now }
falls id now s kept h le at = record {
  word = now;
  one_word = ap (λ ws. set ws 0 now) h.one_word;
  keeper = id;
  at = set_here s.views id now (inside s.views id kept at);
  least = each-set (λ _ u. now ≤ u) s.views id now (omega arith) (λ j u ne e. let b = h.least j u e in omega arith);
}

found : (s : State Unit ℕ) (h : IsLowest s) → get_or s.words 0 0 ≡ h.word
found s h = ap (λ ws. get_or ws 0 0) h.one_word

pub reads : (slots id : ℕ) (me : Me Unit ℕ) → Allows IsLowest slots id me 0 (λ n. n) (λ word after. (word ≤ me.0) × (after.0 ≡ word))
reads slots id me s h long at small =
    let word = get_or s.words 0 0 in
    let is = found s h in
    let le = h.least id me.0 at in
    (word, keeps, tt, falls id word s me.0 h (omega arith) at, (omega arith, refl))

pub lowers : (slots id : ℕ) (me : Me Unit ℕ) (to : ℕ) → Allows IsLowest slots id me 0 (λ n. min n to) (λ word after. (word ≤ me.0) × (after.0 ≡ min word to))
lowers slots id me to s h long at small =
    let now = min (get_or s.words 0 0) to in
    let is = found s h in
    let le = h.least id me.0 at in
    (now, keeps, tt, falls id now s me.0 h (omega arith) at, (omega arith, refl))

-- a new seat keeps what the seat keeps
pub copies : (id kept : ℕ) → Splits IsLowest id kept kept kept
copies id kept s h at =
    let again : set s.views id kept ≡ s.views = set_again s.views id kept at in
    let P : List ℕ → Type 0 = λ l. IsLowest (record { words = s.words; homes = s.homes; views = l ++ kept ∷ [] }) in
    subst P (sym again) record {
      word = h.word;
      one_word = h.one_word;
      keeper = h.keeper;
      at = at_longer s.views (kept ∷ []) h.keeper h.word h.at;
      least = each-snoc (λ _ u. h.word ≤ u) s.views kept h.least (λ _. h.least id kept at);
    }

pub opens : (word : ℕ) → IsLowest (opening (word ∷ []) [] word)
opens word = record { word = word; one_word = refl; keeper = 0; at = refl; least = each-one (λ _ u. word ≤ u) word (omega arith) }
