-- The seat records that a token keeps when it deals the first of them to a new token.
use Rattle.std.proofs.Common.{◌≡◌, ℕ, ◌<◌, List, [], ◌∷◌, length, Option, sym, refl, ap, ◌∙◌, arith}
use Rattle.atomic_table.specs.Table.{Me}
use Rattle.atomic_table.specs.declared.shared.Seat.{Seat}
use Rattle.s66_model.specs.{SeatRecord}
use Rattle.s66_share.specs.{View, idle, first_of, rest_of, first_book, book, IsResting}

first_one : (ps : List SeatRecord) → 0 < length ps → first_of ps ≡ first_book ps ∷ []
first_one [] h = absurd (omega arith)
first_one (p ∷ ps) h = refl

module _ {X : Type 0} where
  pub idles : (m : Me (Option X) View) (ps : List SeatRecord) → m ≡ (idle ps, []) → m ≡ (idle m.0.books, [])
  idles m ps e = e ∙ ap (λ (qs : List SeatRecord). (idle qs, [])) (sym (ap (λ (k : Me (Option X) View). k.0.books) e))

  -- the new token has the first seat record
  pub deals_first : (t : Seat (Option X) View) (ps : List SeatRecord) → 0 < length ps → t.me ≡ (idle (first_of ps), []) → IsResting t × (book t ≡ first_book ps)
  deals_first t ps h is =
      let those : t.me.0.books ≡ first_book ps ∷ [] = ap (λ (k : Me (Option X) View). k.0.books) is ∙ first_one ps h in
      let it : book t ≡ first_book ps = ap first_book those in
      (is ∙ ap (λ (qs : List SeatRecord). (idle qs, [])) (first_one ps h ∙ ap (λ (p : SeatRecord). p ∷ []) (sym it)), it)

  -- and the founding token the rest
  pub founder_left : (m now : Me (Option X) View) → m ≡ (idle m.0.books, []) → now ≡ (idle (rest_of m.0.books), m.1) → now ≡ (idle (rest_of m.0.books), [])
  founder_left m now is left = left ∙ ap (λ (h : List (ℕ × Option X)). (idle (rest_of m.0.books), h)) (ap (λ (k : Me (Option X) View). k.1) is)
