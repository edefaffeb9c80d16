-- The numbers of the sentence of a pair, and of the last one of a supposition, are those of longest paths, and reach the bound.
use Rattle.std.proofs.Common.{ℕ, ◌≡◌, ◌≤◌, ◌∙◌, ◌&&◌, ◌||◌, ◌==◌, Bool, true, true≢false, List, [], ◌∷◌, ◌++◌, codes, Option, None, Some, ap, arith, inl, inr, leb-true, refl, sym, unwrap_or}
use Rattle.std.proofs.lemmas.Bool.{and_parts, cases_Bool, cond-true, cond-false, or_cases}
use Rattle.s66_isa.specs.{numbers, same_kind}
use Rattle.s66_model.specs.{Problem, copies, row_at}
use Rattle.s66_moments.specs.{Issue, Start, Free, Moment, Origin, At, End, Network, Known, arcs_of, is_late_at, is_late_by_parcels, is_late_by_unit, is_late_through, is_pair_taken, plus, reaches, span}
use Rattle.s66_moments.proofs.Spans.{plus-some}
use Rattle.s66_cert.specs.{Document}
use Rattle.s66_checker.specs.{problem_of}
use Rattle.s66_reasons.specs.{AddUp, IsPairShown, IsThroughShown, by_parcels, by_unit, comes_words, late_number, pair_sentence, pair_words, rest_known, soonest_known, through_words}

reaches-parts : (low : ℕ) (o : Option ℕ) → reaches low o ≡ true → (w : ℕ) × (o ≡ Some w) × (low ≤ w)
reaches-parts low None h = absurd (true≢false (sym h))
reaches-parts low (Some w) h = (w, refl, leb-true low w h)

found : (o : Option ℕ) (w : ℕ) → o ≡ Some w → unwrap_or o 0 ≡ w
found o w is = ap (λ (p : Option ℕ). unwrap_or p 0) is

module _ (b : Problem) (arcs : Network) (bound : ℕ) where
  -- two longest paths that take the bound, with a wait between
  through-wait : (e f : Moment) (wait : ℕ) → reaches bound (plus (plus (span b arcs Origin e) (Some wait)) (span b arcs f End)) ≡ true →
      AddUp b arcs bound e (soonest_known b arcs e) wait f (rest_known b arcs f)
  through-wait e f wait late =
      let (all, is, le) = reaches-parts bound (plus (plus (span b arcs Origin e) (Some wait)) (span b arcs f End)) late in
      let (front, rest, first, tail, sum) = plus-some (plus (span b arcs Origin e) (Some wait)) (span b arcs f End) all is in
      let (soonest, between, head, same, front_is) = plus-some (span b arcs Origin e) (Some wait) front first in
      let waits : wait ≡ between = found (Some wait) between same in
      let soonest_is : soonest_known b arcs e ≡ soonest = found (span b arcs Origin e) soonest head in
      let rest_is : rest_known b arcs f ≡ rest = found (span b arcs f End) rest tail in
      record {
        longest = head ∙ ap (λ k. Some k) (sym soonest_is);
        longest_rest = tail ∙ ap (λ k. Some k) (sym rest_is);
        reaches = omega (arith, le, sum, front_is, waits, soonest_is, rest_is);
      }

  -- with none
  through : (e f : Moment) → reaches bound (plus (span b arcs Origin e) (span b arcs f End)) ≡ true →
      AddUp b arcs bound e (soonest_known b arcs e) 0 f (rest_known b arcs f)
  through e f late =
      let (all, is, le) = reaches-parts bound (plus (span b arcs Origin e) (span b arcs f End)) late in
      let (soonest, rest, head, tail, sum) = plus-some (span b arcs Origin e) (span b arcs f End) all is in
      let soonest_is : soonest_known b arcs e ≡ soonest = found (span b arcs Origin e) soonest head in
      let rest_is : rest_known b arcs f ≡ rest = found (span b arcs f End) rest tail in
      record {
        longest = head ∙ ap (λ k. Some k) (sym soonest_is);
        longest_rest = tail ∙ ap (λ k. Some k) (sym rest_is);
        reaches = omega (arith, le, sum, soonest_is, rest_is);
      }

  -- the first number that is late is
  late-is : (ns : List ℕ) (n : ℕ) → late_number b arcs bound ns ≡ Some n → is_late_through b arcs bound n ≡ true
  late-is [] n is = absurd cc
  late-is (m ∷ ns) n is =
      elim (cases_Bool (is_late_through b arcs bound m)) [
        | inl late ↦
            let same : m ≡ n = ap (λ (o : Option ℕ). unwrap_or o 0) (sym (cond-true {A = Option ℕ} (is_late_through b arcs bound m) (Some m) (late_number b arcs bound ns) late) ∙ is) in
            ap (is_late_through b arcs bound) (sym same) ∙ late
        | inr not ↦ late-is ns n (sym (cond-false {A = Option ℕ} (is_late_through b arcs bound m) (Some m) (late_number b arcs bound ns) not) ∙ is)
      ]

module _ (d : Document) (m n : ℕ) where
  abbrev b2 : Problem
  b2 = problem_of d

  pub pair-shown : (known : Known) → is_pair_taken b2 d.bound known m n ≡ true → IsPairShown d (arcs_of b2 known) m n (pair_sentence d (arcs_of b2 known) m n)
  pair-shown known taken =
      let arcs : Network = arcs_of b2 known in
      let by_parcels_is : Bool = is_late_by_parcels b2 arcs d.bound m n in
      let by_unit_is : Bool = is_late_by_unit b2 arcs d.bound m n in
      let rest : ℕ = rest_known b2 arcs (At m Issue) in
      let one : List ℕ = by_parcels (soonest_known b2 arcs (At n Issue)) (row_at b2 n).parcels rest m n in
      let other : List ℕ = by_unit (row_at b2 n).kind (soonest_known b2 arcs (At n Free)) rest m n in
      let (front, late) = and_parts _ (by_parcels_is || by_unit_is) taken in
      elim (cases_Bool by_parcels_is) [
        | inl is ↦ inl (_, rest, through-wait b2 arcs d.bound (At n Issue) (At m Issue) (row_at b2 n).parcels is, ap (λ xs. pair_words d m n ++ xs) (cond-true {A = List ℕ} by_parcels_is one other is))
        | inr not ↦ elim (or_cases by_parcels_is by_unit_is late) [
          | inl is ↦ absurd (true≢false (sym is ∙ not))
          | inr is ↦
              let (alike, reached) = and_parts (same_kind (row_at b2 n).kind (row_at b2 m).kind && copies b2 (row_at b2 m).kind == 1) _ is in
              inr (alike, (_, rest, through b2 arcs d.bound (At n Free) (At m Issue) reached, ap (λ xs. pair_words d m n ++ xs) (cond-false {A = List ℕ} by_parcels_is one other not)))
        ]
      ]

  pub through-shown : (arcs : Network) (k : ℕ) → late_number b2 arcs d.bound (m ∷ numbers b2.block) ≡ Some k →
      IsThroughShown d arcs m n k (pair_words d m n ++ (codes "if not, " ++ through_words b2 arcs d.bound k))
  through-shown arcs k is =
      let issues : Bool = is_late_at b2 arcs d.bound Issue k in
      let starts : Bool = is_late_at b2 arcs d.bound Start k in
      let one : List ℕ = comes_words (codes " issues at ") (soonest_known b2 arcs (At k Issue)) (rest_known b2 arcs (At k Issue)) k in
      let other : List ℕ = comes_words (codes " starts at ") (soonest_known b2 arcs (At k Start)) (rest_known b2 arcs (At k Start)) k in
      let late = late-is b2 arcs d.bound (m ∷ numbers b2.block) k is in
      elim (cases_Bool issues) [
        | inl issue ↦ inl (_, _, through b2 arcs d.bound (At k Issue) (At k Issue) issue, ap (λ xs. pair_words d m n ++ (codes "if not, " ++ xs)) (cond-true {A = List ℕ} issues one other issue))
        | inr not ↦ elim (or_cases issues starts late) [
          | inl issue ↦ absurd (true≢false (sym issue ∙ not))
          | inr start ↦ inr (_, _, through b2 arcs d.bound (At k Start) (At k Start) start, ap (λ xs. pair_words d m n ++ (codes "if not, " ++ xs)) (cond-false {A = List ℕ} issues one other not))
        ]
      ]
