use Rattle.std.proofs.Common.{ℕ, zero, suc, ◌≡◌, true, true≢false, List, [], ◌∷◌, refl, sym, inl, inr, arith, rules, lit≤}
use Rattle.s66_isa.specs.{row, x_reg, Instr}
use Rattle.s66_model.specs.{conflict, issue_of, start_of, point, points_of, IsLegal, is_remaining, standard_problem}
use Rattle.s66_model.proofs.LegalOrders.{order-legal}
use Rattle.s66_model.proofs.Remaining.{remaining-parts}
use Rattle.s66_moments.specs.{Issue, Start, soonest, FindsNoLater, FindsInUse, Known, known_first, issue_at_least, start_at_least, waits_for_the_unit, waits_for_x1, waits_for_two_parcels}
use Rattle.s66_moments.specs.{product_and_booleans}
use Rattle.s66_moments.proofs.InUse.{next-comes}
use Rattle.s66_moments.proofs.Preceders.{precedes-known}
use Rattle.s66_moments.proofs.Turns.{turn-comes}
use Rattle.s66_moments.proofs.examples.in_use_examples.Goals as goal

-- as if it came next
by-next : (block : List Instr) (low : ℕ) (other prefix : List ℕ) (n : ℕ) → is_remaining block prefix n ≡ true → FindsNoLater (standard_problem block) (points_of (standard_problem block) other) (points_of (standard_problem block) prefix) (soonest (standard_problem block) prefix n Issue) (soonest (standard_problem block) prefix n Start) n → FindsInUse (standard_problem block) low [] other prefix n
by-next block low other prefix n left finds =
    (soonest (standard_problem block) prefix n Issue, soonest (standard_problem block) prefix n Start, next-comes (standard_problem block) low [] prefix n left, finds)

-- only the third remains
unit_finds : (low n : ℕ) → is_remaining waits_for_the_unit (1 ∷ 2 ∷ []) n ≡ true → FindsInUse (standard_problem waits_for_the_unit) low [] (2 ∷ 1 ∷ []) (1 ∷ 2 ∷ []) n
unfolding row conflict issue_of start_of point
unit_finds low (suc (suc (suc zero))) h = by-next waits_for_the_unit low (2 ∷ 1 ∷ []) (1 ∷ 2 ∷ []) 3 h (search rules)
unit_finds low (suc (suc (suc (suc n)))) h = absurd (omega (arith, (remaining-parts waits_for_the_unit (1 ∷ 2 ∷ []) (suc (suc (suc (suc n)))) h).1))
unit_finds low _ h = absurd (true≢false (sym h))

-- the fourth comes after the parcels of the third, on which it depends
behind_finds : (low n : ℕ) → is_remaining waits_for_two_parcels (1 ∷ 2 ∷ []) n ≡ true → FindsInUse (standard_problem waits_for_two_parcels) low [] (2 ∷ 1 ∷ []) (1 ∷ 2 ∷ []) n
unfolding row conflict issue_of start_of point
behind_finds low (suc (suc (suc zero))) h = by-next waits_for_two_parcels low (2 ∷ 1 ∷ []) (1 ∷ 2 ∷ []) 3 h (search rules)
behind_finds low (suc (suc (suc (suc zero)))) h =
    let b = standard_problem waits_for_two_parcels in
    let known : Known = known_first b in
    let at : List ℕ = 1 ∷ 2 ∷ [] in
    (issue_at_least b known at 4, start_at_least b known at 4, turn-comes b [] known (precedes-known b []) low at 4 h, search rules)
behind_finds low (suc (suc (suc (suc (suc n))))) h = absurd (omega (arith, (remaining-parts waits_for_two_parcels (1 ∷ 2 ∷ []) (suc (suc (suc (suc (suc n))))) h).1))
behind_finds low _ h = absurd (true≢false (sym h))

product_finds : (low n : ℕ) → is_remaining product_and_booleans (2 ∷ 1 ∷ []) n ≡ true → FindsInUse (standard_problem product_and_booleans) low [] (1 ∷ 2 ∷ []) (2 ∷ 1 ∷ []) n
unfolding row conflict issue_of start_of point
product_finds low (suc (suc (suc zero))) h = by-next product_and_booleans low (1 ∷ 2 ∷ []) (2 ∷ 1 ∷ []) 3 h (search rules)
product_finds low (suc (suc (suc (suc n)))) h = absurd (omega (arith, (remaining-parts product_and_booleans (2 ∷ 1 ∷ []) (suc (suc (suc (suc n)))) h).1))
product_finds low _ h = absurd (true≢false (sym h))

pub returns : goal.returns
unfolding row conflict issue_of start_of point
returns c = record {
  read_after_the_unit = λ low.
      record { begins = search rules; other_begins = search rules; same_set = search rules; slot = lit≤ tt; phase = refl; finds = unit_finds low; total = inr (lit≤ tt) };
  not_clamped = λ h. absurd (omega (arith, h.no_later.writers (x_reg 1)));
  it_takes_12 = refl;
  the_other_takes_12 = refl;
  read_after_two_parcels = λ low.
      record { begins = search rules; other_begins = search rules; same_set = search rules; slot = lit≤ tt; phase = refl; finds = behind_finds low; total = inr (lit≤ tt) };
  after_two_parcels_it_takes_12 = refl;
  after_two_parcels_the_other_takes_12 = refl;
  -- 1 2 3 takes 9, and the third starts at 5 there, when X1 is to come at 7 after 2 1
  read_at_once = λ low less h.
      let legal : IsLegal waits_for_x1 (1 ∷ 2 ∷ 3 ∷ []) = order-legal waits_for_x1 (1 ∷ 2 ∷ 3 ∷ []) (search rules) in
      let (issue, start, comes, finds) = h.finds 3 refl in
      absurd (omega (arith, finds.operands (x_reg 1) (inl refl), comes.starts (1 ∷ 2 ∷ 3 ∷ []) legal (omega (arith, less)) ((3 ∷ [], refl), tt)));
  it_takes_11 = refl;
  the_other_takes_9 = refl;
  by_its_total = record { begins = search rules; other_begins = search rules; same_set = search rules; slot = lit≤ tt; phase = refl; finds = product_finds 13; total = inl (lit≤ tt) };
  not_below_its_total = λ h. elim h.total [ inl less ↦ absurd (omega arith) | inr no_later ↦ absurd (omega arith) ];
  its_total = refl;
  total_of_the_other = refl;
}
