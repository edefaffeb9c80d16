-- Each step of the parts of a search's marks keeps their rule.
use mathlib.Core.Option.{some, none}
use mathlib.Core.Option as maybe
use mathlib.Core.Logic.{dite}
use native.Mathlib.Decide.{ℕ_discrete}
use prog.Atomic.{either}
use lib.ListN.{get_elem?}
use Rattle.std.proofs.Common.{◌≡◌, ◌≢◌, ℕ, zero, suc, ◌<◌, List, [], ◌∷◌, length, map, set, get_or, eqb, All, sym, refl, ap, ◌∙◌, subst, arith, length-set, get_or-set_same, get_or-set_other}
use Rattle.std.proofs.lemmas.List.{length-map}
use Rattle.std.proofs.lemmas.List.Elements.{All-head, All-tail}
use Rattle.atomic_table.specs.Table.{State, Me, keeps, takes, gives, Allows, Enters, opening, rest}
use Rattle.atomic_table.proofs.Lists.{set_here, set_else, exchanged}
use Rattle.s66_node.specs.{MarkTable}
use Rattle.s66_share.proofs.Seats.{each-set, each-snoc, each-one}
use Rattle.s66_pool.specs.{ArePartsOf}

abbrev S : Type 0
S = State MarkTable MarkTable

module _ (key : MarkTable) where
  -- a seat that knows this and has no part
  abbrev pub resting : MarkTable → Me MarkTable MarkTable
  resting v = (v, [])

  abbrev Own : MarkTable → Type 0
  Own x = x.problem ≡ key.problem

  abbrev IsHome : List (maybe.Option MarkTable) → ℕ → Type 0
  IsHome homes i = (x : MarkTable) × (get_elem? homes i ≡ some (some x)) × Own x

  -- one part changes, whose word becomes n, and no other
  moves : (s : S) (part n id : ℕ) (homes : List (maybe.Option MarkTable)) → ArePartsOf key s → part < length s.homes → length homes ≡ length s.homes
      → ((i : ℕ) → i ≢ part → get_elem? homes i ≡ get_elem? s.homes i) → (n ≡ 0 → IsHome homes part)
      → ArePartsOf key record { words = set s.words part n; homes = homes; views = set s.views id key }
  moves s part n id homes h within long others here = record {
    count = length-set s.words part n ∙ (h.count ∙ sym long);
    home = λ i lt is. dite (ℕ_discrete i part)
        (λ e. subst (IsHome homes) (sym e) (here (sym (get_or-set_same s.words part n 0 (omega (arith, h.count, within))) ∙ (ap (λ j. get_or (set s.words part n) j 0) (sym e) ∙ is))))
        (λ ne. let (x, at, own) = h.home i (omega (arith, lt, long)) (sym (get_or-set_other s.words part i n 0 ne) ∙ is) in (x, others i ne ∙ at, own));
    views = each-set (λ _ v. v ≡ key) s.views id key refl (λ j u ne e. h.views j u e);
  }

  pub enters : (slots word : ℕ) → Enters (ArePartsOf key) slots word (λ n w. resting w ≡ resting key)
  enters slots word s h long small =
      (key, record { count = h.count; home = h.home; views = each-snoc (λ _ v. v ≡ key) s.views key h.views (λ _. refl) }, refl)

  takes_it : (slots id part : ℕ) → part < slots
      → Allows (ArePartsOf key) slots id (key, []) part (λ n. either (eqb n 0) 1 n)
      (λ word after. (word ≡ 0 → (x : MarkTable) × (x.problem ≡ key.problem) × (after ≡ (key, (part, x) ∷ []))) × (word ≢ 0 → after ≡ (key, [])))
  takes_it slots id part within s h long at small =
      let word = get_or s.words part 0 in
      dite (ℕ_discrete word 0)
      (λ is.
      let (x, home, own) = h.home part (omega (arith, within, long)) is in (
        key,
        takes part x,
        home,
        moves s part (either (eqb word 0) 1 word) id (set s.homes part none) h (omega (arith, within, long)) (length-set s.homes part none)
            (λ i ne. set_else s.homes part i none ne) (λ zero'. absurd (one word is zero')),
        ((λ _. (x, own, refl)), λ ne. absurd (ne is)),
      ))
      (λ ne. (
        key,
        keeps,
        tt,
        moves s part (either (eqb word 0) 1 word) id s.homes h (omega (arith, within, long)) refl (λ i _. refl) (λ zero'. absurd (not_one word ne zero')),
        ((λ is. absurd (ne is)), λ _. refl),
      ))
    where
      one : (n : ℕ) → n ≡ 0 → either (eqb n 0) 1 n ≡ 0 → ⊥
      one n is = exchanged n 0 1 (λ m. m ≡ 0 → ⊥) (λ _ e. omega (arith, e)) (λ ne _. ne is)

      not_one : (n : ℕ) → n ≢ 0 → either (eqb n 0) 1 n ≡ 0 → ⊥
      not_one n ne = exchanged n 0 1 (λ m. m ≡ 0 → ⊥) (λ is _. ne is) (λ _ e. ne e)

  gives_it : (slots id part : ℕ) (x : MarkTable) → part < slots → Own x → Allows (ArePartsOf key) slots id (key, (part, x) ∷ []) part (λ _. 0) (λ word after. after ≡ (key, []))
  gives_it slots id part x within own s h long at small = (
    key,
    gives,
    tt,
    moves s part 0 id (set s.homes part (some x)) h (omega (arith, within, long)) (length-set s.homes part (some x))
        (λ i ne. set_else s.homes part i (some x) ne) (λ _. (x, set_here s.homes part (some x) (omega (arith, within, long)), own)),
    refl,
  )

  -- AS THE CALLS MEET THEM

  pub takes_at : (slots id part : ℕ) (me : Me MarkTable MarkTable) → part < slots → me ≡ (key, [])
      → Allows (ArePartsOf key) slots id me part (λ n. either (eqb n 0) 1 n)
      (λ word after. (word ≡ 0 → (x : MarkTable) × (x.problem ≡ me.0.problem) × (after ≡ (me.0, (part, x) ∷ me.1))) × (word ≢ 0 → after ≡ me))
  takes_at slots id part me within is =
      let P : Me MarkTable MarkTable → Type 0 = λ m. Allows (ArePartsOf key) slots id m part (λ n. either (eqb n 0) 1 n)
      (λ word after. (word ≡ 0 → (x : MarkTable) × (x.problem ≡ m.0.problem) × (after ≡ (m.0, (part, x) ∷ m.1))) × (word ≢ 0 → after ≡ m)) in
      subst P (sym is) (takes_it slots id part within)

  pub gives_at : (slots id part : ℕ) (me : Me MarkTable MarkTable) → part < slots → ((x : MarkTable) × (x.problem ≡ key.problem) × (me ≡ (key, (part, x) ∷ [])))
      → Allows (ArePartsOf key) slots id me part (λ _. 0) (λ word after. after ≡ (me.0, rest me.1))
  gives_at slots id part me within (x, own, is) =
      let P : Me MarkTable MarkTable → Type 0 = λ m. Allows (ArePartsOf key) slots id m part (λ _. 0) (λ word after. after ≡ (m.0, rest m.1)) in
      subst P (sym is) (gives_it slots id part x within own)

  pub took : (me after : Me MarkTable MarkTable) (part : ℕ) → me ≡ (key, []) → ((x : MarkTable) × (x.problem ≡ me.0.problem) × (after ≡ (me.0, (part, x) ∷ me.1)))
      → (x : MarkTable) × (x.problem ≡ key.problem) × (after ≡ (key, (part, x) ∷ []))
  took me after part is t = subst (λ (m : Me MarkTable MarkTable). (x : MarkTable) × (x.problem ≡ m.0.problem) × (after ≡ (m.0, (part, x) ∷ m.1))) is t

  module _ (me : Me MarkTable MarkTable) (part : ℕ) where
    pub slot_of : ((x : MarkTable) × (x.problem ≡ key.problem) × (me ≡ (key, (part, x) ∷ []))) → (x : MarkTable) × (me.1 ≡ (part, x) ∷ rest me.1)
    slot_of (x, own, is) =
        let slots : me.1 ≡ (part, x) ∷ [] = ap (λ (m : Me MarkTable MarkTable). m.1) is in
        (x, slots ∙ sym (ap (λ l. (part, x) ∷ rest l) slots))

    -- y is in the slot, and another table of its problem takes its place
    pub held_at : (y z : MarkTable) → ((x : MarkTable) × (x.problem ≡ key.problem) × (me ≡ (key, (part, x) ∷ []))) → me.1 ≡ (part, y) ∷ rest me.1 → z.problem ≡ y.problem
        → (x : MarkTable) × (x.problem ≡ key.problem) × (◌≡◌ {A = Me MarkTable MarkTable} (me.0, (part, z) ∷ rest me.1) (key, (part, x) ∷ []))
    held_at y z (x, own, is) at same =
        let slots : me.1 ≡ (part, x) ∷ [] = ap (λ (m : Me MarkTable MarkTable). m.1) is in
        let one : y ≡ x = ap (λ (l : List (ℕ × MarkTable)). (get_or l 0 (0, y)).1) (sym at ∙ slots) in
        let none_left : rest me.1 ≡ [] = ap rest slots in
        let knows : me.0 ≡ key = ap (λ (m : Me MarkTable MarkTable). m.0) is in
        (z, same ∙ (ap (λ (t : MarkTable). t.problem) one ∙ own), λ i. (knows i, (part, z) ∷ none_left i))

  opened : (parts : List MarkTable) (i : ℕ) → All Own parts → i < length (map some parts) → IsHome (map some parts) i
  opened [] i all lt = absurd (omega (arith, lt))
  opened (x ∷ parts) zero all lt = (x, refl, All-head Own x parts all)
  opened (x ∷ parts) (suc i) all lt = opened parts i (All-tail Own x parts all) (omega (arith, lt))

  pub opens : (words : List ℕ) (parts : List MarkTable) → length words ≡ length parts → All (λ x. x.problem ≡ key.problem) parts → ArePartsOf key (opening words parts key)
  opens words parts count all = record {
    count = count ∙ sym (length-map parts some);
    home = λ i lt _. opened parts i all lt;
    views = each-one (λ _ v. v ≡ key) key refl;
  }
