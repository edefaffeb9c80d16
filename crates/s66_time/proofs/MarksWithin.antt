-- No word of a mark is later than another's, or than a clamp, exactly if its points are no later.
use Rattle.std.proofs.Common.{ℕ, ◌+◌, ◌-◌, ◌≤◌, ◌<◌, ◌≡◌, max, List, [], get_or, refl, sym, arith, inl, inr, subst}
use Rattle.std.proofs.lemmas.Bool.{cases_eq}
use Rattle.s66_isa.specs.{index_of, register_at, register_at-index, Kind}
use Rattle.s66_isa.specs.Table.{Reg}
use Rattle.s66_isa.proofs.Lists.{cases_le}
use Rattle.s66_isa.proofs.RegisterBits.{index-few, register_at-digit}
use Rattle.s66_model.specs.{Problem, copies, points_of, next, Clamp, clamp_at, free_times, IsNoLater, IsSameSet, DominatesBy}
use Rattle.s66_model.proofs.LoadBound.{next-le-total}
use Rattle.s66_model.proofs.LowRegisters.{low-points}
use Rattle.s66_time.specs.{kept_of, first_kept, IsMarkOf, TOTAL_LIMIT, Mark}
use Rattle.s66_time.proofs.LongestBeginning.{beginning-few}
use Rattle.s66_time.proofs.Clocks.{in-turn}
use Rattle.s66_time.proofs.KeptUnits.{kept-within, place-kind}
use Rattle.s66_time.proofs.MarkedWords.{none-free}

-- the words from a place on and before another
abbrev pub Within : Mark → Mark → ℕ → ℕ → ℕ → Type 0
Within m k first end clamp = (i : ℕ) → first ≤ i → i < end → get_or m.words.words i 0 ≤ max (get_or k.words.words i 0) clamp

module _ (b : Problem) (c : Clamp) (other prefix : List ℕ) (m k : Mark) (of_other : IsMarkOf b other m) (of_prefix : IsMarkOf b prefix k) where
  abbrev pub Later : Type 0
  Later = IsNoLater b c (points_of b other) (points_of b prefix)

  units-from : Within m k 48 m.count c.others → (kind : Kind) (i : ℕ) → i < copies b kind → get_or (free_times kind (points_of b other)) i 0 ≤ max (get_or (free_times kind (points_of b prefix)) i 0) c.others
  units-from h kind i lt =
      elim (cases_le (kept_of b kind) i) [
        | inl past ↦ omega (arith, none-free b other kind i of_other.begins past lt)
        | inr within ↦
            omega (
              arith,
              of_other.units kind i within,
              of_prefix.units kind i within,
              h (first_kept (kept_of b) kind + i) (omega arith) (omega (arith, kept-within (kept_of b) kind, of_other.count, within)),
            )
      ]

  pub marks-no_later : m.next ≤ k.next → m.place ≡ k.place → Within m k 0 24 c.others → Within m k 48 m.count c.others → Within m k 24 48 c.readers → Later
  marks-no_later slot place done rest read =
      record {
        slot = omega (arith, of_other.next, of_prefix.next, slot);
        phase = omega (arith, of_other.phase, of_prefix.phase, place);
        writers = λ r. elim (cases_le r.digit 7) [
          | inl low ↦ omega (arith, of_other.writers r low, of_prefix.writers r low, done (index_of r) (omega arith) (index-few r low))
          | inr high ↦ omega (arith, (low-points b other of_other.digits r high).0)
        ];
        readers = λ r. elim (cases_le r.digit 7) [
          | inl low ↦ omega (arith, of_other.readers r low, of_prefix.readers r low, read (24 + index_of r) (omega arith) (omega (arith, index-few r low)))
          | inr high ↦ omega (arith, (low-points b other of_other.digits r high).1)
        ];
        units = units-from rest;
        references = omega (arith, of_other.references, of_prefix.references, rest 48 (omega arith) (omega (arith, of_other.count)));
        stores = omega (arith, of_other.stores, of_prefix.stores, rest 49 (omega arith) (omega (arith, of_other.count)));
      }

  pub no_later-slot : Later → m.next ≤ k.next
  no_later-slot h = omega (arith, of_other.next, of_prefix.next, h.slot)

  pub no_later-place : Later → m.place ≡ k.place
  no_later-place h = omega (arith, of_other.phase, of_prefix.phase, h.phase)

  pub no_later-done : Later → Within m k 0 24 c.others
  no_later-done h i le lt =
      let r : Reg = register_at i in
      let low : r.digit ≤ 7 = register_at-digit i in
      subst (λ j. get_or m.words.words j 0 ≤ max (get_or k.words.words j 0) c.others) (register_at-index i lt) (omega (arith, of_other.writers r low, of_prefix.writers r low, h.writers r))

  pub no_later-read : Later → Within m k 24 48 c.readers
  no_later-read h i le lt =
      let r : Reg = register_at (i - 24) in
      let low : r.digit ≤ 7 = register_at-digit (i - 24) in
      let place : 24 + index_of r ≡ i = omega (arith, register_at-index (i - 24) (omega (arith, lt)), le) in
      subst (λ j. get_or m.words.words j 0 ≤ max (get_or k.words.words j 0) c.readers) place (omega (arith, of_other.readers r low, of_prefix.readers r low, h.readers r))

  pub no_later-rest : Later → Within m k 48 m.count c.others
  no_later-rest h i le lt =
      elim (cases_le 50 i) [
        | inl unit ↦
            let (kind, place, within, is) = place-kind (kept_of b) i unit (omega (arith, lt, of_other.count)) in
            subst (λ j. get_or m.words.words j 0 ≤ max (get_or k.words.words j 0) c.others) is (omega (arith, of_other.units kind place within, of_prefix.units kind place within, h.units kind place (omega (arith, within))))
        | inr memory ↦
            elim (cases_eq i 48) [
              | inl here ↦ subst (λ j. get_or m.words.words j 0 ≤ max (get_or k.words.words j 0) c.others) (sym here) (omega (arith, of_other.references, of_prefix.references, h.references))
              | inr other_place ↦
                  let here : 49 ≡ i = omega (arith, memory, le, other_place) in
                  subst (λ j. get_or m.words.words j 0 ≤ max (get_or k.words.words j 0) c.others) here (omega (arith, of_other.stores, of_prefix.stores, h.stores))
            ]
      ]

  pub marks-dominate : IsSameSet other prefix → Later → DominatesBy c b other prefix
  marks-dominate same h =
      record {
        begins = of_prefix.begins;
        other_begins = of_other.begins;
        same_set = same;
        no_later = h;
      }

-- the next slot of a mark is early
pub mark-early : (b : Problem) (numbers : List ℕ) (m : Mark) → IsMarkOf b numbers m → next (points_of b numbers) ≤ TOTAL_LIMIT
mark-early b numbers m is =
    omega (arith, next-le-total b [] numbers (omega arith), (in-turn b numbers (omega (arith, beginning-few b.block numbers is.begins, is.few))).early)

pub same-clamp : (readers others now : ℕ) → readers ≡ now + 1 → others ≡ now → ◌≡◌ {A = Clamp} (record { readers = readers; others = others }) (clamp_at now)
same-clamp readers others now r o = rw (r, o) refl
