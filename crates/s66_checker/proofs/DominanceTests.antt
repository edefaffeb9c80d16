-- The tests of dominance say yes exactly when there is dominance.
use Rattle.std.proofs.Common.{ℕ, zero, suc, ◌≤◌, ◌<◌, ◌≡◌, ◌==◌, max, List, [], ◌∷◌, Option, None, Some, map, get_or, refl, arith, inl, inr, leb, Decides, eqb-true, eq-eqb}
use Rattle.std.proofs.lemmas.Bool.Decides.{Decides-like, Decides-and}
use Rattle.s66_isa.specs.{Instr, Kind, Reg, copies_of, idle_instr}
use Rattle.s66_isa.proofs.Lists.{cases_le}
use Rattle.s66_model.specs.{WrittenEarlier, ClampedStanding, Problem, Point, points_of, next, done_of, readers_wait, total_of, IsBeginning, HasDigits, HaveDigits, place_in_word, references_wait}
use Rattle.s66_model.specs.{stores_wait, free_times, Clamp, IsNoLater, IsSameSet, DominatesBy, no_clamp, Dominates, clamp_at, DominatesClamped}
use Rattle.s66_model.proofs.LowRegisters.{OnlyLow, low-points}
use Rattle.s66_line.specs.{operation_in, operand_in, instr_in_text, instr_of, CanMean}
use Rattle.s66_line.proofs.OperationLaw.{CanMean-instr_of}
use Rattle.s66_cert.specs.{Document}
use Rattle.s66_checker.specs.{problem_of, are_registers_no_later, are_units_no_later, is_no_later, is_same_set, is_beginning, is_ahead, dominates_by}
use Rattle.s66_checker.proofs.GoingTo.{goes_on-Decides}
use Rattle.s66_checker.proofs.NoLater.{le-Decides, registers-Decides, units-Decides}
use Rattle.s66_checker.proofs.AheadOf.{same_set-Decides}

-- NO LATER

module _ (b : Problem) (c : Clamp) (q p : List Point) (low : OnlyLow q) where
  abbrev Low : (Reg → ℕ) → (Reg → ℕ) → ℕ → Type 0
  Low f g clamp = (r : Reg) → r.digit ≤ 7 → f r ≤ max (g r) clamp

  abbrev Units : Type 0
  Units = (kind : Kind) (i : ℕ) → i < copies_of b.profile kind → get_or (free_times kind q) i 0 ≤ max (get_or (free_times kind p) i 0) c.others

  -- other registers have no words
  all-registers : (f g : Reg → ℕ) (clamp : ℕ) → ((r : Reg) → 7 < r.digit → f r ≡ 0) → Low f g clamp → (r : Reg) → f r ≤ max (g r) clamp
  all-registers f g clamp none h r = elim (cases_le r.digit 7) [ inl few ↦ h r few | inr past ↦ omega (arith, none r past) ]

  abbrev Parts : Type 0
  Parts =
      ((((((next q ≤ next p) × (place_in_word q ≡ place_in_word p)) × Low (done_of q) (done_of p) c.others) × Low (readers_wait q) (readers_wait p) c.readers) × Units) × (references_wait q ≤ max (references_wait p) c.others)) × (stores_wait q ≤ max (stores_wait p) c.others)

  from-parts : Parts → IsNoLater b c q p
  from-parts h =
      record {
        slot = h.0.0.0.0.0.0;
        phase = h.0.0.0.0.0.1;
        writers = all-registers (done_of q) (done_of p) c.others (λ r past. (low r past).0) h.0.0.0.0.1;
        readers = all-registers (readers_wait q) (readers_wait p) c.readers (λ r past. (low r past).1) h.0.0.0.1;
        units = h.0.0.1;
        references = h.0.1;
        stores = h.1;
      }

  to-parts : IsNoLater b c q p → Parts
  to-parts h = ((((((h.slot, h.phase), λ r few. h.writers r), λ r few. h.readers r), h.units), h.references), h.stores)

  no_later-Decides : Decides (is_no_later b.profile c q p) (IsNoLater b c q p)
  no_later-Decides =
      let slot : Decides (leb (next q) (next p)) (next q ≤ next p) = le-Decides (next q) (next p) in
      let phase : Decides (place_in_word q == place_in_word p) (place_in_word q ≡ place_in_word p) = (eqb-true (place_in_word q) (place_in_word p), eq-eqb (place_in_word q) (place_in_word p)) in
      let writers : Decides (are_registers_no_later c.others (done_of q) (done_of p)) (Low (done_of q) (done_of p) c.others) = registers-Decides c.others (done_of q) (done_of p) in
      let readers : Decides (are_registers_no_later c.readers (readers_wait q) (readers_wait p)) (Low (readers_wait q) (readers_wait p) c.readers) = registers-Decides c.readers (readers_wait q) (readers_wait p) in
      let units : Decides (are_units_no_later b.profile c.others q p) Units = units-Decides b.profile c.others q p in
      let references : Decides (leb (references_wait q) (max (references_wait p) c.others)) (references_wait q ≤ max (references_wait p) c.others) = le-Decides (references_wait q) (max (references_wait p) c.others) in
      let stores : Decides (leb (stores_wait q) (max (stores_wait p) c.others)) (stores_wait q ≤ max (stores_wait p) c.others) = le-Decides (stores_wait q) (max (stores_wait p) c.others) in
      Decides-like (is_no_later b.profile c q p) from-parts to-parts (Decides-and _ _ (Decides-and _ _ (Decides-and _ _ (Decides-and _ _ (Decides-and _ _ (Decides-and _ _ slot phase) writers) readers) units) references) stores)

-- DOMINANCE

ahead-Decides : (c : Clamp) (b : Problem) (name at : List ℕ) → HaveDigits b.block → Decides (is_ahead c b name at) (DominatesBy c b name at)
ahead-Decides c b name at digits =
    let begins : Decides (is_beginning b.block at) (IsBeginning b.block at) = goes_on-Decides b.block [] at in
    let named : Decides (is_beginning b.block name) (IsBeginning b.block name) = goes_on-Decides b.block [] name in
    let same : Decides (is_same_set name at) (IsSameSet name at) = same_set-Decides name at in
    let late : Decides (is_no_later b.profile c (points_of b name) (points_of b at)) (IsNoLater b c (points_of b name) (points_of b at)) =
    no_later-Decides b c (points_of b name) (points_of b at) (low-points b name digits)
    in
    Decides-like (is_ahead c b name at)
    (λ h. record { begins = h.0.0.0; other_begins = h.0.0.1; same_set = h.0.1; no_later = h.1 })
    (λ (h : DominatesBy c b name at). (((h.begins, h.other_begins), h.same_set), h.no_later))
    (Decides-and _ _ (Decides-and _ _ (Decides-and _ _ begins named) same) late)

pub written-Decides : (b : Problem) (name at : List ℕ) → HaveDigits b.block → Decides (dominates_by WrittenEarlier b name at) (Dominates b name at)
written-Decides b name at digits =
    Decides-and (is_ahead no_clamp b name at) (leb (total_of b name) (total_of b at)) (ahead-Decides no_clamp b name at digits) (le-Decides (total_of b name) (total_of b at))

pub clamped-Decides : (b : Problem) (name at : List ℕ) → HaveDigits b.block → Decides (dominates_by ClampedStanding b name at) (DominatesClamped b name at)
clamped-Decides b name at digits = ahead-Decides (clamp_at (next (points_of b at))) b name at digits

-- THE DIGITS OF DOCUMENTS

idle-digits : HasDigits idle_instr
idle-digits = (omega arith, omega arith, omega arith)

text-digits : (text : List ℕ) → HasDigits (instr_in_text text)
text-digits text = spelled (instr_of (operation_in text) (operand_in text)) refl
  where
    spelled : (found : Option Instr) → instr_of (operation_in text) (operand_in text) ≡ found → HasDigits (instr_in_text text)
    spelled None e = rw e idle-digits
    spelled (Some n) e =
        let means : CanMean (operation_in text) n = CanMean-instr_of (operation_in text) (operand_in text) n e in
        rw e (means.digits.0, means.digits.1, means.digits.2)

texts-digits : (texts : List (List ℕ)) (i : ℕ) → HasDigits (get_or (map instr_in_text texts) i idle_instr)
texts-digits [] i = idle-digits
texts-digits (text ∷ texts) zero = text-digits text
texts-digits (text ∷ texts) (suc i) = texts-digits texts i

pub document-digits : (d : Document) → HaveDigits (problem_of d).block
document-digits d zero = idle-digits
document-digits d (suc i) = texts-digits d.block i
