-- The words of a clock are early enough for a mark, which keeps the latest free times of each kind.
use Rattle.std.proofs.Common.{ℕ, suc, ◌+◌, ◌^◌, ◌≤◌, ◌<◌, ◌≡◌, ◌∙◌, Bool, cond, max, min, List, [], ◌∷◌, length, get_or, refl, sym, ap, arith, inl, inr, leb, ltb}
use Rattle.std.proofs.lemmas.Bool.{cases_Bool, cond_both}
use Rattle.std.proofs.Math.ListN.{get_or-eq_default}
use Rattle.s66_isa.specs.{greatest, tally, weigh, rising, register_at, register_at-index, Row, copies_of, has_reg, touches, stores, same_kind, kind_of, idle_instr, Kind, Profile}
use Rattle.s66_isa.specs.Table.{Instr, Reg}
use Rattle.s66_isa.proofs.Lists.{greatest-le-greatest}
use Rattle.s66_isa.proofs.RegisterBits.{register_at-digit}
use Rattle.s66_model.specs.{Problem, Point, row_at, point_of, points_after, points_of, total, done_of, readers_wait, copies, insert_falling, free_times, IsBeginning}
use Rattle.s66_model.proofs.FreeTimes.{Falling, busy-later, free_times-falling, busy-places}
use Rattle.s66_model.proofs.Issue.{done_of-le-total}
use Rattle.s66_model.proofs.LegalOrders.{sum_remaining-run}
use Rattle.s66_model.proofs.PointTimes.{point_of-row}
use Rattle.s66_time.specs.{IsWords, InTurn, Tells, kept_of, AreFalling, AreLatest, first_unit, units_of, Words}
use Rattle.s66_time.proofs.ClockPoints.{unit-greatest, units-small}
use Rattle.s66_time.proofs.RowsOfBlock.{row-kind}

-- EARLY

pub waits-le : (s : List Point) (test : Point → Bool) → InTurn s → greatest (λ (p : Point). cond (test p) (p.start + 1) 0) s ≤ total s
waits-le s test turn =
    omega (arith, turn.starts, greatest-le-greatest (λ (p : Point). cond (test p) (p.start + 1) 0) (λ (p : Point). max p.issue p.start + 1) (λ p. cond_both (test p) (p.start + 1) 0 (λ k. k ≤ max p.issue p.start + 1) (λ _. omega arith) (λ _. omega arith)) s)

register-word : (words : List ℕ) (f : Reg → ℕ) (i : ℕ) → Tells words f → i < 24 → get_or words i 0 ≡ f (register_at i)
register-word words f i tells lt = ap (λ k. get_or words k 0) (sym (register_at-index i lt)) ∙ tells (register_at i) (register_at-digit i)

module _ (p : Profile) (s : List Point) (w : Words) (is : IsWords p s w) (turn : InTurn s) where
  pub early-done : (i : ℕ) → i < 24 → get_or w.done.words i 0 < 2 ^ 16
  early-done i lt = omega (arith, register-word w.done.words (done_of s) i is.done lt, done_of-le-total s (register_at i), turn.early)

  pub early-read : (i : ℕ) → i < 24 → get_or w.read.words i 0 < 2 ^ 16
  early-read i lt =
      omega (arith, register-word w.read.words (readers_wait s) i is.read lt, waits-le s (λ (q : Point). has_reg (register_at i) q.row.reads) turn, turn.early)

  pub early-refs : w.progress.refs < 2 ^ 16
  early-refs = omega (arith, is.refs, waits-le s (λ (q : Point). touches q.row.memory) turn, turn.early)

  pub early-stores : w.progress.stores < 2 ^ 16
  early-stores = omega (arith, is.stores, waits-le s (λ (q : Point). stores q.row.memory) turn, turn.early)

  pub early-units : (kind : Kind) (i : ℕ) → i < copies_of p kind → get_or w.units.words (first_unit kind + i) 0 < 2 ^ 16
  early-units kind i lt =
      omega (arith, unit-greatest p kind w.units.words (first_unit kind + i) i refl lt, units-small p s w kind is, turn.early)

-- THE LATEST ARE THE FREE TIMES

head-greatest : (xs : List ℕ) → Falling xs → greatest (λ w. w) xs ≤ get_or xs 0 0
head-greatest [] f = omega arith
head-greatest (x ∷ xs) f = omega (arith, f.0)

fall-falling : (xs : List ℕ) → AreFalling xs → Falling xs
fall-falling [] h = tt
fall-falling (x ∷ xs) h =
    let rest : Falling xs = fall-falling xs (λ i. (let next : suc i + 1 ≡ suc (i + 1) = omega arith in omega (arith, h (suc i), ap (λ k. get_or (x ∷ xs) k 0) next))) in
    (omega (arith, head-greatest xs rest, h 0), rest)

pub latest-free : (p : Profile) (s : List Point) (w : Words) (kind : Kind) (count : ℕ) (latest : List ℕ) → IsWords p s w → count ≤ copies_of p kind → AreLatest count (units_of p kind w.units.words) latest →
    (i : ℕ) → i < count → get_or latest i 0 ≡ get_or (free_times kind s) i 0
latest-free p s w kind count latest is few kept i lt =
    let free = free_times kind s in
    let same : (t : ℕ) → min count (tally (λ x. ltb t x) free) ≡ min count (tally (λ x. ltb t x) latest) = λ t. omega (arith, kept.counted t, is.units kind t, busy-later kind t s, few) in
    let falling = fall-falling latest kept.falling in
    omega (
      arith,
      busy-places count 0 latest free falling (free_times-falling kind s) (λ t le. omega (arith, same t)) i lt,
      busy-places count 0 free latest (free_times-falling kind s) falling (λ t le. omega (arith, same t)) i lt,
    )

-- THERE ARE NO MORE FREE TIMES THAN INSTRUCTIONS

insert-length : (t : ℕ) (us : List ℕ) → length (insert_falling t us) ≡ suc (length us)
insert-length t [] = refl
insert-length t (u ∷ us) =
    elim (cases_Bool (leb u t)) [
      | inl is ↦ rw is refl
      | inr is ↦ rw is (omega (arith, insert-length t us))
    ]

free-length : (kind : Kind) (s : List Point) → length (free_times kind s) ≡ tally (λ (p : Point). same_kind p.row.kind kind) s
free-length kind [] = refl
free-length kind (p ∷ s) =
    elim (cases_Bool (same_kind p.row.kind kind)) [
      | inl is ↦ rw is (omega (arith, insert-length p.free (free_times kind s), free-length kind s))
      | inr is ↦ rw is (omega (arith, free-length kind s))
    ]

abbrev counts : Problem → Kind → ℕ → ℕ
counts b kind n = cond (same_kind (row_at b n).kind kind) 1 0

points-counted : (b : Problem) (kind : Kind) (s : List Point) (ns : List ℕ) → tally (λ (p : Point). same_kind p.row.kind kind) (points_after b s ns) ≡ tally (λ (p : Point). same_kind p.row.kind kind) s + weigh (counts b kind) ns
points-counted b kind s [] = omega arith
points-counted b kind s (n ∷ ns) =
    omega (arith, points-counted b kind (point_of b s n ∷ s) ns, ap (λ (r : Row). cond {A = ℕ} (same_kind r.kind kind) 1 0) (point_of-row b s n))

numbers-counted : (f : Instr → ℕ) (g : ℕ → ℕ) (rest : List Instr) (low : ℕ) → ((i : ℕ) → i < length rest → g (low + i) ≡ f (get_or rest i idle_instr)) → weigh g (rising (length rest) low) ≡ weigh f rest
numbers-counted f g [] low h = refl
numbers-counted f g (x ∷ rest) low h =
    let first : low + 0 ≡ low = omega arith in
    omega (
      arith,
      ap g first,
      h 0 (omega arith),
      numbers-counted f g rest (suc low) (λ i lt. (let next : suc low + i ≡ low + suc i = omega arith in ap g next ∙ h (suc i) (omega (arith, lt)))),
    )

tally-weigh : (kind : Kind) (block : List Instr) → tally (λ (i : Instr). same_kind (kind_of i.op.code) kind) block ≡ weigh (λ (i : Instr). cond (same_kind (kind_of i.op.code) kind) 1 0) block
tally-weigh kind [] = refl
tally-weigh kind (i ∷ block) = omega (arith, tally-weigh kind block)

row-counted : (b : Problem) (kind : Kind) (k : ℕ) → counts b kind (1 + k) ≡ cond (same_kind (kind_of (get_or b.block k idle_instr).op.code) kind) 1 0
row-counted b kind k =
    let next : 1 + k ≡ suc k = omega arith in
    ap (counts b kind) next ∙ ap (λ (own : Kind). cond {A = ℕ} (same_kind own kind) 1 0) (row-kind b.profile (get_or b.block k idle_instr))

pub none-free : (b : Problem) (ns : List ℕ) (kind : Kind) (i : ℕ) → IsBeginning b.block ns → kept_of b kind ≤ i → i < copies b kind → get_or (free_times kind (points_of b ns)) i 0 ≡ 0
none-free b ns kind i begins past within =
    let free = free_times kind (points_of b ns) in
    let block : weigh (counts b kind) (rising (length b.block) 1) ≡ weigh (λ (x : Instr). cond (same_kind (kind_of x.op.code) kind) 1 0) b.block =
    numbers-counted (λ (x : Instr). cond (same_kind (kind_of x.op.code) kind) 1 0) (counts b kind) b.block 1 (λ k lt. row-counted b kind k) in
    get_or-eq_default free 0 {n = i} (omega (arith, free-length kind (points_of b ns), points-counted b kind [] ns, sum_remaining-run b.block (counts b kind) [] ns begins, block, tally-weigh kind b.block, past, within))
