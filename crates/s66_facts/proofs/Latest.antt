-- The latest of some times, taken in one after the other, as paths to a moment are gathered arc by arc.
use Rattle.std.proofs.Common.{ℕ, zero, suc, ◌-◌, ◌≤◌, ◌<◌, ◌≡◌, not, ◌&&◌, ◌==◌, Bool, true, false, cond, List, [], ◌∷◌, length, map, get_or, refl, sym, ap, arith, inl, inr, ◌∙◌, Option, Some, None}
use Rattle.std.proofs.Common.{eq-eqb, ne_eqb}
use Rattle.std.proofs.lemmas.Bool.{cases_eq}
use Rattle.s66_isa.specs.{Among, Instr, Profile, Row, row, numbers, instr_at, idle_instr, Set, has, numbers_in}
use Rattle.s66_isa.proofs.Lists.{rising-among}
use Rattle.s66_model.specs.{Problem}
use Rattle.s66_moments.specs.{IsNumber, later}
use Rattle.s66_moments.proofs.Spans.{height-same, height-later}
use Rattle.s66_facts.specs.{Times, no_times, later_times, gathered}

pub later-assoc : (o p q : Option ℕ) → later (later o p) q ≡ later o (later p q)
later-assoc o p q =
    height-same (later (later o p) q) (later o (later p q)) (omega (arith, height-later (later o p) q, height-later o p, height-later o (later p q), height-later p q))

pub later-none : (o : Option ℕ) → later o None ≡ o
later-none None = refl
later-none (Some w) = refl

pub times-assoc : (s t u : Times) → later_times (later_times s t) u ≡ later_times s (later_times t u)
times-assoc s t u =
    rw (later-assoc s.issue t.issue u.issue, later-assoc s.start t.start u.start, later-assoc s.free t.free u.free, later-assoc s.first t.first u.first, later-assoc s.second t.second u.second) refl

pub times-none : (t : Times) → later_times t no_times ≡ t
times-none t = rw (later-none t.issue, later-none t.start, later-none t.free, later-none t.first, later-none t.second) refl

later-swap : (o p q : Option ℕ) → later o (later p q) ≡ later p (later o q)
later-swap o p q =
    height-same (later o (later p q)) (later p (later o q)) (omega (arith, height-later o (later p q), height-later p q, height-later p (later o q), height-later o q))

later-twice : (o p : Option ℕ) → later o (later o p) ≡ later o p
later-twice o p = height-same (later o (later o p)) (later o p) (omega (arith, height-later o (later o p), height-later o p))

times-swap : (s t u : Times) → later_times s (later_times t u) ≡ later_times t (later_times s u)
times-swap s t u =
    rw (later-swap s.issue t.issue u.issue, later-swap s.start t.start u.start, later-swap s.free t.free u.free, later-swap s.first t.first u.first, later-swap s.second t.second u.second) refl

times-twice : (s t : Times) → later_times s (later_times s t) ≡ later_times s t
times-twice s t =
    rw (later-twice s.issue t.issue, later-twice s.start t.start, later-twice s.free t.free, later-twice s.first t.first, later-twice s.second t.second) refl

-- ONE NUMBER that passes, and the others

module _ (test rest : ℕ → Bool) (f : ℕ → Times) (m : ℕ) (marked : test m ≡ true) where
  abbrev part : Bool → ℕ → Times
  part passes k = cond {A = Times} passes (f k) no_times

  absorbed : (ns : List ℕ) → ((k : ℕ) → Among k ns → rest k ≡ (not (k == m) && test k)) → later_times (f m) (gathered test f ns) ≡ later_times (f m) (gathered rest f ns)
  absorbed [] each = refl
  absorbed (k ∷ ks) each =
      times-swap (f m) (part (test k) k) (gathered test f ks)
      ∙ (ap (λ t. later_times (part (test k) k) t) (absorbed ks (λ j among. each j (inr among)))
      ∙ (sym (times-swap (f m) (part (test k) k) (gathered rest f ks)) ∙ head (each k (inl refl))))
    where
      head : rest k ≡ (not (k == m) && test k) → later_times (f m) (later_times (part (test k) k) (gathered rest f ks)) ≡ later_times (f m) (later_times (part (rest k) k) (gathered rest f ks))
      head is =
          elim (cases_eq k m) [
            | inl same ↦
                let on : test k ≡ true = ap test same ∙ marked in
                let off : rest k ≡ false = is ∙ rw (eq-eqb k m same) refl in
                ap (λ p. later_times (f m) (later_times (part p k) (gathered rest f ks))) on
                ∙ (ap (λ i. later_times (f m) (later_times (f i) (gathered rest f ks))) same
                ∙ (times-twice (f m) (gathered rest f ks) ∙ ap (λ p. later_times (f m) (later_times (part p k) (gathered rest f ks))) (sym off)))
            | inr differ ↦
                let still : rest k ≡ test k = is ∙ rw (ne_eqb k m differ) refl in
                ap (λ p. later_times (f m) (later_times (part p k) (gathered rest f ks))) (sym still)
          ]

  has-one : (ns : List ℕ) → Among m ns → later_times (f m) (gathered test f ns) ≡ gathered test f ns
  has-one [] among = absurd among
  has-one (k ∷ ks) (inl here) =
      let on : part (test k) k ≡ f m = ap (λ i. part (test i) i) (sym here) ∙ ap (λ p. part p m) marked in
      ap (λ t. later_times (f m) (later_times t (gathered test f ks))) on ∙ (times-twice (f m) (gathered test f ks) ∙ ap (λ t. later_times t (gathered test f ks)) (sym on))
  has-one (k ∷ ks) (inr past) =
      times-swap (f m) (part (test k) k) (gathered test f ks) ∙ ap (λ t. later_times (part (test k) k) t) (has-one ks past)

  -- taken out
  pub gathered-out : (ns : List ℕ) → Among m ns → ((k : ℕ) → Among k ns → rest k ≡ (not (k == m) && test k)) → later_times (f m) (gathered rest f ns) ≡ gathered test f ns
  gathered-out ns among each = sym (absorbed ns each) ∙ has-one ns among

-- no number passes
pub gathered-none : (test : ℕ → Bool) (f : ℕ → Times) (ns : List ℕ) → ((k : ℕ) → test k ≡ false) → gathered test f ns ≡ no_times
gathered-none test f [] off = refl
gathered-none test f (k ∷ ks) off = ap (λ p. later_times (cond {A = Times} p (f k) no_times) (gathered test f ks)) (off k) ∙ gathered-none test f ks off

-- one more of those that are marked, of a block's numbers
pub gathered-next : (b : Problem) (old new : Set) (f : ℕ → Times) (m : ℕ) (latest whole : Times) → IsNumber b m → has m (numbers_in old) ≡ true →
    ((k : ℕ) → has k (numbers_in new) ≡ (not (k == m) && has k (numbers_in old))) → later_times latest (gathered (λ i. has i (numbers_in old)) f (numbers b.block)) ≡ whole →
    later_times (later_times latest (f m)) (gathered (λ i. has i (numbers_in new)) f (numbers b.block)) ≡ whole
gathered-next b old new f m latest whole is_m marked others is =
    times-assoc latest (f m) (gathered (λ i. has i (numbers_in new)) f (numbers b.block))
    ∙ (ap (λ t. later_times latest t) (gathered-out (λ i. has i (numbers_in old)) (λ i. has i (numbers_in new)) f m marked (numbers b.block) (rising-among (length b.block) 1 m is_m.0 (omega (arith, is_m.1))) (λ k among. others k)) ∙ is)

pub gathered-end : (b : Problem) (rest : Set) (f : ℕ → Times) (latest whole : Times) → ((k : ℕ) → has k (numbers_in rest) ≡ false) → later_times latest (gathered (λ i. has i (numbers_in rest)) f (numbers b.block)) ≡ whole → latest ≡ whole
gathered-end b rest f latest whole off is =
    sym (times-none latest) ∙ (ap (λ t. later_times latest t) (sym (gathered-none (λ i. has i (numbers_in rest)) f (numbers b.block) off)) ∙ is)

-- the row of a number
get_or-map : {X Y : Type 0} (f : X → Y) (xs : List X) (k : ℕ) (d : Y) (x : X) → k < length xs → get_or (map f xs) k d ≡ f (get_or xs k x)
get_or-map f [] k d x less = absurd (omega (arith, less))
get_or-map f (y ∷ ys) zero d x less = refl
get_or-map f (y ∷ ys) (suc k) d x less = get_or-map f ys k d x (omega (arith, less))

pub row-kept : (block : List Instr) (profile : Profile) (rows : List Row) (n : ℕ) (d : Row) → rows ≡ map (row profile) block → 1 ≤ n → n ≤ length block → get_or rows (n - 1) d ≡ row profile (instr_at block n)
row-kept block profile rows zero d is low high = absurd (omega (arith, low))
row-kept block profile rows (suc k) d is low high =
    ap (λ rs. get_or rs (suc k - 1) d) is ∙ (let same : suc k - 1 ≡ k = omega arith in ap (λ i. get_or (map (row profile) block) i d) same ∙ get_or-map (row profile) block k d idle_instr (omega (arith, high)))
