-- Between two times one unit has room for as many whole works as fit, so that all units have no more.
use Rattle.std.proofs.Common.{ℕ, zero, suc, ◌+◌, ◌-◌, ◌*◌, ◌≤◌, ◌≡◌, true, cond, max, min, List, [], ◌∷◌, arith, inl, inr, lt-ltb, le-leb}
use Rattle.std.proofs.lemmas.Bool.{cond-true, cond-false, cases_Bool, cases_lt}
use Rattle.s66_isa.specs.{Kind, weigh, tally, same_kind}
use Rattle.s66_model.specs.{Point}
use Rattle.s66_moments.proofs.UnitWindows.{works_at, work_between}

-- LOOKS: one at the last minor cycle of each of the first whole stretches from a on, which are v + 1 long

-- at so many of them it holds a unit of the kind
abbrev pub looks : Kind → (a v : ℕ) → ℕ → Point → ℕ
looks kind a v zero p = 0
looks kind a v (suc k) p = looks kind a v k p + cond (works_at kind (a + k * suc v + v) p) 1 0

-- at each look at most as many as there are
pub looks-le : (kind : Kind) (s : List Point) (c : ℕ) → ((t : ℕ) → tally (works_at kind t) s ≤ c) → (a v k : ℕ) → weigh (looks kind a v k) s ≤ c * k
looks-le kind s c most a v zero = omega (arith, none s)
  where
    none : (s : List Point) → weigh (looks kind a v 0) s ≡ 0
    none [] = omega arith
    none (p ∷ s) = omega (arith, none s)
looks-le kind s c most a v (suc k) =
    let more : c * suc k ≡ c * k + c = grind arith in
    omega (arith, more, parts s, looks-le kind s c most a v k, most (a + k * suc v + v))
  where
    parts : (s : List Point) → weigh (looks kind a v (suc k)) s ≡ weigh (looks kind a v k) s + tally (works_at kind (a + k * suc v + v)) s
    parts [] = omega arith
    parts (p ∷ s) = omega (arith, parts s)

-- what is held for v + 1 before the last stretch is over is held at a look
held-at_one : (kind : Kind) (a v k z : ℕ) (p : Point) → same_kind p.row.kind kind ≡ true → suc v ≤ min p.free z - max p.issue a → z ≤ a + k * suc v + v → 1 ≤ looks kind a v k p
held-at_one kind a v zero z p is held le = absurd (omega (arith, held, le))
held-at_one kind a v (suc k) z p is held le =
    let t : ℕ = a + k * suc v + v in
    let more : suc k * suc v ≡ k * suc v + suc v = grind arith in
    elim (cases_lt t p.issue) [
      | inl before ↦ absurd (omega (arith, held, le, more, before))
      | inr after ↦
          elim (cases_lt t p.free) [
            | inl busy ↦ rw (is, le-leb p.issue t after, lt-ltb t p.free busy) (omega arith)
            | inr free ↦ omega (arith, held-at_one kind a v k (min z t) p is (omega (arith, held, free)) (omega arith))
          ]
    ]

pub held-looked : (kind : Kind) (a v k z : ℕ) (p : Point) → suc v ≤ work_between kind a z p → z ≤ a + k * suc v + v → 1 ≤ looks kind a v k p
held-looked kind a v k z p held le =
    elim (cases_Bool (same_kind p.row.kind kind)) [
      | inl is ↦ held-at_one kind a v k z p is (omega (arith, held, cond-true {A = ℕ} (same_kind p.row.kind kind) (min p.free z - max p.issue a) 0 is)) le
      | inr is ↦ absurd (omega (arith, held, cond-false {A = ℕ} (same_kind p.row.kind kind) (min p.free z - max p.issue a) 0 is))
    ]
