-- A register that is done after the next slot is one that the block writes.
use Rattle.std.proofs.Common.{ℕ, ◌+◌, ◌<◌, ◌≡◌, true, cond, max, List, [], ◌∷◌, ◌++◌, map, refl, subst, arith, inl, inr}
use Rattle.std.proofs.lemmas.Bool.{cases_Bool, cond-false}
use Rattle.s66_isa.specs.{Reg, greatest, Among, Write, has_reg, same_reg}
use Rattle.s66_isa.proofs.Lists.{cases_le}
use Rattle.s66_isa.proofs.SameRegister.{same_reg-true}
use Rattle.s66_model.specs.{Problem, Point, ResultAt, row_at, done_at, done_of, readers_wait, result_at, start_of, point, point_of, points_after, GoesOn, IsBeginning, HasLate, HasWritten}
use Rattle.s66_model.proofs.LegalOrders.{ready-parts}

writes-in : (xs : List Reg) (x : Reg) (s : List Point) (start : ℕ) (ws : List Write) → ((w : Write) → Among w ws → has_reg w.reg xs ≡ true) →
    0 < greatest (λ (d : ResultAt). cond (same_reg d.reg x) d.time 0) (map (result_at s start) ws) → has_reg x xs ≡ true
writes-in xs x s start [] h lt = absurd (omega arith)
writes-in xs x s start (w ∷ ws) h lt =
    elim (cases_Bool (same_reg w.reg x)) [
      | inl is ↦ subst (λ r. has_reg r xs ≡ true) (same_reg-true w.reg x is) (h w (inl refl))
      | inr off ↦ writes-in xs x s start ws (λ v among. h v (inr among)) (omega (arith, lt, cond-false {A = ℕ} (same_reg w.reg x) (max (start + w.latency) (readers_wait s w.reg)) 0 off))
    ]

point-late : (b : Problem) (xs : List Reg) (s : List Point) (n : ℕ) (x : Reg) → ((w : Write) → Among w (row_at b n).writes → has_reg w.reg xs ≡ true) → 0 < done_at (point_of b s n) x → has_reg x xs ≡ true
unfolding point
point-late b xs s n x covers lt = writes-in xs x s (start_of b s (row_at b n)) (row_at b n).writes covers lt

run-late : (b : Problem) (xs : List Reg) (x : Reg) → HasWritten b xs → (s : List Point) (prefix rest : List ℕ) → (0 < done_of s x → has_reg x xs ≡ true) → GoesOn b.block prefix rest → 0 < done_of (points_after b s rest) x → has_reg x xs ≡ true
run-late b xs x covers s prefix [] h goes lt = h lt
run-late b xs x covers s prefix (n ∷ rest) h goes lt =
    let (low, high, new, met) = ready-parts b.block prefix n goes.0 in
    run-late b xs x covers (point_of b s n ∷ s) (prefix ++ n ∷ []) rest
    (λ some. elim (cases_le (done_at (point_of b s n) x) 0) [
      | inl none ↦ h (omega (arith, some, none))
      | inr here ↦ point-late b xs s n x (covers n low high) here
    ])
    goes.1 lt

pub has-late : (b : Problem) (prefix : List ℕ) (xs : List Reg) → HasWritten b xs → IsBeginning b.block prefix → HasLate b prefix xs
has-late b prefix xs covers begins x lt = run-late b xs x covers [] [] prefix (λ some. absurd (omega (arith, some))) begins (omega (arith, lt))
