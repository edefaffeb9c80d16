-- Where a string of characters ends, by how many bytes come before its mark.
use Rattle.std.specs.List.{prefix_len}
use Rattle.std.proofs.Common.{◌≡◌, ◌==◌, ◌+◌, ℕ, suc, true, false, not, cond, if◌then◌else◌, List, [], ◌∷◌, None, Some, length, nat_lt, refl, ap, ◌∙◌, inl, inr, arith, le-ltb, lt-ltb, option_map}
use Rattle.std.proofs.lemmas.Bool.{cases_lt}
use Rattle.s66_line.specs.{through}

within : (n count : ℕ) → option_map (λ k. suc k) (if nat_lt n count then Some (n + 1) else None) ≡ (if nat_lt (suc n) (suc count) then Some (suc n + 1) else None)
within n count =
    let one : suc (n + 1) ≡ suc n + 1 = omega arith in
    elim (cases_lt n count) [
      | inl less ↦ rw (lt-ltb n count less, lt-ltb (suc n) (suc count) (omega (arith, less))) (ap Some one)
      | inr least ↦ rw (le-ltb n count least, le-ltb (suc n) (suc count) (omega (arith, least))) refl
    ]

pub through_before : (mark : ℕ) (bytes : List ℕ) →
    through mark bytes ≡ (if nat_lt (prefix_len (λ b. not (b == mark)) bytes) (length bytes) then Some (prefix_len (λ b. not (b == mark)) bytes + 1) else None)
through_before mark [] = refl
through_before mark (b ∷ bytes) =
    let n = prefix_len (λ b. not (b == mark)) bytes in
    elim (b == mark) as (λ t. (if t then Some 1 else option_map (λ k. suc k) (through mark bytes)) ≡ (if nat_lt (cond (not t) (1 + n) 0) (suc (length bytes)) then Some (cond (not t) (1 + n) 0 + 1) else None))
    [ true ↦ rw (lt-ltb 0 (suc (length bytes)) (omega arith)) refl | false ↦ (let one : 1 + n ≡ suc n = omega arith in rw one (ap (option_map (λ k. suc k)) (through_before mark bytes) ∙ within n (length bytes))) ]
