-- The bytes of a text of a source and the characters of its JSON string determine one another (`bytes_law`).
use Rattle.std.proofs.Common.{ℕ, ◌+◌, ◌*◌, ◌-◌, ◌/◌, ◌%◌, ◌^◌, ◌≤◌, ◌<◌, ◌≡◌, ◌∙◌, List, [], ◌∷◌, ◌++◌, ap, ap₂, arith, inl, inr, nat_lt, refl, le-ltb, lt-ltb, div-add-mod'}
use Rattle.std.proofs.lemmas.Bool.{cond-true, cond-false}
use Rattle.s66_isa.specs.{Among}
use Rattle.s66_isa.proofs.Lists.{cases_le}
use Rattle.s66_views.specs.{characters, bytes_in}

one-byte : (b : ℕ) (more : List ℕ) → b < 128 → bytes_in (b ∷ more) ≡ b ∷ bytes_in more
one-byte b [] lt = refl
one-byte b (c ∷ more) lt = cond-true (nat_lt b 128) (b ∷ bytes_in (c ∷ more)) ((64 * (b - 192) + (c - 128)) ∷ bytes_in more) (lt-ltb b 128 lt)

two-bytes : (b c : ℕ) (more : List ℕ) → 128 ≤ b → bytes_in (b ∷ (c ∷ more)) ≡ (64 * (b - 192) + (c - 128)) ∷ bytes_in more
two-bytes b c more le = cond-false (nat_lt b 128) (b ∷ bytes_in (c ∷ more)) ((64 * (b - 192) + (c - 128)) ∷ bytes_in more) (le-ltb b 128 le)

pub bytes-characters : (text : List ℕ) → ((b : ℕ) → Among b text → b < 2 ^ 8) → bytes_in (characters text) ≡ text
bytes-characters [] small = refl
bytes-characters (b ∷ text) small =
    let rest : bytes_in (characters text) ≡ text = bytes-characters text (λ c among. small c (inr among)) in
    let pair : List ℕ = (192 + b / 64) ∷ (128 + b % 64) ∷ [] in
    elim (cases_le 128 b) [
      | inr lt ↦ ap (λ t. bytes_in (t ++ characters text)) (cond-true (nat_lt b 128) (b ∷ []) pair (lt-ltb b 128 lt)) ∙ one-byte b (characters text) lt ∙ ap (λ t. b ∷ t) rest
      | inl le ↦
          let value : 64 * (192 + b / 64 - 192) + (128 + b % 64 - 128) ≡ b = omega (arith, div-add-mod' b 64) in
          ap (λ t. bytes_in (t ++ characters text)) (cond-false (nat_lt b 128) (b ∷ []) pair (le-ltb b 128 le))
          ∙ two-bytes (192 + b / 64) (128 + b % 64) (characters text) (omega arith) ∙ ap₂ (λ n t. n ∷ t) value rest
    ]
