-- What an escaped text has, whatever its bytes are (`escape_law`).
use Rattle.std.proofs.Common.{ℕ, ◌^◌, ◌<◌, ◌≡◌, true, List, [], ◌∷◌, arith, inl, inr, refl}
use Rattle.s66_isa.specs.{Among, every, rising}
use Rattle.s66_isa.proofs.Lists.{every-each, rising-among, every-append}
use Rattle.s66_views.specs.{digits, escaped, escaped_byte, escaped_lines, escaped_or_newline, is_harmless, is_harmless_or_newline, is_reference_or}

harmless-byte : (b : ℕ) → b < 2 ^ 8 → every is_harmless (escaped_byte b) ≡ true
unfolding digits
harmless-byte b lt = every-each (λ n. every is_harmless (escaped_byte n)) b (rising 256 0) refl (rising-among 256 0 b (omega arith) (omega arith))

harmless-newline : (b : ℕ) → b < 2 ^ 8 → every is_harmless_or_newline (escaped_or_newline b) ≡ true
unfolding digits
harmless-newline b lt = every-each (λ n. every is_harmless_or_newline (escaped_or_newline n)) b (rising 256 0) refl (rising-among 256 0 b (omega arith) (omega arith))

pub reference-byte : (b : ℕ) → b < 2 ^ 8 → is_reference_or b (escaped_byte b) ≡ true
unfolding digits
reference-byte b lt = every-each (λ n. is_reference_or n (escaped_byte n)) b (rising 256 0) refl (rising-among 256 0 b (omega arith) (omega arith))

pub harmless-text : (text : List ℕ) → ((b : ℕ) → Among b text → b < 2 ^ 8) → every is_harmless (escaped text) ≡ true
harmless-text [] bytes = refl
harmless-text (b ∷ text) bytes =
    every-append is_harmless (escaped_byte b) (escaped text) (harmless-byte b (bytes b (inl refl))) (harmless-text text (λ c among. bytes c (inr among)))

pub harmless-lines : (text : List ℕ) → ((b : ℕ) → Among b text → b < 2 ^ 8) → every is_harmless_or_newline (escaped_lines text) ≡ true
harmless-lines [] bytes = refl
harmless-lines (b ∷ text) bytes =
    every-append is_harmless_or_newline (escaped_or_newline b) (escaped_lines text) (harmless-newline b (bytes b (inl refl))) (harmless-lines text (λ c among. bytes c (inr among)))
