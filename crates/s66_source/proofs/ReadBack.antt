-- A line that is printed as it was read is read as it was: its class, and what its end loses (`copied_law`).
use Rattle.std.proofs.Common.{◌≡◌, ◌&&◌, not, ℕ, Bool, true, false, if◌then◌else◌, List, [], ◌∷◌, ◌++◌, refl, sym, ap, ◌∙◌, append_assoc, subst, append-nil}
use Rattle.std.proofs.lemmas.Bool.{and_parts, not-true}
use Rattle.s66_isa.specs.{every}
use Rattle.s66_line.specs.{trim, body, is_return, is_newline, is_comment, continues, lines_from, lines_of, from_operation, class_of, by_operation, is_located, Class, Comment, Other, Refused}
use Rattle.s66_line.proofs.LineCuts.{lines_from-here, lines_from-later}

pub trim-all : (test : ℕ → Bool) (bytes : List ℕ) → every test bytes ≡ true → trim test bytes ≡ []
trim-all test [] h = refl
trim-all test (b ∷ bytes) h = rw h refl

pub trim-kept : (test : ℕ → Bool) (b : ℕ) (bytes : List ℕ) → every test (b ∷ bytes) ≡ false → trim test (b ∷ bytes) ≡ b ∷ trim test bytes
trim-kept test b bytes h = rw h refl

-- BY A NARROWER TEST nothing more is cut off
module _ (test wide : ℕ → Bool) (within : (b : ℕ) → test b ≡ true → wide b ≡ true) where
  -- what is left of bytes that do not pass does not pass
  pub every-trim : (bytes : List ℕ) → every wide bytes ≡ false → every test (trim wide bytes) ≡ false
  every-trim [] h = cc
  every-trim (b ∷ bytes) h = rw h (by_first (test b) refl h (every-trim bytes))
    where
      by_first : (t : Bool) → test b ≡ t → (wide b && every wide bytes) ≡ false → (every wide bytes ≡ false → every test (trim wide bytes) ≡ false) → (t && every test (trim wide bytes)) ≡ false
      by_first true stated h later = later (subst (λ w. (w && every wide bytes) ≡ false) (within b stated) h)
      by_first false stated h later = refl

  pub trim-within : (bytes : List ℕ) → trim test (trim wide bytes) ≡ trim wide bytes
  trim-within [] = refl
  trim-within (b ∷ bytes) = by_all (every wide (b ∷ bytes)) refl (trim-within bytes)
    where
      by_all : (t : Bool) → every wide (b ∷ bytes) ≡ t → trim test (trim wide bytes) ≡ trim wide bytes → trim test (if t then [] else b ∷ trim wide bytes) ≡ (if t then [] else b ∷ trim wide bytes)
      by_all true stated later = refl
      by_all false stated later =
          trim-kept test b (trim wide bytes) (ap (every test) (sym (trim-kept wide b bytes stated)) ∙ every-trim (b ∷ bytes) stated) ∙ ap (λ bs. b ∷ bs) later

pub trim-twice : (test : ℕ → Bool) (bytes : List ℕ) → trim test (trim test bytes) ≡ trim test bytes
trim-twice test bytes = trim-within test test (λ b is. is) bytes

abbrev pub class_of_body : Bool → List ℕ → Class
class_of_body after line =
    if is_comment line then Comment
    else (if continues line then (if after then Refused else Other) else by_operation (is_located line) (from_operation line))

-- a line without the carriage returns at its end is of the same class
pub class_of-body : (after : Bool) (line : List ℕ) → class_of after (body line) ≡ class_of after line
class_of-body after line = ap (class_of_body after) (trim-twice is_return line)

lines_from-line : (begun line text : List ℕ) → every (λ b. not (is_newline b)) line ≡ true → lines_from begun (line ++ 10 ∷ text) ≡ (begun ++ line) ∷ lines_from [] text
lines_from-line begun [] text h = lines_from-here begun text 10 refl ∙ ap (λ line. line ∷ lines_from [] text) (sym (append-nil begun))
lines_from-line begun (b ∷ line) text h =
    let both = and_parts (not (is_newline b)) (every (λ b. not (is_newline b)) line) h in
    lines_from-later begun (line ++ 10 ∷ text) b (not-true (is_newline b) both.0)
    ∙ lines_from-line (begun ++ b ∷ []) line text both.1
    ∙ ap (λ first. first ∷ lines_from [] text) (append_assoc begun (b ∷ []) line)

-- it is cut at its newline
pub lines_of-line : (line text : List ℕ) → every (λ b. not (is_newline b)) line ≡ true → lines_of (line ++ 10 ∷ text) ≡ line ∷ lines_of text
lines_of-line line text h = lines_from-line [] line text h
