-- A text is its lines put together again, and a line its fields (`whole_law`).
use Rattle.std.proofs.Common.{◌≡◌, ◌==◌, ℕ, Bool, true, false, not, List, [], ◌∷◌, ◌++◌, refl, sym, ap, ap₂, ◌∙◌, append_assoc, if◌then◌else◌, eqb-true, append-nil}
use Rattle.std.proofs.lemmas.Bool.{and_from, and_parts}
use Rattle.s66_isa.specs.{every}
use Rattle.s66_line.specs.{last_line, lines_from, lines_of, is_newline, is_blank, skip_blanks, word, after_word, from_location, location, from_operation, operation, operand, label_bytes}
use Rattle.s66_line.specs.{with_newlines, AreLines, HasFields}
use Rattle.s66_line.proofs.LineCuts.{lines_from-here, lines_from-later}
use Rattle.s66_line.proofs.LineFields.{from_location-yes, from_location-no, label-yes, label-no}
use Rattle.s66_line.proofs.InstructionTexts.{is_no_blank, no_blank-word}

pub every-append : (test : ℕ → Bool) (xs ys : List ℕ) → every test xs ≡ true → every test ys ≡ true → every test (xs ++ ys) ≡ true
every-append test [] ys h k = k
every-append test (x ∷ xs) ys h k =
    let both = and_parts (test x) (every test xs) h in
    and_from (test x) (every test (xs ++ ys)) both.0 (every-append test xs ys both.1 k)

-- LINES

abbrev pub is_inside : ℕ → Bool
is_inside b = not (is_newline b)

abbrev AreInside : List (List ℕ) → Type 0
AreInside lines = every (every is_inside) lines ≡ true

last-inside : (line : List ℕ) → every is_inside line ≡ true → AreInside (last_line line)
last-inside [] h = refl
last-inside (b ∷ line) h = and_from (every is_inside (b ∷ line)) true h refl

inside-other : (b : ℕ) → (b == 10) ≡ false → every is_inside (b ∷ []) ≡ true
inside-other b stated = rw stated refl

-- the line that is begun has no newline, and so on with each byte

abbrev Whole : List ℕ → List ℕ → Type 0
Whole line text = AreLines (line ++ text) (lines_from line text)

whole-newline : (line bytes : List ℕ) (b : ℕ) → (b == 10) ≡ true → every is_inside line ≡ true → Whole [] bytes → Whole line (b ∷ bytes)
whole-newline line bytes b stated h rest = record {
  ended = line ∷ rest.ended;
  last = rest.last;
  whole = ap₂ (λ c more. line ++ c ∷ more) (eqb-true b 10 stated) rest.whole ∙ sym (append_assoc line (10 ∷ with_newlines rest.ended) rest.last);
  cut = lines_from-here line bytes b stated ∙ ap (λ lines. line ∷ lines) rest.cut;
  no_newline = rw (lines_from-here line bytes b stated) (and_from (every is_inside line) (every (every is_inside) (lines_from [] bytes)) h rest.no_newline);
}

whole-other : (line bytes : List ℕ) (b : ℕ) → (b == 10) ≡ false → Whole (line ++ b ∷ []) bytes → Whole line (b ∷ bytes)
whole-other line bytes b stated rest = record {
  ended = rest.ended;
  last = rest.last;
  whole = sym (append_assoc line (b ∷ []) bytes) ∙ rest.whole;
  cut = lines_from-later line bytes b stated ∙ rest.cut;
  no_newline = rw (lines_from-later line bytes b stated) rest.no_newline;
}

whole-step : (t : Bool) (line bytes : List ℕ) (b : ℕ) → (b == 10) ≡ t → every is_inside line ≡ true → Whole [] bytes → (every is_inside (line ++ b ∷ []) ≡ true → Whole (line ++ b ∷ []) bytes) → Whole line (b ∷ bytes)
whole-step true line bytes b stated h begin_run more = whole-newline line bytes b stated h begin_run
whole-step false line bytes b stated h begin_run more = whole-other line bytes b stated (more (every-append is_inside line (b ∷ []) h (inside-other b stated)))

whole-from : (line text : List ℕ) → every is_inside line ≡ true → Whole line text
whole-from line [] h = record { ended = []; last = line; whole = append-nil line; cut = refl; no_newline = last-inside line h }
whole-from line (b ∷ bytes) h = whole-step (b == 10) line bytes b refl h (whole-from [] bytes refl) (λ k. whole-from (line ++ b ∷ []) bytes k)

pub AreLines-lines_of : (text : List ℕ) → AreLines text (lines_of text)
AreLines-lines_of text = whole-from [] text refl

-- FIELDS

word-whole : (bytes : List ℕ) → bytes ≡ word bytes ++ after_word bytes
word-whole [] = refl
word-whole (b ∷ bytes) =
    elim (is_blank b) as (λ t. b ∷ bytes ≡ (if t then [] else b ∷ word bytes) ++ (if t then b ∷ bytes else after_word bytes))
    [ true ↦ refl | false ↦ ap (λ more. b ∷ more) (word-whole bytes) ]

-- the blanks in front
abbrev leading : List ℕ → List ℕ
leading [] = []
leading (b ∷ bytes) = if is_blank b then b ∷ leading bytes else []

blanks-whole : (bytes : List ℕ) → bytes ≡ leading bytes ++ skip_blanks bytes
blanks-whole [] = refl
blanks-whole (b ∷ bytes) =
    elim (is_blank b) as (λ t. b ∷ bytes ≡ (if t then b ∷ leading bytes else []) ++ (if t then skip_blanks bytes else b ∷ bytes))
    [ true ↦ ap (λ more. b ∷ more) (blanks-whole bytes) | false ↦ refl ]

leading-first : (t : Bool) (b : ℕ) (bytes : List ℕ) → is_blank b ≡ t → every is_blank (leading bytes) ≡ true → every is_blank (leading (b ∷ bytes)) ≡ true
leading-first true b bytes stated h = rw (stated, stated) h
leading-first false b bytes stated h = rw stated refl

leading-blank : (bytes : List ℕ) → every is_blank (leading bytes) ≡ true
leading-blank [] = refl
leading-blank (b ∷ bytes) = leading-first (is_blank b) b bytes refl (leading-blank bytes)

-- a word ends where a blank follows, or nothing
after-first : (t : Bool) (b : ℕ) (bytes : List ℕ) → is_blank b ≡ t → word (after_word bytes) ≡ [] → word (after_word (b ∷ bytes)) ≡ []
after-first true b bytes stated h = rw (stated, stated) refl
after-first false b bytes stated h = rw stated h

after-none : (bytes : List ℕ) → word (after_word bytes) ≡ []
after-none [] = refl
after-none (b ∷ bytes) = after-first (is_blank b) b bytes refl (after-none bytes)

label-by : (t : Bool) (b : ℕ) (bytes : List ℕ) → (b == 32) ≡ t → b ∷ bytes ≡ label_bytes (b ∷ bytes) ++ after_word (from_location (b ∷ bytes))
label-by true b bytes stated = rw (label-yes b bytes stated, from_location-yes b bytes stated) (ap₂ (λ c more. c ∷ more) (eqb-true b 32 stated) (word-whole bytes))
label-by false b bytes stated = rw (label-no b bytes stated, from_location-no b bytes stated) (word-whole (b ∷ bytes))

label-whole : (line : List ℕ) → line ≡ label_bytes line ++ after_word (from_location line)
label-whole [] = refl
label-whole (b ∷ bytes) = label-by (b == 32) b bytes refl

append-six : (a b c d e f : List ℕ) → a ++ (b ++ (c ++ (d ++ (e ++ f)))) ≡ a ++ b ++ c ++ d ++ e ++ f
append-six a b c d e f =
    sym (append_assoc (a ++ b ++ c ++ d) e f ∙ append_assoc (a ++ b ++ c) d (e ++ f) ∙ append_assoc (a ++ b) c (d ++ (e ++ f)) ∙ append_assoc a b (c ++ (d ++ (e ++ f))))

pub HasFields-all : (line : List ℕ) → HasFields line
HasFields-all line =
    let behind_location : List ℕ = after_word (from_location line) in
    let behind_operation : List ℕ = after_word (from_operation line) in
    let remark : List ℕ = after_word (skip_blanks behind_operation) in
    let no_blank : ℕ → Bool = is_no_blank in
    record {
      before_operation = leading behind_location;
      before_operand = leading behind_operation;
      remark = remark;
      whole =
          label-whole line
          ∙ ap (λ more. label_bytes line ++ more) (blanks-whole behind_location
          ∙ ap (λ more. leading behind_location ++ more) (word-whole (from_operation line)
          ∙ ap (λ more. operation line ++ more) (blanks-whole behind_operation
          ∙ ap (λ more. leading behind_operation ++ more) (word-whole (skip_blanks behind_operation)))))
          ∙ append-six (label_bytes line) (leading behind_location) (operation line) (leading behind_operation) (operand line) remark;
      blank = every-append is_blank (leading behind_location) (leading behind_operation) (leading-blank behind_location) (leading-blank behind_operation);
      words =
          every-append no_blank (location line ++ operation line) (operand line)
          (every-append no_blank (location line) (operation line) (no_blank-word (from_location line)) (no_blank-word (from_operation line)))
          (no_blank-word (skip_blanks behind_operation));
      ends = after-none (skip_blanks behind_operation);
    }
