-- Characters that go on behind an operand's blank, in upper case, and without what ends their line.
use Rattle.std.proofs.Common.{◌≡◌, ◌==◌, ◌&&◌, ℕ, zero, suc, Bool, true, false, not, if◌then◌else◌, List, [], ◌∷◌, Option, None, Some, ◌<◌, drop, take, eqb-true, lit<, refl, sym, ap, ap₂, ◌∙◌}
use Rattle.std.proofs.Common.{true≢false, option_map}
use Rattle.std.proofs.lemmas.Bool.{and_parts, and_from}
use Rattle.s66_isa.specs.{every, Instr}
use Rattle.s66_line.specs.{begins_blank, characters_in, cut, is_cut, place_after, rest_in, runs_on, still_taken, taken_in, through, after_word, is_trailing, skip_blanks, trim, upper, word, Spells}
use Rattle.s66_line.specs.{operand_in, operation_in, Place, AtTerm, InTerm, InCount, AtEquals, AtLetter, InCharacters, InSlashes, InStars}
use Rattle.s66_line.proofs.UpperCase.{blank-kept, kept, upper-after_word, upper-skip_blanks, upper-twice, upper-word}
use Rattle.s66_source.proofs.ReadBack.{trim-kept, trim-all}

-- bytes that spell an instruction which isn't cut where its operand goes on
abbrev pub SpellsAll : List ℕ → Instr → Type 0
SpellsAll bytes n = Spells bytes n × (runs_on bytes ≡ false)

-- IN UPPER CASE

pub same-operation_in : (bytes : List ℕ) → operation_in (upper bytes) ≡ operation_in bytes
same-operation_in bytes = ap upper (upper-word bytes) ∙ upper-twice (word bytes)

pub upper-next : (bytes : List ℕ) → skip_blanks (after_word (upper bytes)) ≡ upper (skip_blanks (after_word bytes))
upper-next bytes = ap skip_blanks (upper-after_word bytes) ∙ upper-skip_blanks (after_word bytes)

pub same-operand_in : (bytes : List ℕ) → operand_in (upper bytes) ≡ operand_in bytes
same-operand_in bytes = ap (λ bs. upper (word bs)) (upper-next bytes) ∙ same-operation_in (skip_blanks (after_word bytes))

upper-rest : (bytes : List ℕ) → rest_in (upper bytes) ≡ upper (rest_in bytes)
upper-rest bytes = ap after_word (upper-next bytes) ∙ upper-after_word (skip_blanks (after_word bytes))

same-through : (mark : ℕ) (rest : List ℕ) → mark < 65 → through mark (upper rest) ≡ through mark rest
same-through mark [] low = refl
same-through mark (b ∷ rest) low = rw (kept b mark low, same-through mark rest low) refl

same-taken : (place : Place) (rest : List ℕ) → still_taken place (upper rest) ≡ still_taken place rest
same-taken AtTerm rest = refl
same-taken InTerm rest = refl
same-taken (InCount n) rest = refl
same-taken AtEquals rest = refl
same-taken AtLetter rest = refl
same-taken (InCharacters n) rest = refl
same-taken InSlashes rest = same-through 47 rest (lit< tt)
same-taken InStars rest = same-through 42 rest (lit< tt)

same-cut : (taken : Option ℕ) (rest : List ℕ) → is_cut taken (upper rest) ≡ is_cut taken rest
same-cut None rest = refl
same-cut (Some n) rest = ap not (same-blank n rest)
  where
    same-blank : (n : ℕ) (rest : List ℕ) → begins_blank (drop n (upper rest)) ≡ begins_blank (drop n rest)
    same-blank zero [] = refl
    same-blank zero (b ∷ rest) = blank-kept b
    same-blank (suc n) [] = refl
    same-blank (suc n) (b ∷ rest) = same-blank n rest

pub same-runs_on : (bytes : List ℕ) → runs_on (upper bytes) ≡ runs_on bytes
same-runs_on bytes =
    ap₂ (λ operand rest. is_cut (still_taken (place_after AtTerm operand) rest) rest) (same-operand_in bytes) (upper-rest bytes)
    ∙ ap (λ taken. is_cut taken (upper (rest_in bytes))) (same-taken (place_after AtTerm (operand_in bytes)) (rest_in bytes))
    ∙ same-cut (taken_in bytes) (rest_in bytes)

-- WITHOUT THE TRAILING BYTES of what follows an operand

abbrev all : List ℕ → Bool
all rest = every is_trailing rest

no-mark : (mark : ℕ) (rest : List ℕ) → is_trailing mark ≡ false → all rest ≡ true → through mark rest ≡ None
no-mark mark [] other h = refl
no-mark mark (b ∷ rest) other h = by_mark (b == mark) refl (no-mark mark rest other (and_parts (is_trailing b) (all rest) h).1)
  where
    by_mark : (t : Bool) → (b == mark) ≡ t → through mark rest ≡ None → (if t then Some 1 else option_map (λ n. suc n) (through mark rest)) ≡ None
    by_mark true stated later = absurd (true≢false (sym (and_parts (is_trailing b) (all rest) h).0 ∙ ap is_trailing (eqb-true b mark stated) ∙ other))
    by_mark false stated later = ap (option_map (λ n. suc n)) later

through-trimmed : (mark : ℕ) (rest : List ℕ) → is_trailing mark ≡ false → through mark (trim is_trailing rest) ≡ through mark rest
through-trimmed mark [] other = refl
through-trimmed mark (b ∷ rest) other = by_all (all (b ∷ rest)) refl (through-trimmed mark rest other)
  where
    by_all : (t : Bool) → all (b ∷ rest) ≡ t → through mark (trim is_trailing rest) ≡ through mark rest → through mark (trim is_trailing (b ∷ rest)) ≡ through mark (b ∷ rest)
    by_all true stated later = ap (through mark) (trim-all is_trailing (b ∷ rest) stated) ∙ sym (no-mark mark (b ∷ rest) other stated)
    by_all false stated later = ap (through mark) (trim-kept is_trailing b rest stated) ∙ ap (λ more. if b == mark then Some 1 else option_map (λ n. suc n) more) later

taken-trimmed : (place : Place) (rest : List ℕ) → still_taken place (trim is_trailing rest) ≡ still_taken place rest
taken-trimmed AtTerm rest = refl
taken-trimmed InTerm rest = refl
taken-trimmed (InCount n) rest = refl
taken-trimmed AtEquals rest = refl
taken-trimmed AtLetter rest = refl
taken-trimmed (InCharacters n) rest = refl
taken-trimmed InSlashes rest = through-trimmed 47 rest refl
taken-trimmed InStars rest = through-trimmed 42 rest refl

-- a blank or nothing stands behind them still
blank-trimmed : (n : ℕ) (rest : List ℕ) → begins_blank (drop n rest) ≡ true → begins_blank (drop n (trim is_trailing rest)) ≡ true
blank-trimmed zero [] h = refl
blank-trimmed (suc n) [] h = refl
blank-trimmed n (b ∷ rest) h = by_all (all (b ∷ rest)) refl (λ m. blank-trimmed m rest) n h
  where
    by_all : (t : Bool) → all (b ∷ rest) ≡ t → ((m : ℕ) → begins_blank (drop m rest) ≡ true → begins_blank (drop m (trim is_trailing rest)) ≡ true) → (n : ℕ) → begins_blank (drop n (b ∷ rest)) ≡ true → begins_blank (drop n (trim is_trailing (b ∷ rest))) ≡ true
    by_all true stated later zero h = ap begins_blank (trim-all is_trailing (b ∷ rest) stated)
    by_all true stated later (suc n) h = ap (λ bs. begins_blank (drop (suc n) bs)) (trim-all is_trailing (b ∷ rest) stated)
    by_all false stated later zero h = ap begins_blank (trim-kept is_trailing b rest stated) ∙ h
    by_all false stated later (suc n) h = ap (λ bs. begins_blank (drop (suc n) bs)) (trim-kept is_trailing b rest stated) ∙ later n h

ended : (t : Bool) → not t ≡ false → t ≡ true
ended true h = refl
ended false h = cc

cut-trimmed : (taken : Option ℕ) (rest : List ℕ) → is_cut taken rest ≡ false → is_cut taken (trim is_trailing rest) ≡ false
cut-trimmed None rest h = h
cut-trimmed (Some n) rest h = ap not (blank-trimmed n rest (ended (begins_blank (drop n rest)) h))

-- THE CHARACTERS are the same

abbrev is_none : List ℕ → Bool
is_none [] = true
is_none (b ∷ bytes) = false

all-none : (bytes : List ℕ) → all bytes ≡ is_none (trim is_trailing bytes)
all-none [] = refl
all-none (b ∷ bytes) = by_all (all (b ∷ bytes)) refl
  where
    by_all : (t : Bool) → all (b ∷ bytes) ≡ t → all (b ∷ bytes) ≡ is_none (trim is_trailing (b ∷ bytes))
    by_all true stated = stated ∙ ap is_none (sym (trim-all is_trailing (b ∷ bytes) stated))
    by_all false stated = stated ∙ ap is_none (sym (trim-kept is_trailing b bytes stated))

trim-first : (b : ℕ) (bytes other : List ℕ) → trim is_trailing bytes ≡ trim is_trailing other → trim is_trailing (b ∷ bytes) ≡ trim is_trailing (b ∷ other)
trim-first b bytes other same =
    ap₂ (λ none rest. if is_trailing b && none then [] else b ∷ rest) (all-none bytes ∙ ap is_none same ∙ sym (all-none other)) same

all-take : (n : ℕ) (rest : List ℕ) → all rest ≡ true → all (take n rest) ≡ true
all-take zero [] h = refl
all-take zero (b ∷ rest) h = refl
all-take (suc n) [] h = refl
all-take (suc n) (b ∷ rest) h =
    let both = and_parts (is_trailing b) (all rest) h in
    and_from (is_trailing b) (all (take n rest)) both.0 (all-take n rest both.1)

take-trimmed : (n : ℕ) (rest : List ℕ) → trim is_trailing (take n (trim is_trailing rest)) ≡ trim is_trailing (take n rest)
take-trimmed zero [] = refl
take-trimmed (suc n) [] = refl
take-trimmed n (b ∷ rest) = by_all (all (b ∷ rest)) refl (λ m. take-trimmed m rest) n
  where
    none : (n : ℕ) → trim is_trailing (take {A = ℕ} n []) ≡ []
    none zero = refl
    none (suc n) = refl

    by_all : (t : Bool) → all (b ∷ rest) ≡ t → ((m : ℕ) → trim is_trailing (take m (trim is_trailing rest)) ≡ trim is_trailing (take m rest)) → (n : ℕ) → trim is_trailing (take n (trim is_trailing (b ∷ rest))) ≡ trim is_trailing (take n (b ∷ rest))
    by_all true stated later n =
        ap (λ bs. trim is_trailing (take n bs)) (trim-all is_trailing (b ∷ rest) stated) ∙ none n ∙ sym (trim-all is_trailing (take n (b ∷ rest)) (all-take n (b ∷ rest) stated))
    by_all false stated later zero = ap (λ bs. trim is_trailing (take zero bs)) (trim-kept is_trailing b rest stated)
    by_all false stated later (suc n) =
        ap (λ bs. trim is_trailing (take (suc n) bs)) (trim-kept is_trailing b rest stated) ∙ trim-first b (take n (trim is_trailing rest)) (take n rest) (later n)

characters-trimmed : (taken : Option ℕ) (rest : List ℕ) → cut taken (trim is_trailing rest) ≡ cut taken rest
characters-trimmed None rest = refl
characters-trimmed (Some n) rest = ap upper (take-trimmed n rest)

-- OF ALL BYTES, by what is known of their operand and of what follows it

pub whole-trimmed : (bytes other : List ℕ) → operand_in other ≡ operand_in bytes → rest_in other ≡ trim is_trailing (rest_in bytes) → runs_on bytes ≡ false → runs_on other ≡ false
whole-trimmed bytes other operand rest h =
    ap₂ (λ o r. is_cut (still_taken (place_after AtTerm o) r) r) operand rest
    ∙ ap (λ taken. is_cut taken (trim is_trailing (rest_in bytes))) (taken-trimmed (place_after AtTerm (operand_in bytes)) (rest_in bytes))
    ∙ cut-trimmed (taken_in bytes) (rest_in bytes) h

pub characters_in-trimmed : (bytes other : List ℕ) → operand_in other ≡ operand_in bytes → rest_in other ≡ trim is_trailing (rest_in bytes) → characters_in other ≡ characters_in bytes
characters_in-trimmed bytes other operand rest =
    ap₂ (λ o r. cut (still_taken (place_after AtTerm o) r) r) operand rest
    ∙ ap (λ taken. cut taken (trim is_trailing (rest_in bytes))) (taken-trimmed (place_after AtTerm (operand_in bytes)) (rest_in bytes))
    ∙ characters-trimmed (taken_in bytes) (rest_in bytes)
