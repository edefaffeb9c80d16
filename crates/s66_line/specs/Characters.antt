-- To be believed: characters in an operand, which the assembler counts, or reads up to a mark, blanks among them: `10HREAD ERROR`,
-- `=C/A B/`. So they may go on behind the blank at which the operand ends.
use Rattle.std.specs.Prelude.{◌&&◌, ◌||◌, ◌==◌, not, if◌then◌else◌, ℕ, suc, ◌+◌, ◌*◌, ◌-◌, Bool, true, List, [], ◌∷◌, Option, None, Some, drop, min, nat_le, nat_lt, take, option_map}
use Rattle.s66_line.specs.Fields.{after_word, is_blank, is_trailing, skip_blanks, trim, upper}
use Rattle.s66_line.specs.InstructionText.{operand_in}
use Rattle.s66_line.specs.declared.characters.Place.{Place}
use Rattle.s66_line.specs.declared.characters.Place.TheVariants.{AtTerm, InTerm, InCount, AtEquals, AtLetter, InCharacters, InSlashes, InStars}
use Rattle.s66_line.specs.declared.limits.TheConstants.{TEXT_LIMIT}

-- BYTES in upper case

abbrev pub is_decimal : ℕ → Bool
is_decimal b = nat_le 48 b && nat_le b 57

-- A C H L R Z: on which side of a word characters stand, and what fills it
abbrev pub justifies : ℕ → Bool
justifies b = b == 65 || b == 67 || b == 72 || b == 76 || b == 82 || b == 90

-- + - * / ,
abbrev pub ends_term : ℕ → Bool
ends_term b = b == 43 || b == 45 || b == 42 || b == 47 || b == 44

-- THE PLACE in an operand after one byte more

abbrev pub after_in_term : ℕ → Place
after_in_term b = if b == 61 then AtEquals else (if ends_term b then AtTerm else InTerm)

-- a count may begin a term
abbrev pub after_at_term : ℕ → Place
after_at_term b = if is_decimal b then InCount (b - 48) else after_in_term b

-- after a count n; more than a line holds is as much as it holds
abbrev pub after_in_count : ℕ → ℕ → Place
after_in_count n b =
    if is_decimal b then InCount (min (10 * n + (b - 48)) TEXT_LIMIT)
    else (if nat_lt 0 n && justifies b then InCharacters n else after_in_term b)

abbrev pub after_byte_at : Place → ℕ → Place
after_byte_at AtTerm b = after_at_term b
after_byte_at InTerm b = after_in_term b
after_byte_at (InCount n) b = after_in_count n b
after_byte_at AtEquals b = if justifies b then AtLetter else after_at_term b
after_byte_at AtLetter b = if b == 47 then InSlashes else (if b == 42 then InStars else after_in_term b)
after_byte_at (InCharacters n) b = if nat_lt 1 n then InCharacters (n - 1) else AtTerm
after_byte_at InSlashes b = if b == 47 then AtTerm else InSlashes
after_byte_at InStars b = if b == 42 then AtTerm else InStars

abbrev pub place_after : Place → List ℕ → Place
place_after place [] = place
place_after place (b ∷ bytes) = place_after (after_byte_at place b) bytes

-- WHAT FOLLOWS AN OPERAND

-- how many bytes a string still has, with the mark that ends it, if there is one
abbrev pub through : ℕ → List ℕ → Option ℕ
through mark [] = None
through mark (b ∷ bytes) = if b == mark then Some 1 else option_map (λ n. suc n) (through mark bytes)

-- how many bytes of what follows an operand its characters still take, if they end
abbrev pub still_taken : Place → List ℕ → Option ℕ
still_taken (InCharacters n) rest = Some n
still_taken InSlashes rest = through 47 rest
still_taken InStars rest = through 42 rest
still_taken place rest = Some 0

abbrev pub begins_blank : List ℕ → Bool
begins_blank [] = true
begins_blank (b ∷ bytes) = is_blank b

-- OF BYTES that begin with an operation

-- what follows the operand
abbrev pub rest_in : List ℕ → List ℕ
rest_in bytes = after_word (skip_blanks (after_word bytes))

abbrev pub taken_in : List ℕ → Option ℕ
taken_in bytes = still_taken (place_after AtTerm (operand_in bytes)) (rest_in bytes)

-- something else follows characters that take so much, or they don't end
abbrev pub is_cut : Option ℕ → List ℕ → Bool
is_cut None rest = true
is_cut (Some n) rest = not (begins_blank (drop n rest))

-- the operand goes on behind characters that go on behind its blank, or their mark is missing
abbrev pub runs_on : List ℕ → Bool
runs_on bytes = is_cut (taken_in bytes) (rest_in bytes)

-- in upper case, and without the blanks at their end
abbrev pub cut : Option ℕ → List ℕ → List ℕ
cut None rest = []
cut (Some n) rest = upper (trim is_trailing (take n rest))

-- the characters of the operand behind its blank
abbrev pub characters_in : List ℕ → List ℕ
characters_in bytes = cut (taken_in bytes) (rest_in bytes)
