-- Each line of an accepted source is exactly one thing, and a note is one of exactly one block.
use Rattle.std.proofs.Common.{◌≡◌, ◌≤◌, ◌+◌, ◌&&◌, ◌||◌, not, ℕ, suc, Bool, true, false, cond, if◌then◌else◌, List, [], ◌∷◌, ◌++◌, length, map, nat_lt, refl, ap, ◌∙◌, inl, inr, arith, Option, None}
use Rattle.std.proofs.Common.{Some, ◌⊎◌, Ok, le-ltb, ltb-false}
use Rattle.std.proofs.Math.Bool.{and-false}
use Rattle.std.proofs.lemmas.Bool.{cases_lt}
use Rattle.s66_isa.specs.{Among, tally, some_of}
use Rattle.s66_line.specs.{Block, line_of, is_instruction, is_code, ends_run, Class, Comment, Other, Refused, Pad, Instruction, LINE_BYTES_LIMIT}
use Rattle.s66_source.specs.{Line, run_after, place_after, label_after, classes_from, classed_lines, operand_refusal, refusal_at, or_else, refusal, instructions, parts_of, entry_of, block_of}
use Rattle.s66_source.specs.{blocks_of, unless_refused, source_of, Reading, Flagged, class_at, flagged_lines, all_of, is_comment_class, is_pad_class, is_note_of, is_note, has_block, roles}
use Rattle.s66_source.specs.{SOURCE_LINES_LIMIT, SourceError, LineTooLong, TooLarge}
use Rattle.s66_source.proofs.PartsLaw.{parts}

-- NO LINE OF AN ACCEPTED SOURCE IS REFUSED

pub no_refusal : (e : Option SourceError) (made blocks : List Block) → unless_refused e made ≡ Ok blocks → e ≡ None
no_refusal None made blocks h = refl
no_refusal (Some e) made blocks h = cc

pub neither : (e f : Option SourceError) → or_else e f ≡ None → (e ≡ None) × (f ≡ None)
neither None f h = (refl, h)
neither (Some e) f h = cc

pub none-at : (lines : List Line) (l : Line) → refusal lines ≡ None → Among l lines → refusal_at l ≡ None
none-at [] l h among = absurd among
none-at (m ∷ lines) l h (inl same) = ap refusal_at same ∙ (neither (refusal_at m) (refusal lines) h).0
none-at (m ∷ lines) l h (inr among) = none-at lines l (neither (refusal_at m) (refusal lines) h).1 among

-- what is known of a line that isn't refused
pub record IsTaken (l : Line) : Type 0 where
  pub short : length l.bytes ≤ LINE_BYTES_LIMIT
  pub few : l.number ≤ SOURCE_LINES_LIMIT
  pub operand : operand_refusal l.number l.class ≡ None

pub taken-line : (l : Line) → refusal_at l ≡ None → IsTaken l
taken-line l h = by_tests (nat_lt LINE_BYTES_LIMIT (length l.bytes)) (nat_lt SOURCE_LINES_LIMIT l.number) refl refl h
  where
    by_tests : (long many : Bool) → nat_lt LINE_BYTES_LIMIT (length l.bytes) ≡ long → nat_lt SOURCE_LINES_LIMIT l.number ≡ many →
        (if long then Some (LineTooLong l.number) else (if many then Some TooLarge else operand_refusal l.number l.class)) ≡ None → IsTaken l
    by_tests true many long_is many_is h = cc
    by_tests false true long_is many_is h = cc
    by_tests false false long_is many_is h = record { short = ltb-false LINE_BYTES_LIMIT (length l.bytes) long_is; few = ltb-false SOURCE_LINES_LIMIT l.number many_is; operand = h }

-- ONE ROLE, by the class

pub no-note_in : (l : Line) (blocks : List Block) → is_comment_class l.class ≡ false → some_of (is_note_of l) blocks ≡ false
no-note_in l [] h = refl
no-note_in l (block ∷ blocks) h = rw (h, no-note_in l blocks h) refl

-- by whether it is a note, and whether an instruction is in its run
abbrev roles_by : Class → Bool → Bool → List Bool
roles_by c note block =
    is_instruction c ∷ note ∷ (is_pad_class c && block) ∷ (ends_run c || (is_comment_class c && not note || is_pad_class c && not block)) ∷ []

one_by : (c : Class) (note block : Bool) (number : ℕ) → operand_refusal number c ≡ None → (is_comment_class c ≡ false → note ≡ false) → tally (λ is. is) (roles_by c note block) ≡ 1
one_by Comment true block number h none = refl
one_by Comment false block number h none = refl
one_by Other note block number h none = rw (none refl) refl
one_by Refused note block number h none = cc
one_by (Pad located) note true number h none = rw (none refl) refl
one_by (Pad located) note false number h none = rw (none refl) refl
one_by (Instruction located n) note block number h none = rw (none refl) refl

pub one : (source : Reading) (blocks : List Block) (line : Line) → source_of source ≡ Ok blocks → Among line (classed_lines source) → tally (λ is. is) (roles (classed_lines source) line) ≡ 1
one source blocks line accepted among =
    let lines : List Line = classed_lines source in
    let taken = taken-line line (none-at lines line (no_refusal (refusal lines) (blocks_of lines) blocks accepted) among) in
    one_by line.class (is_note lines line) (has_block lines line) line.number taken.operand (no-note_in line (blocks_of lines))

-- NUMBERS RISE

-- each is at least low, and greater than those before it
abbrev pub Rising : ℕ → List Line → Type 0
Rising low [] = Unit {0}
Rising low (l ∷ lines) = (low ≤ l.number) × Rising (suc l.number) lines

pub Rising-lower : (low high : ℕ) (lines : List Line) → low ≤ high → Rising high lines → Rising low lines
Rising-lower low high [] le h = tt
Rising-lower low high (l ∷ lines) le h = (omega (arith, le, h.0), h.1)

pub rising-classed : (lines : List Flagged) (number run index : ℕ) (label : List ℕ) (after : Bool) → Rising number (classes_from number run index label after lines)
rising-classed [] number run index label after = tt
rising-classed (line ∷ lines) number run index label after =
    let c : Class = class_at after line in
    (omega arith, rising-classed lines (suc number) (run_after run c) (place_after index c) (label_after label c line.bytes) (is_code c))

pub rising-instructions : (low : ℕ) (lines : List Line) → Rising low lines → Rising low (instructions lines)
rising-instructions low [] h = tt
rising-instructions low (l ∷ lines) h =
    let rest : Rising (suc l.number) (instructions lines) = rising-instructions (suc l.number) lines h.1 in
    elim (is_instruction l.class) as (λ t. Rising low (cond t (l ∷ instructions lines) (instructions lines)))
    [ true ↦ (h.0, rest) | false ↦ Rising-lower low (suc l.number) (instructions lines) (omega (arith, h.0)) rest ]

-- THE LAST LINE OF A BLOCK

abbrev pub last_number : Line → List Line → ℕ
last_number l [] = l.number
last_number l (m ∷ more) = last_number m more

pub line_of-last : (l : Line) (more : List Line) → line_of (block_of (l ∷ more)) (length (map entry_of (l ∷ more))) ≡ last_number l more
line_of-last l [] = refl
line_of-last l (m ∷ more) = line_of-last m more

-- it is not before the first, and all that follows the block is after it
pub Rising-behind : (low : ℕ) (l : Line) (more lines : List Line) → Rising low (l ∷ more ++ lines) → (l.number ≤ last_number l more) × Rising (suc (last_number l more)) lines
Rising-behind low l [] lines h = (omega arith, h.1)
Rising-behind low l (m ∷ more) lines h = let rest = Rising-behind (suc l.number) m more lines h.1 in (omega (arith, h.1.0, rest.0), rest.1)

-- A NOTE OF ONE BLOCK

abbrev pub AreFilled : List (List Line) → Type 0
AreFilled parts = (part : List Line) → Among part parts → 1 ≤ length part

-- a line up to the first of a block, or from its last on, is no note of it
pub outside : (comment : Bool) (first n last : ℕ) → (n ≤ first) ⊎ (last ≤ n) → (comment && nat_lt first n && nat_lt n last) ≡ false
outside true first n last (inl h) = rw (le-ltb first n h) refl
outside true first n last (inr h) = rw (le-ltb n last h) (and-false (nat_lt first n))
outside false first n last h = refl

pub not-note : (line l : Line) (more : List Line) → (line.number ≤ l.number) ⊎ (last_number l more ≤ line.number) → is_note_of line (block_of (l ∷ more)) ≡ false
not-note line l more h = rw (line_of-last l more) (outside (is_comment_class line.class) l.number line.number (last_number l more) h)

tally-fails : {X : Type 0} (test : X → Bool) (x : X) (xs : List X) → test x ≡ false → tally test (x ∷ xs) ≡ tally test xs
tally-fails test x xs h = rw h (omega arith)

tally-first : {X : Type 0} (test : X → Bool) (x : X) (xs : List X) → tally test xs ≡ 0 → tally test (x ∷ xs) ≤ 1
tally-first test x xs h = elim (test x) as (λ t. cond {A = ℕ} t 1 0 + tally test xs ≤ 1) [ true ↦ omega (arith, h) | false ↦ omega (arith, h) ]

-- it is none of a block that begins after it
no-later : (line : Line) (low : ℕ) (parts : List (List Line)) → AreFilled parts → Rising low (all_of parts) → line.number ≤ low → tally (is_note_of line) (map block_of parts) ≡ 0
no-later line low [] filled h below = refl
no-later line low ([] ∷ parts) filled h below = absurd (omega (arith, filled [] (inl refl)))
no-later line low ((l ∷ more) ∷ parts) filled h below =
    let behind = Rising-behind low l more (all_of parts) h in
    let later = no-later line (suc (last_number l more)) parts (λ part among. filled part (inr among)) behind.1 (omega (arith, below, h.0, behind.0)) in
    tally-fails (is_note_of line) (block_of (l ∷ more)) (map block_of parts) (not-note line l more (inl (omega (arith, below, h.0)))) ∙ later

at_most_one : (line : Line) (low : ℕ) (parts : List (List Line)) → AreFilled parts → Rising low (all_of parts) → tally (is_note_of line) (map block_of parts) ≤ 1
at_most_one line low [] filled h = omega arith
at_most_one line low ([] ∷ parts) filled h = absurd (omega (arith, filled [] (inl refl)))
at_most_one line low ((l ∷ more) ∷ parts) filled h =
    let behind = Rising-behind low l more (all_of parts) h in
    let rest : AreFilled parts = λ part among. filled part (inr among) in
    elim (cases_lt line.number (last_number l more)) [
      | inl before ↦
          tally-first (is_note_of line) (block_of (l ∷ more)) (map block_of parts) (no-later line (suc (last_number l more)) parts rest behind.1 (omega (arith, before)))
      | inr after ↦
          omega (
            arith,
            tally-fails (is_note_of line) (block_of (l ∷ more)) (map block_of parts) (not-note line l more (inr after)),
            at_most_one line (suc (last_number l more)) parts rest behind.1,
          )
    ]

some-either : {X : Type 0} (t : Bool) (test : X → Bool) (xs : List X) → (t || some_of test xs) ≡ true → (some_of test xs ≡ true → 1 ≤ tally test xs) → 1 ≤ cond {A = ℕ} t 1 0 + tally test xs
some-either true test xs h rest = omega arith
some-either false test xs h rest = omega (arith, rest h)

some-tally : {X : Type 0} (test : X → Bool) (xs : List X) → some_of test xs ≡ true → 1 ≤ tally test xs
some-tally test [] h = cc
some-tally test (x ∷ xs) h = some-either (test x) test xs h (some-tally test xs)

pub note : (source : Reading) (line : Line) → Among line (classed_lines source) → is_note (classed_lines source) line ≡ true → tally (is_note_of line) (blocks_of (classed_lines source)) ≡ 1
note source line among h =
    let lines : List Line = classed_lines source in
    let cut = parts source in
    let rising : Rising 1 (all_of (parts_of (instructions lines))) = rw cut.whole (rising-instructions 1 lines (rising-classed (flagged_lines source) 1 0 0 [] false)) in
    omega (arith, at_most_one line 1 (parts_of (instructions lines)) (λ part stands. (cut.sizes part stands).0) rising, some-tally (is_note_of line) (blocks_of lines) h)
