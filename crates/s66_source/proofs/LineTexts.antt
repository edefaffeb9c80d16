-- What is printed for a line of a source, by the parts of the lines to come: a block begins with it, or so many began before it.
use Rattle.std.proofs.Common.{◌≡◌, ◌≤◌, ◌<◌, ◌+◌, ◌%◌, ◌==◌, ◌&&◌, ◌||◌, ℕ, suc, Bool, true, false, if◌then◌else◌, Option, None, Some, List, [], ◌∷◌, ◌++◌, get_or, length, map, refl, sym, ap, ap₂}
use Rattle.std.proofs.Common.{◌∙◌, subst, inl, inr, arith, append_assoc, eqb, nat_lt, ◌⊎◌, ne_eqb, eq-eqb, lt-ltb, le-ltb, length-append}
use Rattle.s66_isa.specs.{some_of, tally, Instr, BLOCK_LIMIT}
use Rattle.s66_isa.proofs.Lists.{tally-append}
use Rattle.s66_line.specs.{Block, line_of, is_code, is_instruction, Class, Other, Pad, Instruction}
use Rattle.s66_source.specs.{Flagged, Reading, class_at, flagged_lines, Placed, copied_line, anew_text, begins, begun, line_text, others, owner, text_for, texts_of, has_block, is_comment_class}
use Rattle.s66_source.specs.{is_dropped, is_leading, is_note, is_pad_class, Line, begins_block, block_of, blocks_of, classed_lines, classes_from, instructions, label_after, label_at, parts_of}
use Rattle.s66_source.specs.{place_after, place_at, run_after, run_at}
use Rattle.s66_source.specs.declared.columns.Columns.{Columns}
use Rattle.s66_source.proofs.ReaderBlocks.{fresh, from_class, left, behind, behind-put, left-begins, behind-begins}
use Rattle.s66_source.proofs.LineLaw.{no-note_in}

-- THE PARTS of lines

-- the parts of these lines
abbrev pub parts_from : ℕ → ℕ → ℕ → List ℕ → Bool → List Flagged → List (List Line)
parts_from number run index label after lines = parts_of (instructions (classes_from number run index label after lines))

-- the parts of a line of this class and the lines after it
abbrev pub parts_by : ℕ → ℕ → ℕ → List ℕ → Class → List ℕ → List Flagged → List (List Line)
parts_by number run index label c line lines = parts_of (instructions (from_class number run index label c line lines))

pub none-left : (lines : List Flagged) (number run index : ℕ) (label : List ℕ) (after : Bool) → index % BLOCK_LIMIT ≡ 0 → left (parts_from number run index label after lines) ≡ []
none-left lines number run index label after h = left-begins (parts_from number run index label after lines) (fresh lines number run index label after h)

-- BLOCKS TO COME begin at lines to come

abbrev pub AllFrom : ℕ → List (List Line) → Type 0
AllFrom low [] = Unit {0}
AllFrom low ([] ∷ parts) = ⊥
AllFrom low ((l ∷ more) ∷ parts) = (low ≤ l.number) × AllFrom low parts

all-lower : (low high : ℕ) (parts : List (List Line)) → low ≤ high → AllFrom high parts → AllFrom low parts
all-lower low high [] le h = tt
all-lower low high ([] ∷ parts) le h = absurd h
all-lower low high ((l ∷ more) ∷ parts) le h = (omega (arith, le, h.0), all-lower low high parts le h.1)

all-line : (l : Line) (rest : List Line) → AllFrom (suc l.number) (behind (parts_of (instructions rest))) → AllFrom l.number (behind (parts_of (instructions (l ∷ rest))))
all-line l rest later = by_class (is_instruction l.class) (all-lower l.number (suc l.number) (behind (parts_of (instructions rest))) (omega arith) later)
  where
    by_class : (t : Bool) → AllFrom l.number (behind (parts_of (instructions rest))) → AllFrom l.number (behind (parts_of (if t then l ∷ instructions rest else instructions rest)))
    by_class false h = h
    by_class true h =
        subst (AllFrom l.number) (sym (behind-put l (parts_of (instructions rest))))
        (elim (begins_block l) as (λ t. AllFrom l.number (if t then (l ∷ left (parts_of (instructions rest))) ∷ behind (parts_of (instructions rest)) else behind (parts_of (instructions rest)))) [ true ↦ (omega arith, h) | false ↦ h ])

pub all-from : (lines : List Flagged) (number run index : ℕ) (label : List ℕ) (after : Bool) → AllFrom number (behind (parts_from number run index label after lines))
all-from [] number run index label after = tt
all-from (line ∷ lines) number run index label after =
    let c : Class = class_at after line in
    all-line (record { number = number; bytes = line.bytes; class = c; run = run_at run c; index = place_at index c; label = label_at label c line.bytes })
    (classes_from (suc number) (run_after run c) (place_after index c) (label_after label c line.bytes) (is_code c) lines)
    (all-from lines (suc number) (run_after run c) (place_after index c) (label_after label c line.bytes) (is_code c))

-- HOW MANY BLOCKS BEGAN

abbrev AllBefore : ℕ → List Block → Type 0
AllBefore low [] = Unit {0}
AllBefore low (block ∷ blocks) = (line_of block 1 < low) × AllBefore low blocks

before-later : (low high : ℕ) (blocks : List Block) → low ≤ high → AllBefore low blocks → AllBefore high blocks
before-later low high [] le h = tt
before-later low high (block ∷ blocks) le h = (omega (arith, le, h.0), before-later low high blocks le h.1)

before-push : (low : ℕ) (blocks : List Block) (block : Block) → AllBefore low blocks → line_of block 1 < suc low → AllBefore (suc low) (blocks ++ block ∷ [])
before-push low [] block h last = (last, tt)
before-push low (b ∷ blocks) block h last = (omega (arith, h.0), before-push low blocks block h.1 last)

-- of blocks that begin before a line, and of those that begin after it
all-begun : (number : ℕ) (blocks : List Block) → AllBefore number blocks → tally (λ (block : Block). nat_lt (line_of block 1) (suc number)) blocks ≡ length blocks
all-begun number [] h = refl
all-begun number (block ∷ blocks) h = rw (lt-ltb (line_of block 1) (suc number) (omega (arith, h.0))) (omega (arith, all-begun number blocks h.1))

none-here : (number : ℕ) (blocks : List Block) → AllBefore number blocks → some_of (λ (block : Block). line_of block 1 == number) blocks ≡ false
none-here number [] h = refl
none-here number (block ∷ blocks) h = rw (ne_eqb (line_of block 1) number (λ same. absurd (omega (arith, same, h.0)))) (none-here number blocks h.1)

none-begun : (number : ℕ) (parts : List (List Line)) → AllFrom (suc number) parts → tally (λ (block : Block). nat_lt (line_of block 1) (suc number)) (map block_of parts) ≡ 0
none-begun number [] h = refl
none-begun number ([] ∷ parts) h = absurd h
none-begun number ((l ∷ more) ∷ parts) h = rw (le-ltb l.number (suc number) h.0) (omega (arith, none-begun number parts h.1))

none-after : (number : ℕ) (parts : List (List Line)) → AllFrom (suc number) parts → some_of (λ (block : Block). line_of block 1 == number) (map block_of parts) ≡ false
none-after number [] h = refl
none-after number ([] ∷ parts) h = absurd h
none-after number ((l ∷ more) ∷ parts) h = rw (ne_eqb l.number number (λ same. absurd (omega (arith, same, h.0)))) (none-after number parts h.1)

pub some-append : {X : Type 0} (test : X → Bool) (xs ys : List X) → some_of test (xs ++ ys) ≡ (some_of test xs || some_of test ys)
some-append test [] ys = refl
some-append test (x ∷ xs) ys = elim (test x) as (λ t. (t || some_of test (xs ++ ys)) ≡ ((t || some_of test xs) || some_of test ys)) [ true ↦ refl | false ↦ some-append test xs ys ]

-- so many blocks begin before the line of this number, and these parts are those of the others
record Begun (all : List Line) (number m : ℕ) (parts : List (List Line)) : Type 0 where
  before : List Block
  whole : blocks_of all ≡ before ++ map block_of parts
  earlier : AllBefore number before
  count : length before ≡ m

-- where no block begins
begun-past : (all : List Line) (number m : ℕ) (parts : List (List Line)) → AllFrom (suc number) parts → Begun all number m parts → Begun all (suc number) m parts
begun-past all number m parts later b = record { before = b.before; whole = b.whole; earlier = before-later number (suc number) b.before (omega arith) b.earlier; count = b.count }

begun-first : (all : List Line) (l : Line) (more : List Line) (m : ℕ) (parts : List (List Line)) → Begun all l.number m ((l ∷ more) ∷ parts) → Begun all (suc l.number) (suc m) parts
begun-first all l more m parts b = record {
  before = b.before ++ block_of (l ∷ more) ∷ [];
  whole = b.whole ∙ sym (append_assoc b.before (block_of (l ∷ more) ∷ []) (map block_of parts));
  earlier = before-push l.number b.before (block_of (l ∷ more)) b.earlier (omega arith);
  count = length-append b.before (block_of (l ∷ more) ∷ []) ∙ omega (arith, b.count);
}

-- of a line: whether a block begins with it, and how many began, it counted
pub record IsTold (all : List Line) (l : Line) (first : Bool) (m : ℕ) : Type 0 where
  pub begins : begins all l ≡ first
  pub begun : begun all l ≡ m

past-told : (all : List Line) (l : Line) (m : ℕ) (parts : List (List Line)) → AllFrom (suc l.number) parts → Begun all l.number m parts → IsTold all l false m
past-told all l m parts later b =
    let here : Block → Bool = λ (block : Block). line_of block 1 == l.number in
    let upto : Block → Bool = λ (block : Block). nat_lt (line_of block 1) (suc l.number) in
    record {
      begins = ap (some_of here) b.whole ∙ some-append here b.before (map block_of parts) ∙ ap₂ (λ s t. s || t) (none-here l.number b.before b.earlier) (none-after l.number parts later);
      begun = ap (tally upto) b.whole ∙ tally-append upto b.before (map block_of parts)
          ∙ omega (arith, all-begun l.number b.before b.earlier, none-begun l.number parts later, b.count);
    }

first-told : (all : List Line) (l : Line) (more : List Line) (m : ℕ) (parts : List (List Line)) → AllFrom (suc l.number) parts → Begun all l.number m ((l ∷ more) ∷ parts) → IsTold all l true (suc m)
first-told all l more m parts later b =
    let here : Block → Bool = λ (block : Block). line_of block 1 == l.number in
    let upto : Block → Bool = λ (block : Block). nat_lt (line_of block 1) (suc l.number) in
    let one : tally upto (map block_of ((l ∷ more) ∷ parts)) ≡ 1 = rw (lt-ltb l.number (suc l.number) (omega arith)) (omega (arith, none-begun l.number parts later)) in
    let some : some_of here (map block_of ((l ∷ more) ∷ parts)) ≡ true = rw (eq-eqb l.number l.number refl) refl in
    record {
      begins = ap (some_of here) b.whole ∙ some-append here b.before (map block_of ((l ∷ more) ∷ parts)) ∙ ap₂ (λ s t. s || t) (none-here l.number b.before b.earlier) some;
      begun = ap (tally upto) b.whole ∙ tally-append upto b.before (map block_of ((l ∷ more) ∷ parts)) ∙ omega (arith, all-begun l.number b.before b.earlier, one, b.count);
    }

-- OF ALL LINES TO COME, before which so many blocks begin

abbrev pub first_of : Line → Bool
first_of l = is_instruction l.class && begins_block l

abbrev pub count_after : Bool → ℕ → ℕ
count_after first m = if first then suc m else m

abbrev pub AreTold : List Line → ℕ → List Line → Type 0
AreTold all m [] = Unit {0}
AreTold all m (l ∷ lines) = IsTold all l (first_of l) (count_after (first_of l) m) × AreTold all (count_after (first_of l) m) lines

told-line : (all : List Line) (l : Line) (rest : List Line) (m : ℕ) → AllFrom (suc l.number) (behind (parts_of (instructions rest))) → Begun all l.number m (behind (parts_of (instructions (l ∷ rest)))) →
    ((k : ℕ) → Begun all (suc l.number) k (behind (parts_of (instructions rest))) → AreTold all k rest) → AreTold all m (l ∷ rest)
told-line all l rest m later b told = by_class (is_instruction l.class) b
  where
    parts : List (List Line)
    parts = parts_of (instructions rest)

    by_first : (first : Bool) → Begun all l.number m (if first then (l ∷ left parts) ∷ behind parts else behind parts) → IsTold all l first (count_after first m) × AreTold all (count_after first m) rest
    by_first true b = (first-told all l (left parts) m (behind parts) later b, told (suc m) (begun-first all l (left parts) m (behind parts) b))
    by_first false b = (past-told all l m (behind parts) later b, told m (begun-past all l.number m (behind parts) later b))

    by_class : (t : Bool) → Begun all l.number m (behind (parts_of (if t then l ∷ instructions rest else instructions rest))) → IsTold all l (t && begins_block l) (count_after (t && begins_block l) m) × AreTold all (count_after (t && begins_block l) m) rest
    by_class true b = by_first (begins_block l) (subst (Begun all l.number m) (behind-put l parts) b)
    by_class false b = by_first false b

told-from : (all : List Line) (lines : List Flagged) (number run index m : ℕ) (label : List ℕ) (after : Bool) → Begun all number m (behind (parts_from number run index label after lines)) → AreTold all m (classes_from number run index label after lines)
told-from all [] number run index m label after b = tt
told-from all (line ∷ lines) number run index m label after b =
    let c : Class = class_at after line in
    told-line all (record { number = number; bytes = line.bytes; class = c; run = run_at run c; index = place_at index c; label = label_at label c line.bytes })
    (classes_from (suc number) (run_after run c) (place_after index c) (label_after label c line.bytes) (is_code c) lines) m
    (all-from lines (suc number) (run_after run c) (place_after index c) (label_after label c line.bytes) (is_code c)) b
    (λ k next. told-from all lines (suc number) (run_after run c) (place_after index c) k (label_after label c line.bytes) (is_code c) next)

-- all lines of a source
pub told-source : (source : Reading) → AreTold (classed_lines source) 0 (classed_lines source)
told-source source =
    told-from (classed_lines source) (flagged_lines source) 1 0 0 0 [] false
    (record { before = []; whole = ap (map block_of) (sym (behind-begins (parts_from 1 0 0 [] false (flagged_lines source)) (fresh (flagged_lines source) 1 0 0 [] false refl))); earlier = tt; count = refl })

-- WHAT IS PRINTED FOR A LINE

abbrev pub text_at : List Line → List (Option (List ℕ)) → Line → List ℕ
text_at all texts l = line_text (begins all l) (text_for texts (owner all l)) l

-- a line with which no block begins: it, or nothing
pub plain-text : (all : List Line) (texts : List (Option (List ℕ))) (l : Line) → begins all l ≡ false → (text_at all texts l ≡ copied_line l) ⊎ (text_at all texts l ≡ [])
plain-text all texts l none = by_text (text_for texts (owner all l)) refl
  where
    by_text : (text : Option (List ℕ)) → text_for texts (owner all l) ≡ text → (text_at all texts l ≡ copied_line l) ⊎ (text_at all texts l ≡ [])
    by_text None stated = inl (ap (λ text. line_text (begins all l) text l) stated)
    by_text (Some text) stated = inr (ap₂ (λ first text. line_text first text l) none stated)

-- if it has an owner
abbrev pub owned_by : Bool → Bool → Bool → Bool → ℕ → ℕ
owned_by instruction note dropped leading m = if instruction || note then m else (if dropped then (if leading then suc m else m) else 0)

pub other-text : (all : List Line) (texts : List (Option (List ℕ))) (l : Line) → l.class ≡ Other → text_at all texts l ≡ copied_line l
other-text all texts l stated =
    let free : is_note all l ≡ false = no-note_in l (blocks_of all) (ap is_comment_class stated) in
    let kept : is_dropped all l ≡ false = ap (λ c. is_pad_class c && has_block all l) stated in
    let none : owner all l ≡ 0 =
    ap (λ t. owned_by t (is_note all l) (is_dropped all l) (is_leading all l) (begun all l)) (ap is_instruction stated)
    ∙ ap₂ (λ note dropped. owned_by false note dropped (is_leading all l) (begun all l)) free kept in
    ap (λ n. line_text (begins all l) (text_for texts n) l) none

-- a Pad that begins a run, the block after which stands
pub pad-text : (all : List Line) (texts : List (Option (List ℕ))) (l : Line) (m : ℕ) → l.class ≡ Pad true → l.index ≡ 0 → begun all l ≡ m → get_or texts m None ≡ None → text_at all texts l ≡ copied_line l
pad-text all texts l m stated first count stands =
    let free : is_note all l ≡ false = no-note_in l (blocks_of all) (ap is_comment_class stated) in
    let leads : is_leading all l ≡ true = ap₂ (λ c i. is_pad_class c && eqb i 0) stated first in
    let owns : owner all l ≡ owned_by false false (is_dropped all l) true m =
    ap (λ t. owned_by t (is_note all l) (is_dropped all l) (is_leading all l) (begun all l)) (ap is_instruction stated)
    ∙ ap₂ (λ note leading. owned_by false note (is_dropped all l) leading (begun all l)) free leads
    ∙ ap (owned_by false false (is_dropped all l) true) count in
    ap (λ n. line_text (begins all l) (text_for texts n) l) owns
    ∙ ap (λ text. line_text (begins all l) text l) (by_dropped (is_dropped all l))
  where
    by_dropped : (t : Bool) → text_for texts (owned_by false false t true m) ≡ None
    by_dropped true = stands
    by_dropped false = refl

-- an instruction
pub instruction-text : (all : List Line) (texts : List (Option (List ℕ))) (l : Line) (located : Bool) (i : Instr) (first : Bool) (m : ℕ) → l.class ≡ Instruction located i → IsTold all l first m →
    text_at all texts l ≡ line_text first (text_for texts m) l
instruction-text all texts l located i first m stated told =
    let owns : owner all l ≡ m = ap (λ t. owned_by t (is_note all l) (is_dropped all l) (is_leading all l) (begun all l)) (ap is_instruction stated) ∙ told.begun in
    ap₂ (λ first n. line_text first (text_for texts n) l) told.begins owns

-- TEXTS of blocks that are given

abbrev pub chosen_text : (quiet : Bool) → Columns → (all : List Line) → ℕ → Block → Option Placed → Option (List ℕ)
chosen_text quiet columns all n block None = None
chosen_text quiet columns all n block (Some p) = Some (anew_text quiet columns all n block p)

-- from the one behind so many on, they are those of these blocks
abbrev pub AreTexts : (quiet : Bool) → Columns → (all : List Line) → List (Option (List ℕ)) → ℕ → List Block → List (Option Placed) → Type 0
AreTexts quiet columns all texts m blocks given = (k : ℕ) → get_or texts (m + k) None ≡ get_or (texts_of quiet columns all (suc m) blocks given) k None

pub first-given : (quiet : Bool) (columns : Columns) (all : List Line) (texts : List (Option (List ℕ))) (m : ℕ) (block : Block) (blocks : List Block) (given : List (Option Placed)) → AreTexts quiet columns all texts m (block ∷ blocks) given →
    get_or texts m None ≡ chosen_text quiet columns all (suc m) block (get_or given 0 None)
first-given quiet columns all texts m block blocks given are = ap (λ k. get_or texts k None) (omega arith) ∙ are 0 ∙ by_given given
  where
    by_given : (given : List (Option Placed)) → get_or (texts_of quiet columns all (suc m) (block ∷ blocks) given) 0 None ≡ chosen_text quiet columns all (suc m) block (get_or given 0 None)
    by_given [] = refl
    by_given (None ∷ given) = refl
    by_given (Some p ∷ given) = refl

pub others-given : (quiet : Bool) (columns : Columns) (all : List Line) (texts : List (Option (List ℕ))) (m : ℕ) (block : Block) (blocks : List Block) (given : List (Option Placed)) → AreTexts quiet columns all texts m (block ∷ blocks) given →
    AreTexts quiet columns all texts (suc m) blocks (others given)
others-given quiet columns all texts m block blocks given are k = ap (λ n. get_or texts n None) (omega arith) ∙ are (suc k) ∙ by_given given blocks
  where
    by_given : (given : List (Option Placed)) (blocks : List Block) → get_or (texts_of quiet columns all (suc m) (block ∷ blocks) given) (suc k) None ≡ get_or (texts_of quiet columns all (suc (suc m)) blocks (others given)) k None
    by_given [] [] = refl
    by_given [] (b ∷ blocks) = refl
    by_given (None ∷ given) blocks = refl
    by_given (Some p ∷ given) blocks = refl
