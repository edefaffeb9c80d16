-- Reading line by line gives the blocks of the definition, or its least refused line.
use Rattle.std.proofs.Common.{◌≡◌, ◌<◌, ◌%◌, ℕ, suc, Bool, true, false, List, [], ◌∷◌, ◌++◌, length, map, refl, sym, ap, ◌∙◌, arith, append_assoc, eqb, eq-eqb, subst, ap₂, Option, None, Result, Ok}
use Rattle.std.proofs.Common.{Err, Some, if◌then◌else◌, nat_lt, nat_le, append-nil, ne_eqb, eqb-true, true≢false, mod-eq_of_lt}
use Rattle.std.proofs.lemmas.Nat.{mod_below}
use Rattle.std.proofs.lemmas.Bool.{eqb-false}
use Rattle.std.proofs.Math.Dec.{leb-suc-suc, eqb-suc-suc, eqb-suc-zero}
use Rattle.std.proofs.Math.Nat.{suc-mod}
use Rattle.s66_isa.specs.{Instr, BLOCK_LIMIT}
use Rattle.s66_line.specs.{body, from_operation, label_bytes, LINE_BYTES_LIMIT, Entry, Block, is_code, Class, Comment, Other, Refused, Pad, Instruction}
use Rattle.s66_source.specs.{SOURCE_LINES_LIMIT, Line, run_at, run_after, place_at, place_after, label_at, label_after, classes_from, classed_lines, operand_refusal, or_else, refusal, instructions}
use Rattle.s66_source.specs.{begins_block, put_before, parts_of, entry_of, label_in, block_of, blocks_of, unless_refused, source_of, Reading, Flagged, class_at, flagged_lines, SourceState, Steps}
use Rattle.s66_source.specs.{start, end_block, with_open, count_line, by_class, line_step, lines_step, and_then, read_from, SourceError, LineTooLong, TooLarge, OutOfMemory}
use Rattle.s66_source.specs.Gives.{Gives}

-- the lines from one on, of this class
abbrev pub from_class : ℕ → ℕ → ℕ → List ℕ → Class → List ℕ → List Flagged → List Line
from_class number run index run_label c line lines =
    record { number = number; bytes = line; class = c; run = run_at run c; index = place_at index c; label = label_at run_label c line }
    ∷ classes_from (suc number) (run_after run c) (place_after index c) (label_after run_label c line) (is_code c) lines

-- THE FIRST BLOCK of the lines to come begins there

abbrev pub Begins : List (List Line) → Type 0
Begins [] = Unit {0}
Begins ([] ∷ parts) = ⊥
Begins ((l ∷ more) ∷ parts) = begins_block l ≡ true

-- THE PARTS of the lines to come: what is left of the part that is begun, and the parts after it

abbrev pub left : List (List Line) → List Line
left [] = []
left ([] ∷ parts) = []
left ((l ∷ more) ∷ parts) = if begins_block l then [] else l ∷ more

abbrev pub behind : List (List Line) → List (List Line)
behind [] = []
behind ([] ∷ parts) = parts
behind ((l ∷ more) ∷ parts) = if begins_block l then (l ∷ more) ∷ parts else parts

pub put-before : (l : Line) (parts : List (List Line)) → put_before l parts ≡ (l ∷ left parts) ∷ behind parts
put-before l [] = refl
put-before l ([] ∷ parts) = refl
put-before l ((next ∷ more) ∷ parts) =
    elim (begins_block next) as (λ t. (if t then (l ∷ []) ∷ (next ∷ more) ∷ parts else (l ∷ next ∷ more) ∷ parts) ≡ (l ∷ (if t then [] else next ∷ more)) ∷ (if t then (next ∷ more) ∷ parts else parts))
    [ true ↦ refl | false ↦ refl ]

pub left-put : (l : Line) (parts : List (List Line)) → left (put_before l parts) ≡ (if begins_block l then [] else l ∷ left parts)
left-put l parts = ap left (put-before l parts)

pub behind-put : (l : Line) (parts : List (List Line)) → behind (put_before l parts) ≡ (if begins_block l then (l ∷ left parts) ∷ behind parts else behind parts)
behind-put l parts = ap behind (put-before l parts)

pub left-begins : (parts : List (List Line)) → Begins parts → left parts ≡ []
left-begins [] h = refl
left-begins ([] ∷ parts) h = refl
left-begins ((l ∷ more) ∷ parts) h = rw h refl

pub behind-begins : (parts : List (List Line)) → Begins parts → behind parts ≡ parts
behind-begins [] h = refl
behind-begins ([] ∷ parts) h = absurd h
behind-begins ((l ∷ more) ∷ parts) h = rw h refl

Begins-put : (l : Line) (parts : List (List Line)) → begins_block l ≡ true → Begins (put_before l parts)
Begins-put l parts h = subst Begins (sym (put-before l parts)) h

abbrev pub Fresh : List Flagged → Type 0
Fresh lines = (number run index : ℕ) (run_label : List ℕ) (after : Bool) → index % BLOCK_LIMIT ≡ 0 → Begins (parts_of (instructions (classes_from number run index run_label after lines)))

fresh-class : (c : Class) (number run index : ℕ) (run_label line : List ℕ) (lines : List Flagged) → Fresh lines → index % BLOCK_LIMIT ≡ 0 →
    Begins (parts_of (instructions (from_class number run index run_label c line lines)))
fresh-class Comment number run index run_label line lines ih h = ih (suc number) run index run_label false h
fresh-class Other number run index run_label line lines ih h = ih (suc number) (suc run) 0 [] false refl
fresh-class Refused number run index run_label line lines ih h = ih (suc number) run index run_label false h
fresh-class (Pad true) number run index run_label line lines ih h = ih (suc number) (suc run) 0 (label_bytes (body line)) true refl
fresh-class (Pad false) number run index run_label line lines ih h = ih (suc number) run index run_label true h
fresh-class (Instruction true n) number run index run_label line lines ih h =
    Begins-put (record { number = number; bytes = line; class = Instruction true n; run = suc run; index = 0; label = label_bytes (body line) })
    (parts_of (instructions (classes_from (suc number) (suc run) 1 (label_bytes (body line)) true lines))) refl
fresh-class (Instruction false n) number run index run_label line lines ih h =
    Begins-put (record { number = number; bytes = line; class = Instruction false n; run = run; index = index; label = run_label })
    (parts_of (instructions (classes_from (suc number) run (suc index) run_label true lines))) (eq-eqb (index % BLOCK_LIMIT) 0 h)

pub fresh : (lines : List Flagged) → Fresh lines
fresh [] number run index run_label after h = tt
fresh (line ∷ lines) number run index run_label after h = fresh-class (class_at after line) number run index run_label line.bytes lines (fresh lines) h

-- THE OPEN BLOCK, and the lines to come

abbrev pub labelled : List ℕ → List Entry → Block
labelled label entries = record { label = label; entries = entries }

-- the open block goes on with what is left of its part
abbrev attach : List ℕ → List Entry → List (List Line) → List Block
attach label entries parts = labelled label (entries ++ map entry_of (left parts)) ∷ map block_of (behind parts)

abbrev resumed : List ℕ → List Entry → List (List Line) → List Block
resumed label [] parts = map block_of parts
resumed label (e ∷ es) parts = attach label (e ∷ es) parts

attach-begins : (label : List ℕ) (entries : List Entry) (parts : List (List Line)) → Begins parts → attach label entries parts ≡ labelled label entries ∷ map block_of parts
attach-begins label entries parts h =
    ap₂ (λ lines later. labelled label (entries ++ map entry_of lines) ∷ map block_of later) (left-begins parts h) (behind-begins parts h) ∙ ap (λ es. labelled label es ∷ map block_of parts) (append-nil entries)

-- ending the open block, and then the parts; the label of a run to come is its line's
end_block-resumed : (blocks : List Block) (label later : List ℕ) (entries : List Entry) (parts : List (List Line)) → Begins parts →
    with_open blocks label entries ++ resumed later [] parts ≡ blocks ++ resumed label entries parts
end_block-resumed blocks label later [] parts h = refl
end_block-resumed blocks label later (e ∷ es) parts h = rw (attach-begins label (e ∷ es) parts h) (append_assoc blocks (labelled label (e ∷ es) ∷ []) (map block_of parts))

attach-put : (label : List ℕ) (entries : List Entry) (l : Line) (parts : List (List Line)) → begins_block l ≡ false →
    attach label entries (put_before l parts) ≡ attach label (entries ++ entry_of l ∷ []) parts
attach-put label entries l parts h =
    ap₂ (λ lines later. labelled label (entries ++ map entry_of lines) ∷ map block_of later)
    (left-put l parts ∙ ap (λ t. if t then [] else l ∷ left parts) h) (behind-put l parts ∙ ap (λ t. if t then (l ∷ left parts) ∷ behind parts else behind parts) h)
    ∙ ap (λ es. labelled label es ∷ map block_of (behind parts)) (sym (append_assoc entries (entry_of l ∷ []) (map entry_of (left parts))))

blocks-put : (l : Line) (parts : List (List Line)) → map block_of (put_before l parts) ≡ attach (label_in (l ∷ [])) (entry_of l ∷ []) parts
blocks-put l parts = ap (map block_of) (put-before l parts)

-- the label that is left for the open block: the run's, if no instruction of the run comes before the block's
abbrev left_label : List ℕ → ℕ → ℕ → List ℕ
left_label run_label index count = if eqb index count then run_label else []

-- one more instruction of the open block
resumed-put : (label : List ℕ) (entries : List Entry) (l : Line) (parts : List (List Line)) → l.index % BLOCK_LIMIT ≡ length entries → label ≡ left_label l.label l.index (length entries) →
    resumed label entries (put_before l parts) ≡ attach label (entries ++ entry_of l ∷ []) parts
resumed-put label [] l parts h left = blocks-put l parts ∙ ap (λ n. attach n (entry_of l ∷ []) parts) (sym left)
resumed-put label (e ∷ es) l parts h left = attach-put label (e ∷ es) l parts (ne_eqb (l.index % BLOCK_LIMIT) 0 (λ z. absurd (omega (arith, z, h))))

resumed-push : (label : List ℕ) (entries : List Entry) (e : Entry) (parts : List (List Line)) → resumed label (entries ++ e ∷ []) parts ≡ attach label (entries ++ e ∷ []) parts
resumed-push label [] e parts = refl
resumed-push label (a ∷ es) e parts = refl

-- ALL LINES

-- what is read is unlike the definition in no point, whatever was read before
abbrev Read : List Flagged → Type 0
Read lines = (blocks : List Block) (label : List ℕ) (entries : List Entry) (count run index : ℕ) (run_label : List ℕ) (after : Bool) →
    index % BLOCK_LIMIT ≡ length entries → label ≡ left_label run_label index (length entries) →
    read_from (record { blocks = blocks; label = label; entries = entries; count = count; after = after }) lines
    ≡ unless_refused (refusal (classes_from (suc count) run index run_label after lines)) (blocks ++ resumed label entries (parts_of (instructions (classes_from (suc count) run index run_label after lines))))

-- reading a line of this class, and then the rest
abbrev read_class : SourceState → Class → List ℕ → List Flagged → Result (List Block) SourceError
read_class s c line lines = and_then (by_class s c (label_bytes (body line)) (from_operation (body line))) (λ t. read_from t lines)

-- the definition's answer for it
abbrev class_answer : List Block → List ℕ → List Entry → ℕ → ℕ → ℕ → List ℕ → Class → List ℕ → List Flagged → Result (List Block) SourceError
class_answer blocks label entries count run index run_label c line lines =
    unless_refused (or_else (operand_refusal (suc count) c) (refusal (classes_from (suc (suc count)) (run_after run c) (place_after index c) (label_after run_label c line) (is_code c) lines)))
    (blocks ++ resumed label entries (parts_of (instructions (from_class (suc count) run index run_label c line lines))))

pub next-index : (index n : ℕ) → index % BLOCK_LIMIT ≡ n → (suc n ≡ BLOCK_LIMIT → ⊥) → suc index % BLOCK_LIMIT ≡ suc n
next-index index n h more =
    let below : index % BLOCK_LIMIT < BLOCK_LIMIT = mod_below index BLOCK_LIMIT (omega arith) in
    suc-mod index BLOCK_LIMIT ∙ rw h (mod-eq_of_lt (omega (arith, h, below, more)))

pub full-index : (index n : ℕ) → index % BLOCK_LIMIT ≡ n → suc n ≡ BLOCK_LIMIT → suc index % BLOCK_LIMIT ≡ 0
full-index index n h full = suc-mod index BLOCK_LIMIT ∙ rw (h, full) refl

pub length-push : (entries : List Entry) (e : Entry) → length (entries ++ e ∷ []) ≡ suc (length entries)
length-push [] e = refl
length-push (a ∷ entries) e = ap suc (length-push entries e)

-- one more instruction leaves it the same label
left-push : (label run_label : List ℕ) (index : ℕ) (entries : List Entry) (e : Entry) → label ≡ left_label run_label index (length entries) →
    label ≡ left_label run_label (suc index) (length (entries ++ e ∷ []))
left-push label run_label index entries e left =
    rw (length-push entries e) (left ∙ ap (λ t. if t then run_label else []) (sym (eqb-suc-suc index (length entries))))

abbrev entry_at_line : Instr → List ℕ → ℕ → Entry
entry_at_line n line count = record { instr = n; line = suc count; bytes = from_operation (body line) }

-- the instruction goes to the open block, and ends it if it is full then
put-full : (full : Bool) (n : Instr) (line : List ℕ) (lines : List Flagged) → Read lines →
    (blocks : List Block) (label : List ℕ) (entries : List Entry) (count run index : ℕ) (run_label : List ℕ) (after : Bool) →
    index % BLOCK_LIMIT ≡ length entries → label ≡ left_label run_label index (length entries) →
    eqb (length (entries ++ entry_at_line n line count ∷ [])) BLOCK_LIMIT ≡ full →
    read_from (count_line true (if full
    then record { blocks = with_open blocks label (entries ++ entry_at_line n line count ∷ []); label = []; entries = []; count = count; after = after }
    else record { blocks = blocks; label = label; entries = entries ++ entry_at_line n line count ∷ []; count = count; after = after })) lines
    ≡ class_answer blocks label entries count run index run_label (Instruction false n) line lines
put-full true n line lines ih blocks label entries count run index run_label after h left full =
    let e : Entry = entry_at_line n line count in
    let l : Line = record { number = suc count; bytes = line; class = Instruction false n; run = run; index = index; label = run_label } in
    let rest = classes_from (suc (suc count)) run (suc index) run_label true lines in
    let many : suc (length entries) ≡ BLOCK_LIMIT = sym (length-push entries e) ∙ eqb-true (length (entries ++ e ∷ [])) BLOCK_LIMIT full in
    let begins : suc index % BLOCK_LIMIT ≡ 0 = full-index index (length entries) h many in
    ih (with_open blocks label (entries ++ e ∷ [])) [] [] (suc count) run (suc index) run_label true begins (sym (ap (λ t. if t then run_label else []) (eqb-suc-zero index)))
    ∙ ap (unless_refused (refusal rest))
    (end_block-resumed blocks label [] (entries ++ e ∷ []) (parts_of (instructions rest)) (fresh lines (suc (suc count)) run (suc index) run_label true begins)
    ∙ ap (λ open_parts. blocks ++ open_parts) (resumed-push label entries e (parts_of (instructions rest)) ∙ sym (resumed-put label entries l (parts_of (instructions rest)) h left)))
put-full false n line lines ih blocks label entries count run index run_label after h left full =
    let e : Entry = entry_at_line n line count in
    let l : Line = record { number = suc count; bytes = line; class = Instruction false n; run = run; index = index; label = run_label } in
    let rest = classes_from (suc (suc count)) run (suc index) run_label true lines in
    let few : suc (length entries) ≡ BLOCK_LIMIT → ⊥ = λ many. eqb-false (length (entries ++ e ∷ [])) BLOCK_LIMIT full (length-push entries e ∙ many) in
    ih blocks label (entries ++ e ∷ []) (suc count) run (suc index) run_label true (next-index index (length entries) h few ∙ sym (length-push entries e)) (left-push label run_label index entries e left)
    ∙ ap (λ open_parts. unless_refused (refusal rest) (blocks ++ open_parts)) (resumed-push label entries e (parts_of (instructions rest)) ∙ sym (resumed-put label entries l (parts_of (instructions rest)) h left))

-- an instruction that begins no run
read-put : (n : Instr) (line : List ℕ) (lines : List Flagged) → Read lines →
    (blocks : List Block) (label : List ℕ) (entries : List Entry) (count run index : ℕ) (run_label : List ℕ) (after : Bool) →
    index % BLOCK_LIMIT ≡ length entries → label ≡ left_label run_label index (length entries) →
    read_class (record { blocks = blocks; label = label; entries = entries; count = count; after = after }) (Instruction false n) line lines
    ≡ class_answer blocks label entries count run index run_label (Instruction false n) line lines
read-put n line lines ih blocks label entries count run index run_label after h left =
    put-full (eqb (length (entries ++ entry_at_line n line count ∷ [])) BLOCK_LIMIT) n line lines ih blocks label entries count run index run_label after h left refl

-- one that begins a run
read-begin : (n : Instr) (line : List ℕ) (lines : List Flagged) → Read lines →
    (blocks : List Block) (label : List ℕ) (entries : List Entry) (count run index : ℕ) (run_label : List ℕ) (after : Bool) →
    read_class (record { blocks = blocks; label = label; entries = entries; count = count; after = after }) (Instruction true n) line lines
    ≡ class_answer blocks label entries count run index run_label (Instruction true n) line lines
read-begin n line lines ih blocks label entries count run index run_label after =
    let new : List ℕ = label_bytes (body line) in
    let e : Entry = entry_at_line n line count in
    let l : Line = record { number = suc count; bytes = line; class = Instruction true n; run = suc run; index = 0; label = new } in
    let rest = classes_from (suc (suc count)) (suc run) 1 new true lines in
    ih (with_open blocks label entries) new (e ∷ []) (suc count) (suc run) 1 new true refl refl
    ∙ ap (unless_refused (refusal rest))
    (ap (λ parts. with_open blocks label entries ++ parts) (sym (blocks-put l (parts_of (instructions rest))))
    ∙ end_block-resumed blocks label [] entries (put_before l (parts_of (instructions rest))) (Begins-put l (parts_of (instructions rest)) refl))

-- a line that ends the open block, and leaves this label to the next
read-end : (next : List ℕ) (lines : List Flagged) → Read lines → (blocks : List Block) (label : List ℕ) (entries : List Entry) (count run : ℕ) (after : Bool) →
    read_from (record { blocks = with_open blocks label entries; label = next; entries = []; count = suc count; after = after }) lines
    ≡ unless_refused (refusal (classes_from (suc (suc count)) (suc run) 0 next after lines)) (blocks ++ resumed label entries (parts_of (instructions (classes_from (suc (suc count)) (suc run) 0 next after lines))))
read-end next lines ih blocks label entries count run after =
    ih (with_open blocks label entries) next [] (suc count) (suc run) 0 next after refl refl
    ∙ ap (unless_refused (refusal (classes_from (suc (suc count)) (suc run) 0 next after lines)))
    (end_block-resumed blocks label next entries (parts_of (instructions (classes_from (suc (suc count)) (suc run) 0 next after lines))) (fresh lines (suc (suc count)) (suc run) 0 next after refl))

read-class : (c : Class) (line : List ℕ) (lines : List Flagged) → Read lines →
    (blocks : List Block) (label : List ℕ) (entries : List Entry) (count run index : ℕ) (run_label : List ℕ) (after : Bool) →
    index % BLOCK_LIMIT ≡ length entries → label ≡ left_label run_label index (length entries) →
    read_class (record { blocks = blocks; label = label; entries = entries; count = count; after = after }) c line lines ≡ class_answer blocks label entries count run index run_label c line lines
read-class Comment line lines ih blocks label entries count run index run_label after h left = ih blocks label entries (suc count) run index run_label false h left
read-class Other line lines ih blocks label entries count run index run_label after h left = read-end [] lines ih blocks label entries count run false
read-class Refused line lines ih blocks label entries count run index run_label after h left = refl
read-class (Pad true) line lines ih blocks label entries count run index run_label after h left = read-end (label_bytes (body line)) lines ih blocks label entries count run true
read-class (Pad false) line lines ih blocks label entries count run index run_label after h left = ih blocks label entries (suc count) run index run_label true h left
read-class (Instruction true n) line lines ih blocks label entries count run index run_label after h left = read-begin n line lines ih blocks label entries count run index run_label after
read-class (Instruction false n) line lines ih blocks label entries count run index run_label after h left = read-put n line lines ih blocks label entries count run index run_label after h left

-- whether the line is too long, and whether it is one too many
read-line : (long many : Bool) (c : Class) (line : List ℕ) (lines : List Flagged) → Read lines →
    (blocks : List Block) (label : List ℕ) (entries : List Entry) (count run index : ℕ) (run_label : List ℕ) (after : Bool) →
    index % BLOCK_LIMIT ≡ length entries → label ≡ left_label run_label index (length entries) →
    and_then (if long then Err (LineTooLong (suc count)) else (if many then Err TooLarge
    else by_class (record { blocks = blocks; label = label; entries = entries; count = count; after = after }) c (label_bytes (body line)) (from_operation (body line)))) (λ t. read_from t lines)
    ≡ unless_refused (or_else (if long then Some (LineTooLong (suc count)) else (if many then Some TooLarge else operand_refusal (suc count) c))
    (refusal (classes_from (suc (suc count)) (run_after run c) (place_after index c) (label_after run_label c line) (is_code c) lines)))
    (blocks ++ resumed label entries (parts_of (instructions (from_class (suc count) run index run_label c line lines))))
read-line true many c line lines ih blocks label entries count run index run_label after h left = refl
read-line false true c line lines ih blocks label entries count run index run_label after h left = refl
read-line false false c line lines ih blocks label entries count run index run_label after h left = read-class c line lines ih blocks label entries count run index run_label after h left

pub then-then : {A B C : Type 0} (r : Result A SourceError) (f : A → Result B SourceError) (g : B → Result C SourceError) → and_then (and_then r f) g ≡ and_then r (λ x. and_then (f x) g)
then-then (Ok x) f g = refl
then-then (Err e) f g = refl

last-open : (blocks : List Block) (label : List ℕ) (entries : List Entry) → with_open blocks label entries ≡ blocks ++ resumed label entries []
last-open blocks label [] = sym (append-nil blocks)
last-open blocks label (e ∷ es) = ap (λ entries. blocks ++ labelled label entries ∷ []) (sym (append-nil (e ∷ es)))

too-many : (count : ℕ) → nat_lt SOURCE_LINES_LIMIT (suc count) ≡ nat_le SOURCE_LINES_LIMIT count
too-many count = leb-suc-suc SOURCE_LINES_LIMIT count

read-all : (lines : List Flagged) → Read lines
read-all [] blocks label entries count run index run_label after h left = ap Ok (last-open blocks label entries)
read-all (line ∷ lines) blocks label entries count run index run_label after h left =
    then-then (line_step (record { blocks = blocks; label = label; entries = entries; count = count; after = after }) line) (λ t. lines_step t lines) (λ t. Ok (with_open t.blocks t.label t.entries))
    ∙ rw (too-many count) (read-line (nat_lt LINE_BYTES_LIMIT (length line.bytes)) (nat_le SOURCE_LINES_LIMIT count) (class_at after line) line.bytes lines (read-all lines) blocks label entries count run index run_label after h left)

-- reading from the start is the definition
pub read_from-start : (source : Reading) → read_from start (flagged_lines source) ≡ source_of source
read_from-start source = read-all (flagged_lines source) [] [] [] 0 0 0 [] false refl refl

-- the blocks at the end
pub source-blocks : (source : Reading) (s r t : SourceState) → s ≡ start → lines_step s (flagged_lines source) ≡ Ok r → t ≡ end_block r → source_of source ≡ Ok t.blocks
source-blocks source s r t begin_run read closed =
    sym (read_from-start source) ∙ ap (λ u. read_from u (flagged_lines source)) (sym begin_run) ∙ ap (λ made. and_then made (λ u. Ok (with_open u.blocks u.label u.entries))) read ∙ ap (λ u. Ok u.blocks) (sym closed)

abbrev is_accepted : Result (List Block) SourceError → Bool
is_accepted (Ok blocks) = true
is_accepted (Err e) = false

accepted-blocks : (refused : Option SourceError) (found blocks : List Block) → unless_refused refused found ≡ Ok blocks → unless_refused refused found ≡ Ok found
accepted-blocks None found blocks h = refl
accepted-blocks (Some e) found blocks h = absurd (true≢false (sym (ap is_accepted h)))

-- a source that is accepted has the blocks of its lines
pub Gives-accepted : (source : Reading) (blocks : List Block) → source_of source ≡ Ok blocks → source_of source ≡ Ok (blocks_of (classed_lines source))
Gives-accepted source blocks h = accepted-blocks (refusal (classed_lines source)) (blocks_of (classed_lines source)) blocks h

-- the refusal
pub Gives-refusal : {X : Type 0} (view : X → List Block) (e : SourceError) (source : Reading) (s new : SourceState) → s ≡ start → Steps new (Err e) (lines_step s (flagged_lines source)) → Gives view (Err e) (source_of source)
Gives-refusal view OutOfMemory source s new begin_run read = tt
Gives-refusal view e source s new begin_run read =
    sym (read_from-start source) ∙ ap (λ u. read_from u (flagged_lines source)) (sym begin_run) ∙ ap (λ made. and_then made (λ u. Ok (with_open u.blocks u.label u.entries))) read
