-- Printing a source by the lines that are kept of it gives the text of the definition.
use Rattle.std.proofs.Common.{◌≡◌, ◌≤◌, ◌<◌, ◌+◌, ◌-◌, ◌==◌, ◌&&◌, ◌∙◌, ℕ, zero, suc, Bool, true, false, if◌then◌else◌, Option, None, Some, List, [], ◌∷◌, ◌++◌, codes, drop, get_or, is_some, length}
use Rattle.std.proofs.Common.{map, nat_lt, slice_get, refl, sym, ap, ap₂, subst, inl, inr, arith, append_assoc, MatchOption, Ok, option_map, eq-eqb, le-ltb, lt-ltb, ne_eqb, append-nil}
use Rattle.std.proofs.lemmas.Bool.{cases_lt}
use Rattle.std.proofs.lemmas.List.{drop_all}
use Rattle.s66_isa.specs.{Among}
use Rattle.s66_line.specs.{Block, Entry, line_of, body, Class, Comment, Other, Refused, Pad, Instruction}
use Rattle.s66_source.specs.{bytes_on, indent, indents, block_at, bytes_at, bytes_in, indents_by, note_by_kind, note_in, owner_by, placed_of, text_by, text_in, whole_text, KeptLine, begins_at}
use Rattle.s66_source.specs.{kept_line, kind_of, Reading, flagged_lines, Placed, notes_text, AreGiven, anew_text, begins, line_text, owner, replaced, text_for, texts_of, is_comment_class, is_note_of}
use Rattle.s66_source.specs.{Line, blocks_of, classed_lines, source_of, SOURCE_LINES_LIMIT}
use Rattle.s66_source.specs.Keeper.{Keeper}
use Rattle.s66_source.specs.declared.columns.Columns.{Columns}
use Rattle.s66_source.proofs.LineLaw.{outside}
use Rattle.s66_source.proofs.LineTexts.{count_after, first_of, text_at}
use Rattle.s66_source.proofs.PrintedLines.{Ordered, ordered-classed, run_behind}
use Rattle.s66_source.proofs.Settled.{AreSettled, IsSettled, item-next, map-first, settled-source}

ordered-lines : (source : Reading) → Ordered 1 0 (classed_lines source)
ordered-lines source = ordered-classed (flagged_lines source) 1 0 0 [] false

-- THE NOTES of a block

notes-past : (block : Block) (number run : ℕ) (lines : List Line) → Ordered number run lines → line_of block (length block.entries) ≤ number → notes_text block lines ≡ []
notes-past block number run [] h last = refl
notes-past block number run (l ∷ lines) h last =
    let none : is_note_of l block ≡ false = outside (is_comment_class l.class) (line_of block 1) l.number (line_of block (length block.entries)) (inr (omega (arith, h.0, last))) in
    rw none (notes-past block (suc number) (run_behind l) lines h.2 (omega (arith, last)))

notes-skip : (block : Block) (n number run : ℕ) (lines : List Line) → Ordered number run lines → number + n ≤ suc (line_of block 1) → notes_text block lines ≡ notes_text block (drop n lines)
notes-skip block zero number run lines h le = refl
notes-skip block (suc n) number run [] h le = refl
notes-skip block (suc n) number run (l ∷ lines) h le =
    let none : is_note_of l block ≡ false = outside (is_comment_class l.class) (line_of block 1) l.number (line_of block (length block.entries)) (inl (omega (arith, h.0, le))) in
    rw none (notes-skip block n (suc number) (run_behind l) lines h.2 (omega (arith, le)))

note-here : (c : Class) (bytes : List ℕ) (s t : Bool) → s ≡ true → t ≡ true → (if is_comment_class c && s && t then body bytes ++ codes "\n" else []) ≡ note_by_kind (kind_of c) bytes
note-here Comment bytes s t first last = rw (first, last) refl
note-here Other bytes s t first last = refl
note-here Refused bytes s t first last = refl
note-here (Pad located) bytes s t first last = refl
note-here (Instruction located i) bytes s t first last = refl

notes-from : (block : Block) (n number run : ℕ) (lines : List Line) → Ordered number run lines → line_of block 1 < number + n → number + n < line_of block (length block.entries) →
    notes_text block (drop n lines) ≡ note_in (slice_get (map kept_line lines) n) ++ notes_text block (drop (suc n) lines)
notes-from block zero number run [] h first last = refl
notes-from block (suc n) number run [] h first last = refl
notes-from block zero number run (l ∷ lines) h first last =
    ap (λ text. text ++ notes_text block lines)
    (note-here l.class l.bytes (nat_lt (line_of block 1) l.number) (nat_lt l.number (line_of block (length block.entries))) (lt-ltb (line_of block 1) l.number (omega (arith, h.0, first))) (lt-ltb l.number (line_of block (length block.entries)) (omega (arith, h.0, last))))
notes-from block (suc n) number run (l ∷ lines) h first last = notes-from block n (suc number) (run_behind l) lines h.2 (omega (arith, first)) (omega (arith, last))

ordered-drop : (n number run : ℕ) (lines : List Line) → Ordered number run lines → (after : ℕ) × Ordered (number + n) after (drop n lines)
ordered-drop zero number run lines h = let same : number + 0 ≡ number = omega arith in (run, subst (λ k. Ordered k run lines) (sym same) h)
ordered-drop (suc n) number run [] h = (run, tt)
ordered-drop (suc n) number run (l ∷ lines) h =
    let (after, rest) = ordered-drop n (suc number) (run_behind l) lines h.2 in
    let same : suc number + n ≡ number + suc n = omega arith in
    (after, subst (λ k. Ordered k after (drop n lines)) same rest)

pub notes-first : (source : Reading) (block : Block) → notes_text block (classed_lines source) ≡ notes_text block (drop (line_of block 1) (classed_lines source))
notes-first source block = notes-skip block (line_of block 1) 1 0 (classed_lines source) (ordered-lines source) (omega arith)

notes-next : (source : Reading) (block : Block) (n : ℕ) → line_of block 1 ≤ n → suc n < line_of block (length block.entries) →
    notes_text block (drop n (classed_lines source)) ≡ note_in (slice_get (map kept_line (classed_lines source)) n) ++ notes_text block (drop (suc n) (classed_lines source))
notes-next source block n first last = notes-from block n 1 0 (classed_lines source) (ordered-lines source) (omega (arith, first)) (omega (arith, last))

-- one line more
pub notes-step : (source : Reading) (block : Block) (lines : List KeptLine) (n : ℕ) (out new whole : List ℕ) → lines ≡ map kept_line (classed_lines source) → line_of block 1 ≤ n → suc n < line_of block (length block.entries) →
    new ≡ out ++ note_in (slice_get lines n) → out ++ notes_text block (drop n (classed_lines source)) ≡ whole → new ++ notes_text block (drop (n + 1) (classed_lines source)) ≡ whole
notes-step source block lines n out new whole same first last printed text =
    let one : n + 1 ≡ suc n = omega arith in
    let all : List Line = classed_lines source in
    ap₂ (λ (text : List ℕ) m. text ++ notes_text block (drop m all)) (printed ∙ ap (λ ls. out ++ note_in (slice_get ls n)) same) one
    ∙ append_assoc out (note_in (slice_get (map kept_line all) n)) (notes_text block (drop (suc n) all))
    ∙ ap (λ (notes : List ℕ). out ++ notes) (sym (notes-next source block n first last))
    ∙ text

pub notes-last : (source : Reading) (block : Block) (n : ℕ) → line_of block (length block.entries) ≤ suc n → notes_text block (drop n (classed_lines source)) ≡ []
notes-last source block n last =
    let (after, ordered) = ordered-drop n 1 0 (classed_lines source) (ordered-lines source) in
    notes-past block (1 + n) after (drop n (classed_lines source)) ordered (omega (arith, last))

-- THE BLANKS before each instruction of a block

bytes-none : (number run : ℕ) (lines : List Line) → Ordered (suc number) run lines → bytes_on lines 0 ≡ []
bytes-none number run [] h = refl
bytes-none number run (l ∷ lines) h = rw (ne_eqb l.number 0 (λ same. absurd (omega (arith, same, h.0)))) (bytes-none (suc number) (run_behind l) lines h.2)

bytes-from : (k number run : ℕ) (lines : List Line) → Ordered number run lines → bytes_on lines (number + k) ≡ bytes_in (slice_get (map kept_line lines) k)
bytes-from zero number run [] h = refl
bytes-from (suc k) number run [] h = refl
bytes-from zero number run (l ∷ lines) h = rw (eq-eqb l.number (number + 0) (omega (arith, h.0))) refl
bytes-from (suc k) number run (l ∷ lines) h =
    let same : number + suc k ≡ suc number + k = omega arith in
    rw (ne_eqb l.number (number + suc k) (λ here. absurd (omega (arith, here, h.0)))) (ap (bytes_on lines) same ∙ bytes-from k (suc number) (run_behind l) lines h.2)

bytes-kept : (source : Reading) (n : ℕ) → bytes_at (map kept_line (classed_lines source)) n ≡ bytes_on (classed_lines source) n
bytes-kept source zero = sym (bytes-none 0 0 (classed_lines source) (ordered-lines source))
bytes-kept source (suc n) = (let one : suc n ≡ 1 + n = omega arith in sym (ap (bytes_on (classed_lines source)) one ∙ bytes-from n 1 0 (classed_lines source) (ordered-lines source)))

pub indents-kept : (source : Reading) (columns : Columns) (block : Block) → indents_by columns (map kept_line (classed_lines source)) block ≡ indents columns (classed_lines source) block
indents-kept source columns block = each block.entries
  where
    each : (entries : List Entry) → map (λ (e : Entry). indent columns (bytes_at (map kept_line (classed_lines source)) e.line)) entries ≡ map (λ (e : Entry). indent columns (bytes_on (classed_lines source) e.line)) entries
    each [] = refl
    each (e ∷ entries) = ap₂ (λ n ns. n ∷ ns) (ap (indent columns) (bytes-kept source e.line)) (each entries)

-- of one of them
indent-from : (columns : Columns) (lines : List KeptLine) (entries : List Entry) (label : List ℕ) (k : ℕ) → k < length entries →
    indent columns (bytes_at lines (line_of (record { label = label; entries = entries }) (suc k))) ≡ get_or (map (λ (e : Entry). indent columns (bytes_at lines e.line)) entries) k 0
indent-from columns lines [] label k last = absurd (omega (arith, last))
indent-from columns lines (e ∷ entries) label zero last = refl
indent-from columns lines (e ∷ entries) label (suc k) last = indent-from columns lines entries label k (omega (arith, last))

pub indent-at : (columns : Columns) (lines : List KeptLine) (entries : List Entry) (label : List ℕ) (n : ℕ) → 1 ≤ n → n ≤ length entries →
    indent columns (bytes_at lines (line_of (record { label = label; entries = entries }) n)) ≡ get_or (map (λ (e : Entry). indent columns (bytes_at lines e.line)) entries) (n - 1) 0
indent-at columns lines entries label zero first last = absurd (omega (arith, first))
indent-at columns lines entries label (suc k) first last =
    let same : k ≡ suc k - 1 = omega arith in
    indent-from columns lines entries label k (omega (arith, last)) ∙ ap (λ j. get_or (map (λ (e : Entry). indent columns (bytes_at lines e.line)) entries) j 0) same

-- THE TEXTS of blocks, the first of which is the n-th

module _ (quiet : Bool) (columns : Columns) (all : List Line) where
  past-text : (n i : ℕ) (blocks : List Block) (gs : List (Option Placed)) → length blocks ≤ i → get_or (texts_of quiet columns all n blocks gs) i None ≡ None
  past-text n i [] gs le = refl
  past-text n i (block ∷ blocks) [] le = refl
  past-text n zero (block ∷ blocks) (g ∷ gs) le = absurd (omega (arith, le))
  past-text n (suc i) (block ∷ blocks) (None ∷ gs) le = past-text (suc n) i blocks gs (omega (arith, le))
  past-text n (suc i) (block ∷ blocks) (Some p ∷ gs) le = past-text (suc n) i blocks gs (omega (arith, le))

  no-text : (n i : ℕ) (blocks : List Block) (gs : List (Option Placed)) → get_or gs i None ≡ None → get_or (texts_of quiet columns all n blocks gs) i None ≡ None
  no-text n i [] gs none = refl
  no-text n i (block ∷ blocks) [] none = refl
  no-text n zero (block ∷ blocks) (None ∷ gs) none = refl
  no-text n zero (block ∷ blocks) (Some p ∷ gs) none = cc
  no-text n (suc i) (block ∷ blocks) (None ∷ gs) none = no-text (suc n) i blocks gs none
  no-text n (suc i) (block ∷ blocks) (Some p ∷ gs) none = no-text (suc n) i blocks gs none

  some-text : (n i : ℕ) (blocks : List Block) (gs : List (Option Placed)) (p : Placed) → get_or gs i None ≡ Some p → i < length blocks →
      (block : Block) × (slice_get blocks i ≡ Some block) × (get_or (texts_of quiet columns all n blocks gs) i None ≡ Some (anew_text quiet columns all (n + i) block p))
  some-text n i [] gs p some lt = absurd (omega (arith, lt))
  some-text n i (block ∷ blocks) [] p some lt = cc
  some-text n zero (block ∷ blocks) (None ∷ gs) p some lt = cc
  some-text n zero (block ∷ blocks) (Some q ∷ gs) p some lt =
      let same : q ≡ p = cc in
      let number : n ≡ n + 0 = omega arith in
      (block, refl, ap₂ (λ k r. Some (anew_text quiet columns all k block r)) number same)
  some-text n (suc i) (block ∷ blocks) (None ∷ gs) p some lt =
      let (found, is, text) = some-text (suc n) i blocks gs p some (omega (arith, lt)) in
      let number : suc n + i ≡ n + suc i = omega arith in
      (found, is, text ∙ ap (λ k. Some (anew_text quiet columns all k found p)) number)
  some-text n (suc i) (block ∷ blocks) (Some q ∷ gs) p some lt =
      let (found, is, text) = some-text (suc n) i blocks gs p some (omega (arith, lt)) in
      let number : suc n + i ≡ n + suc i = omega arith in
      (found, is, text ∙ ap (λ k. Some (anew_text quiet columns all k found p)) number)

  -- of the block of a number that stands
  pub text-stands : (blocks : List Block) (gs : List (Option Placed)) (number : ℕ) → placed_of blocks gs number ≡ None → text_for (texts_of quiet columns all 1 blocks gs) number ≡ None
  text-stands blocks gs zero none = refl
  text-stands blocks gs (suc i) none =
      elim (cases_lt i (length blocks)) [
        | inl lt ↦ no-text 1 i blocks gs (sym (ap (λ t. if t then get_or gs i None else None) (lt-ltb i (length blocks) lt)) ∙ none)
        | inr le ↦ past-text 1 i blocks gs le
      ]

  -- or is printed anew
  pub text-anew : (blocks : List Block) (gs : List (Option Placed)) (number : ℕ) (p : Placed) → placed_of blocks gs number ≡ Some p →
      (block : Block) × (slice_get blocks (number - 1) ≡ Some block) × (text_for (texts_of quiet columns all 1 blocks gs) number ≡ Some (anew_text quiet columns all number block p))
  text-anew blocks gs zero p some = cc
  text-anew blocks gs (suc i) p some =
      elim (cases_lt i (length blocks)) [
        | inl lt ↦
            let (block, is, text) = some-text 1 i blocks gs p (sym (ap (λ t. if t then get_or gs i None else None) (lt-ltb i (length blocks) lt)) ∙ some) lt in
            let same : suc i - 1 ≡ i = omega arith in
            let number : 1 + i ≡ suc i = omega arith in
            (block, ap (slice_get blocks) same ∙ is, text ∙ ap (λ j. Some (anew_text quiet columns all j block p)) number)
        | inr le ↦ no-place (sym (ap (λ t. if t then get_or gs i None else None) (le-ltb i (length blocks) le)) ∙ some)
      ]
    where
      no-place : {X : Type 0} → None ≡ Some p → X
      no-place is = cc

-- the numbers of an order are its block's
pub given-order : (blocks : List Block) (gs : List (Option Placed)) (number : ℕ) (block : Block) (p : Placed) → AreGiven blocks gs → placed_of blocks gs (suc number) ≡ Some p → slice_get blocks number ≡ Some block → (m : ℕ) → Among m p.order → (1 ≤ m) × (m ≤ length block.entries)
given-order blocks gs number block p are some is m among = by_place number blocks gs are (by_test (nat_lt number (length blocks)) some) is
  where
    by_test : (t : Bool) → (if t then get_or gs number None else None) ≡ Some p → get_or gs number None ≡ Some p
    by_test true some = some
    by_test false some = cc

    by_place : (i : ℕ) (blocks : List Block) (gs : List (Option Placed)) → AreGiven blocks gs → get_or gs i None ≡ Some p → slice_get blocks i ≡ Some block → (1 ≤ m) × (m ≤ length block.entries)
    by_place i [] gs are some is = cc
    by_place i (b ∷ blocks) [] are some is = cc
    by_place zero (b ∷ blocks) (None ∷ gs) are some is = cc
    by_place zero (b ∷ blocks) (Some q ∷ gs) are some is =
        let placed : q ≡ p = cc in
        let same : b ≡ block = cc in
        subst (λ (x : Block). (1 ≤ m) × (m ≤ length x.entries)) same (are.0 m (subst (λ (x : Placed). Among m x.order) (sym placed) among))
    by_place (suc i) (b ∷ blocks) (None ∷ gs) are some is = by_place i blocks gs are some is
    by_place (suc i) (b ∷ blocks) (Some q ∷ gs) are some is = by_place i blocks gs are.1 some is

-- WHAT IS PRINTED FOR A LINE

is_some-block_at : (next : Option Block) (number : ℕ) → is_some (block_at next number) ≡ begins_at next number
is_some-block_at None number = refl
is_some-block_at (Some block) number = elim (line_of block 1 == number) as (λ t. is_some (if t then Some block else None) ≡ t) [ true ↦ refl | false ↦ refl ]

block_at-is : (next : Option Block) (number : ℕ) (block : Block) → block_at next number ≡ Some block → next ≡ Some block
block_at-is None number block is = cc
block_at-is (Some b) number block is = by_test (line_of b 1 == number) is
  where
    by_test : (t : Bool) → (if t then Some b else None) ≡ Some block → Some b ≡ Some block
    by_test true is = is
    by_test false is = cc

-- the texts of the blocks
abbrev pub texts_by : Keeper → List (Option (List ℕ))
texts_by k = texts_of k.quiet k.columns (classed_lines k.source) 1 (blocks_of (classed_lines k.source)) k.given

pub text-kept : (k : Keeper) (number m : ℕ) (l : Line) → IsSettled (classed_lines k.source) number m l → text_by k number m (kept_line l) ≡ text_at (classed_lines k.source) (texts_by k) l
text-kept k number m l s =
    ap (λ t. text_in k (suc m) (placed_of (blocks_of all) k.given (owner_by (map kept_line all) (blocks_of all) number m t (kept_line l))) next l.bytes) begins_is
    ∙ ap (λ n. text_in k (suc m) (placed_of (blocks_of all) k.given n) next l.bytes) (sym s.owner_is)
    ∙ by_placed (placed_of (blocks_of all) k.given (owner all l)) refl
  where
    all : List Line
    all = classed_lines k.source

    next : Option Block
    next = block_at (slice_get (blocks_of all) m) number

    begins_is : is_some next ≡ first_of l
    begins_is = is_some-block_at (slice_get (blocks_of all) m) number ∙ s.begins_is

    own : first_of l ≡ true → owner all l ≡ suc m
    own first = s.owner_is ∙ ap (λ t. owner_by (map kept_line all) (blocks_of all) number m t (kept_line l)) first

    by_placed : (placed : Option Placed) → placed_of (blocks_of all) k.given (owner all l) ≡ placed → text_in k (suc m) placed next l.bytes ≡ text_at all (texts_by k) l
    by_placed None none = sym (ap (λ text. line_text (begins all l) text l) (text-stands k.quiet k.columns all (blocks_of all) k.given (owner all l) none))
    by_placed (Some p) some =
        let (block, is, text) = text-anew k.quiet k.columns all (blocks_of all) k.given (owner all l) p some in
        by_next block is next refl ∙ sym (ap₂ (λ t text. line_text t text l) s.told.begins text)
      where
        by_next : (block : Block) → slice_get (blocks_of all) (owner all l - 1) ≡ Some block → (found : Option Block) → next ≡ found →
            text_in k (suc m) (Some p) found l.bytes ≡ (if first_of l then anew_text k.quiet k.columns all (owner all l) block p else [])
        by_next block is None none = sym (ap (λ t. if t then anew_text k.quiet k.columns all (owner all l) block p else []) (sym begins_is ∙ ap is_some none))
        by_next block is (Some b) here =
            let first : first_of l ≡ true = sym begins_is ∙ ap is_some here in
            let number_is : owner all l ≡ suc m = own first in
            let place : owner all l - 1 ≡ m = omega (arith, number_is) in
            let both : Some block ≡ Some b = sym is ∙ ap (slice_get (blocks_of all)) place ∙ block_at-is (slice_get (blocks_of all) m) number b here in
            let same : block ≡ b = cc in
            ap₂ (λ n found. anew_text k.quiet k.columns all n found p) (sym number_is) (sym same)
            ∙ sym (ap (λ t. if t then anew_text k.quiet k.columns all (owner all l) block p else []) first)

-- ALL LINES

-- after so many lines, in which so many blocks begin: these are the lines to come, and what is printed of them comes behind what was
pub record IsPrinting (k : Keeper) (rest : List KeptLine) (number begun : ℕ) (out whole : List ℕ) : Type 0 where
  pub lines : List Line
  pub left : rest ≡ map kept_line lines
  pub settled : AreSettled (classed_lines k.source) (suc number) begun lines
  pub text : out ++ replaced (classed_lines k.source) (texts_by k) lines ≡ whole
  pub counts : begun ≤ number

pub printing-first : (k : Keeper) (rest : List KeptLine) (out : List ℕ) → source_of k.source ≡ Ok (blocks_of (classed_lines k.source)) → rest ≡ map kept_line (classed_lines k.source) → IsPrinting k rest 0 0 out (out ++ whole_text k)
printing-first k rest out accepted is = record {
  lines = classed_lines k.source;
  left = is;
  settled = settled-source k.source (blocks_of (classed_lines k.source)) accepted;
  text = refl;
  counts = omega arith;
}

printing-next : (k : Keeper) (rest : List KeptLine) (number begun : ℕ) (out whole : List ℕ) (line : KeptLine) (more : List KeptLine) → IsPrinting k rest number begun out whole → rest ≡ line ∷ more →
    (suc number ≤ SOURCE_LINES_LIMIT) × ((new : List ℕ) (after : ℕ) → new ≡ out ++ text_by k (suc number) begun line → after ≡ (if is_some (block_at (slice_get (blocks_of (classed_lines k.source)) begun) (suc number)) then suc begun else begun) → IsPrinting k more (suc number) after new whole)
printing-next k rest number begun out whole line more p is =
    let (l, ls, lines, here, later) = map-first kept_line p.lines line more (sym p.left ∙ is) in
    let settled : AreSettled all (suc number) begun (l ∷ ls) = subst (AreSettled all (suc number) begun) lines p.settled in
    let one = settled.0 in
    let some : is_some (block_at (slice_get (blocks_of all) begun) (suc number)) ≡ first_of l = is_some-block_at (slice_get (blocks_of all) begun) (suc number) ∙ one.begins_is in (
      one.few,
      λ new after printed counted.
          let next : after ≡ count_after (first_of l) begun = counted ∙ ap (λ (t : Bool). if t then suc begun else begun) some in
          record {
            lines = ls;
            left = sym later;
            settled = subst (λ m. AreSettled all (suc (suc number)) m ls) (sym next) settled.1;
            text =
                ap (λ text. text ++ replaced all (texts_by k) ls) (printed ∙ ap (λ x. out ++ text_by k (suc number) begun x) (sym here) ∙ ap (λ text. out ++ text) (text-kept k (suc number) begun l one))
                ∙ append_assoc out (text_at all (texts_by k) l) (replaced all (texts_by k) ls)
                ∙ ap (λ ls. out ++ replaced all (texts_by k) ls) (sym lines)
                ∙ p.text;
            counts = (let le = by_test (is_some (block_at (slice_get (blocks_of all) begun) (suc number))) p.counts in omega (arith, le, counted));
          },
    )
  where
    all : List Line
    all = classed_lines k.source

    by_test : (t : Bool) → begun ≤ number → (if t then suc begun else begun) ≤ suc number
    by_test true le = omega (arith, le)
    by_test false le = omega (arith, le)

printing-last : (k : Keeper) (rest : List KeptLine) (number begun : ℕ) (out whole : List ℕ) → IsPrinting k rest number begun out whole → rest ≡ [] → out ≡ whole
printing-last k rest number begun out whole p none = by_lines p.lines (sym p.left ∙ none) p.text
  where
    by_lines : (lines : List Line) → map kept_line lines ≡ [] → out ++ replaced (classed_lines k.source) (texts_by k) lines ≡ whole → out ≡ whole
    by_lines [] none text = sym (append-nil out) ∙ text
    by_lines (l ∷ lines) none text = cc

-- AS THE FUNCTIONS GO

is_some-map : {X Y : Type 0} (f : X → Y) (o : Option X) → is_some o ≡ is_some (option_map f o)
is_some-map f None = refl
is_some-map f (Some x) = refl

pub match-map : {X : Type 0} (f : X → Placed) (o : Option X) (p : Option Placed) → MatchOption o (p ≡ None) (λ x. p ≡ Some (f x)) → option_map f o ≡ p
match-map f None p none = sym none
match-map f (Some x) p some = sym some

-- the line, by what was found of it
module _ (k : Keeper) (number begun own : ℕ) (line : KeptLine) {X : Type 0} (f : X → Block) (o : Option X) (begins : Bool)
    (at : option_map f o ≡ block_at (slice_get (blocks_of (classed_lines k.source)) begun) number) (some : begins ≡ is_some o)
    (owned : own ≡ owner_by (map kept_line (classed_lines k.source)) (blocks_of (classed_lines k.source)) number begun begins line) where
  begins-is : begins ≡ is_some (block_at (slice_get (blocks_of (classed_lines k.source)) begun) number)
  begins-is = some ∙ is_some-map f o ∙ ap is_some at

  pub printed-line : (placed : Option Placed) → placed ≡ placed_of (blocks_of (classed_lines k.source)) k.given own → text_in k (suc begun) placed (option_map f o) line.bytes ≡ text_by k number begun line
  printed-line placed is =
      ap₂ (λ p b. text_in k (suc begun) p b line.bytes)
      (is ∙ ap (placed_of (blocks_of (classed_lines k.source)) k.given) (owned ∙ ap (λ t. owner_by (map kept_line (classed_lines k.source)) (blocks_of (classed_lines k.source)) number begun t line) begins-is)) at

  pub counted-line : (after : ℕ) → after ≡ (if begins then suc begun else begun) → after ≡ (if is_some (block_at (slice_get (blocks_of (classed_lines k.source)) begun) number) then suc begun else begun)
  counted-line after is = is ∙ ap (λ (t : Bool). if t then suc begun else begun) begins-is

  pub given-line : (placed : Option Placed) (p : Placed) (b : Block) → AreGiven (blocks_of (classed_lines k.source)) k.given → placed ≡ placed_of (blocks_of (classed_lines k.source)) k.given own → placed ≡ Some p → option_map f o ≡ Some b →
      (n : ℕ) → Among n p.order → (1 ≤ n) × (n ≤ length b.entries)
  given-line placed p b are is some_placed some_block =
      let first : begins ≡ true = some ∙ is_some-map f o ∙ ap is_some some_block in
      let second : own ≡ suc begun = owned ∙ ap (λ t. owner_by (map kept_line (classed_lines k.source)) (blocks_of (classed_lines k.source)) number begun t line) first in
      given-order (blocks_of (classed_lines k.source)) k.given begun b p are (sym (ap (placed_of (blocks_of (classed_lines k.source)) k.given) second) ∙ sym is ∙ some_placed)
      (block_at-is (slice_get (blocks_of (classed_lines k.source)) begun) number b (sym at ∙ some_block))

-- over these lines by their indices
module _ (k : Keeper) (lines : List KeptLine) (same : lines ≡ map kept_line (classed_lines k.source)) (i number begun : ℕ) (out whole : List ℕ) (line : KeptLine) where
  next-line : i < length lines → line ≡ get_or lines i line → drop i (map kept_line (classed_lines k.source)) ≡ line ∷ drop (i + 1) (map kept_line (classed_lines k.source))
  next-line lt is = subst (λ (ls : List KeptLine). drop i ls ≡ line ∷ drop (i + 1) ls) same (item-next lines i line lt is)

  pub few-printing : i < length lines → line ≡ get_or lines i line → IsPrinting k (drop i (map kept_line (classed_lines k.source))) number begun out whole → (number < SOURCE_LINES_LIMIT) × (begun < SOURCE_LINES_LIMIT)
  few-printing lt is p =
      let few = (printing-next k (drop i (map kept_line (classed_lines k.source))) number begun out whole line (drop (i + 1) (map kept_line (classed_lines k.source))) p (next-line lt is)).0 in
      (omega (arith, few), omega (arith, few, p.counts))

  pub printing-after : (new : List ℕ) (after : ℕ) → i < length lines → line ≡ get_or lines i line →
      new ≡ out ++ text_by k (number + 1) begun line → after ≡ (if is_some (block_at (slice_get (blocks_of (classed_lines k.source)) begun) (number + 1)) then suc begun else begun) →
      IsPrinting k (drop i (map kept_line (classed_lines k.source))) number begun out whole → IsPrinting k (drop (i + 1) (map kept_line (classed_lines k.source))) (number + 1) after new whole
  printing-after new after lt is printed counted p =
      let one : number + 1 ≡ suc number = omega arith in
      subst (λ n. IsPrinting k (drop (i + 1) (map kept_line (classed_lines k.source))) n after new whole) (sym one)
      ((printing-next k (drop i (map kept_line (classed_lines k.source))) number begun out whole line (drop (i + 1) (map kept_line (classed_lines k.source))) p (next-line lt is)).1 new after
      (printed ∙ ap (λ n. out ++ text_by k n begun line) one) (counted ∙ ap (λ n. if is_some (block_at (slice_get (blocks_of (classed_lines k.source)) begun) n) then suc begun else begun) one))

pub printing-all : (k : Keeper) (lines : List KeptLine) (i number begun : ℕ) (out whole : List ℕ) → lines ≡ map kept_line (classed_lines k.source) → length lines ≤ i → IsPrinting k (drop i (map kept_line (classed_lines k.source))) number begun out whole → out ≡ whole
printing-all k lines i number begun out whole same past p =
    printing-last k (drop i (map kept_line (classed_lines k.source))) number begun out whole p (subst (λ (ls : List KeptLine). drop i ls ≡ []) same (drop_all i lines past))
