-- The lines of a block that is printed anew, read again, are the block in its placed order.
use Rattle.std.proofs.Common.{◌≡◌, ◌≤◌, ◌<◌, ◌+◌, ◌-◌, ℕ, zero, suc, Bool, true, false, if◌then◌else◌, List, [], ◌∷◌, ◌++◌, Some, get_or, length, map, refl, sym, ap, ◌∙◌, subst, inl, inr, arith}
use Rattle.std.proofs.Common.{append_assoc, eqb, ap₂, ◌&&◌, Ok, slice_get, ne_eqb}
use Rattle.std.proofs.lemmas.Bool.{and_right, eqb-false}
use Rattle.s66_isa.specs.{Instr, Among, every, instr_at, BLOCK_LIMIT}
use Rattle.s66_line.specs.{trim, body, from_operation, label_bytes, is_trailing, is_code, is_filled, Entry, Block, instrs_of, entry_at, bytes_of, Class, Instruction}
use Rattle.s66_line.proofs.BlockEntries.{instr_at-entry}
use Rattle.s66_line.proofs.Wholes.{is_inside}
use Rattle.s66_source.specs.{bytes_on, indent, indented_line, indented_lines, indents, line_start, Line, Placed, report, notes_text, anew_text, IsPlacedAgain, SourceState, with_open, end_block}
use Rattle.s66_source.specs.{begin_run_if, with_entry, count_line, is_alone, Standing, Redefined}
use Rattle.s66_source.specs.declared.columns.Columns.{Columns}
use Rattle.s66_source.proofs.CharactersRead.{SpellsAll}
use Rattle.s66_source.proofs.ReadLine.{IsLabel, inside-start}
use Rattle.s66_source.proofs.FarOperands.{Fits, clear-printed, is_unclear, read-start}
use Rattle.s66_source.proofs.Standings.{code-line, code-stays}
use Rattle.s66_source.proofs.ReadStanding.{is_holding, not-alone, code-unflagged, continues-body, goes_on, goes-line, IsQuiet}
use Rattle.s66_source.proofs.ReadComments.{read_at, read-as, read-class, taken-class, Comments, Passes, passes-comments, comments-append, comments-nothing, comments-quiet, quiet-behind}
use Rattle.s66_source.proofs.ReadComments.{comments-report, AreLinesOfSource, comments-notes}
use Rattle.s66_source.proofs.ReaderBlocks.{labelled, length-push}

-- ENTRIES that were read

-- and aren't in doubt if a source redefines this
abbrev pub IsSound : Bool → Redefined → Entry → Type 0
IsSound cut known e = SpellsAll e.bytes e.instr × (every is_inside e.bytes ≡ true) × ((cut && is_unclear known e.bytes) ≡ false)

abbrev pub AreSound : Bool → Redefined → List Entry → Type 0
AreSound cut known [] = Unit {0}
AreSound cut known (e ∷ es) = IsSound cut known e × AreSound cut known es

-- the bytes of a number spell its instruction
abbrev pub IsSoundAt : Bool → Redefined → Block → ℕ → Type 0
IsSoundAt cut known block n = SpellsAll (bytes_of block n) (instr_at (instrs_of block) n) × (every is_inside (bytes_of block n) ≡ true) × ((cut && is_unclear known (bytes_of block n)) ≡ false)

record Found (cut : Bool) (known : Redefined) (entries : List Entry) (n : ℕ) : Type 0 where
  entry : Entry
  here : slice_get entries n ≡ Some entry
  sound : IsSound cut known entry

found : (cut : Bool) (known : Redefined) (entries : List Entry) (n : ℕ) → AreSound cut known entries → n < length entries → Found cut known entries n
found cut known [] n h few = absurd (omega (arith, few))
found cut known (e ∷ es) zero h few = record { entry = e; here = refl; sound = h.0 }
found cut known (e ∷ es) (suc n) h few =
    let later = found cut known es n h.1 (omega (arith, few)) in
    record { entry = later.entry; here = later.here; sound = later.sound }

pub bytes_of-entry : (block : Block) (n : ℕ) (e : Entry) → entry_at block n ≡ Some e → bytes_of block n ≡ e.bytes
bytes_of-entry block n e here = rw here refl

pub sound-at : (cut : Bool) (known : Redefined) (block : Block) (n : ℕ) → AreSound cut known block.entries → 1 ≤ n → n ≤ length block.entries → IsSoundAt cut known block n
sound-at cut known block zero h some few = absurd (omega (arith, some))
sound-at cut known block (suc n) h some few =
    let there = found cut known block.entries n h (omega (arith, few)) in
    let bytes = bytes_of-entry block (suc n) there.entry there.here in
    let instr = instr_at-entry block (suc n) there.entry there.here in
    (subst (λ i. SpellsAll (bytes_of block (suc n)) i) instr (subst (λ bs. SpellsAll bs there.entry.instr) (sym bytes) there.sound.0), ap (every is_inside) bytes ∙ there.sound.1, ap (λ bs. cut && is_unclear known bs) bytes ∙ there.sound.2)

-- ENOUGH BLANKS before each, by the lines of a source

abbrev pub AreFitting : Bool → Columns → (all : List Line) → List Entry → Type 0
AreFitting cut columns all [] = Unit {0}
AreFitting cut columns all (e ∷ es) = Fits cut (indent columns (bytes_on all e.line)) e.bytes × AreFitting cut columns all es

abbrev pub FitsAt : Bool → List ℕ → Block → ℕ → Type 0
FitsAt cut blanks block n = Fits cut (get_or blanks (n - 1) 0) (bytes_of block n)

fitting : (cut : Bool) (columns : Columns) (all : List Line) (entries : List Entry) (n : ℕ) (e : Entry) → slice_get entries n ≡ Some e → AreFitting cut columns all entries →
    Fits cut (get_or (map (λ (e : Entry). indent columns (bytes_on all e.line)) entries) n 0) e.bytes
fitting cut columns all [] n e here are = cc
fitting cut columns all (a ∷ entries) zero e here are = (let same : a ≡ e = cc in subst (λ (b : Entry). Fits cut (indent columns (bytes_on all a.line)) b.bytes) same are.0)
fitting cut columns all (a ∷ entries) (suc n) e here are = fitting cut columns all entries n e here are.1

-- a block whose instructions were read
pub record IsSoundBlock (cut : Bool) (known : Redefined) (columns : Columns) (all : List Line) (block : Block) : Type 0 where
  pub label : IsLabel block.label
  pub entries : AreSound cut known block.entries
  pub fits : AreFitting cut columns all block.entries
  pub few : length block.entries ≤ BLOCK_LIMIT

fits-at : (cut : Bool) (known : Redefined) (columns : Columns) (all : List Line) (block : Block) (n : ℕ) → IsSoundBlock cut known columns all block → 1 ≤ n → n ≤ length block.entries → FitsAt cut (indents columns all block) block n
fits-at cut known columns all block zero is some few = absurd (omega (arith, some))
fits-at cut known columns all block (suc n) is some few =
    let there = found cut known block.entries n is.entries (omega (arith, few)) in
    let at : n ≡ suc n - 1 = omega arith in
    subst (λ k. Fits cut (get_or (indents columns all block) k 0) (bytes_of block (suc n))) at
    (subst (λ bs. Fits cut (get_or (indents columns all block) n 0) bs) (sym (bytes_of-entry block (suc n) there.entry there.here)) (fitting cut columns all block.entries n there.entry there.here is.fits))

-- what is known of a number of its instructions
abbrev pub IsPrintable : Bool → Redefined → List ℕ → Block → ℕ → Type 0
IsPrintable cut known blanks block n = IsSoundAt cut known block n × FitsAt cut blanks block n

pub printable-at : (cut : Bool) (known : Redefined) (columns : Columns) (all : List Line) (block : Block) (n : ℕ) → IsSoundBlock cut known columns all block → (1 ≤ n) × (n ≤ length block.entries) →
    IsPrintable cut known (indents columns all block) block n
printable-at cut known columns all block n is number = (sound-at cut known block n is.entries number.0 number.1, fits-at cut known columns all block n is number.0 number.1)

-- AN INSTRUCTION LINE

-- the run begins with a label if there is one
abbrev begun : List ℕ → SourceState → SourceState
begun label t = begin_run_if (is_filled label) label t

same-run : (t : Bool) (label other : List ℕ) (s : SourceState) → (t ≡ true → label ≡ other) → begin_run_if t label s ≡ begin_run_if t other s
same-run true label other s h = ap (λ l. begin_run_if true l s) (h refl)
same-run false label other s h = refl

-- it begins with no comma, and is no comment
quiet-instruction : (cut : Bool) (label : List ℕ) (blanks : ℕ) (bytes : List ℕ) (n : Instr) (text : List ℕ) → IsLabel label → SpellsAll bytes n → every is_inside bytes ≡ true → Fits cut blanks bytes → IsQuiet cut (indented_line label blanks bytes ++ text)
quiet-instruction cut label blanks bytes n text is spells inside fits =
    let line : List ℕ = line_start label blanks ++ trim is_trailing bytes in
    let parts = code-line false line (ap is_code ((read-start cut label blanks bytes n is fits spells).classed false)) in
    and_right cut (goes_on (indented_line label blanks bytes ++ text))
    (goes-line line text (inside-start label blanks bytes is.1 inside) ∙ ap₂ (λ comment comma. if comment then goes_on text else comma) parts.0 (sym (continues-body line) ∙ parts.1))

pub quiet-printable : (cut : Bool) (known : Redefined) (blanks : List ℕ) (block : Block) (label : List ℕ) (n : ℕ) (ns : List ℕ) (text : List ℕ) → IsLabel label → IsPrintable cut known blanks block n →
    IsQuiet cut (indented_lines blanks block label (n ∷ ns) ++ text)
quiet-printable cut known blanks block label n ns text is here =
    subst (IsQuiet cut) (sym (append_assoc (indented_line label (get_or blanks (n - 1) 0) (bytes_of block n)) (indented_lines blanks block [] ns) text))
    (quiet-instruction cut label (get_or blanks (n - 1) 0) (bytes_of block n) (instr_at (instrs_of block) n) (indented_lines blanks block [] ns ++ text) is here.0.0 here.0.1 here.1)

read-instruction : (cut : Bool) (s : Standing) (label : List ℕ) (blanks : ℕ) (bytes : List ℕ) (n : Instr) (t : SourceState) (text : List ℕ) (again : List Block) → is_holding cut s ≡ false → IsQuiet cut text → IsLabel label → SpellsAll bytes n →
    every is_inside bytes ≡ true → Fits cut blanks bytes → (cut && is_unclear s.redefined bytes) ≡ false →
    read_at cut s t (indented_line label blanks bytes ++ text) ≡ Ok again → read_at cut s (count_line true (with_entry n (trim is_trailing bytes) (begun label t))) text ≡ Ok again
read-instruction cut s label blanks bytes n t text again free quiet is spells inside fits clear h =
    let line : List ℕ = line_start label blanks ++ trim is_trailing bytes in
    let c : Class = Instruction (is_filled label) n in
    let r = read-start cut label blanks bytes n is fits spells in
    let alone = not-alone cut s line (goes_on text) free (code-unflagged cut line (code-line false line (ap is_code (r.classed false))).0) quiet (clear-printed cut s.redefined label blanks bytes n is fits spells clear) in
    let stated = taken-class t.after (is_alone cut s line (goes_on text)) line c alone (r.classed t.after) in
    let step = subst (λ stands. read_at cut stands (count_line true (with_entry n (from_operation (body line)) (begin_run_if (is_filled label) (label_bytes (body line)) t))) text ≡ Ok again)
    (code-stays cut (goes_on text) t.after s line (ap is_code stated))
    (read-class cut s t line text c again (inside-start label blanks bytes is.1 inside) stated h) in
    ap (λ u. read_at cut s (count_line true (with_entry n (trim is_trailing bytes) u)) text) (sym (same-run (is_filled label) (label_bytes (body line)) label t r.labelled))
    ∙ ap (λ bs. read_at cut s (count_line true (with_entry n bs (begin_run_if (is_filled label) (label_bytes (body line)) t))) text) (sym r.left)
    ∙ step

-- ALL INSTRUCTIONS of a block

abbrev pub Ended : SourceState → Type 0
Ended t = (t.entries ≡ []) × (t.label ≡ [])

-- read after state, with nothing but these instructions more in the open block
record Fed (cut : Bool) (s : Standing) (block : Block) (ns : List ℕ) (t : SourceState) (text : List ℕ) (again : List Block) : Type 0 where
  state : SourceState
  read : read_at cut s state text ≡ Ok again
  made : List Entry
  whole : with_open state.blocks state.label state.entries ≡ t.blocks ++ labelled t.label (t.entries ++ made) ∷ []
  instrs : map (λ (e : Entry). e.instr) made ≡ map (instr_at (instrs_of block)) ns
  bytes : map (λ (e : Entry). e.bytes) made ≡ map (λ n. trim is_trailing (bytes_of block n)) ns
  full : length t.entries + length ns ≡ BLOCK_LIMIT → Ended state

pub with_open-push : (blocks : List Block) (label : List ℕ) (entries : List Entry) (e : Entry) → with_open blocks label (entries ++ e ∷ []) ≡ blocks ++ labelled label (entries ++ e ∷ []) ∷ []
with_open-push blocks label [] e = refl
with_open-push blocks label (a ∷ entries) e = refl

abbrev pub with_one : Entry → SourceState → SourceState
with_one e t = record t { entries = t.entries ++ e ∷ [] }

abbrev entry_now : Block → ℕ → SourceState → Entry
entry_now block n t = record { instr = instr_at (instrs_of block) n; line = suc t.count; bytes = trim is_trailing (bytes_of block n) }

fed-last : (full cut : Bool) (s : Standing) (block : Block) (n : ℕ) (t : SourceState) (text : List ℕ) (again : List Block) → eqb (length (t.entries ++ entry_now block n t ∷ [])) BLOCK_LIMIT ≡ full →
    read_at cut s (count_line true (if full then end_block (with_one (entry_now block n t) t) else with_one (entry_now block n t) t)) text ≡ Ok again → Fed cut s block (n ∷ []) t text again
fed-last true cut s block n t text again stated h = record {
  state = count_line true (end_block (with_one (entry_now block n t) t));
  read = h;
  made = entry_now block n t ∷ [];
  whole = with_open-push t.blocks t.label t.entries (entry_now block n t);
  instrs = refl;
  bytes = refl;
  full = λ all. (refl, refl);
}
fed-last false cut s block n t text again stated h = record {
  state = count_line true (with_one (entry_now block n t) t);
  read = h;
  made = entry_now block n t ∷ [];
  whole = with_open-push t.blocks t.label t.entries (entry_now block n t);
  instrs = refl;
  bytes = refl;
  full = λ all. absurd (eqb-false (length (t.entries ++ entry_now block n t ∷ [])) BLOCK_LIMIT stated (omega (arith, all, length-push t.entries (entry_now block n t))));
}

-- one instruction, and then the others
fed-more : (cut : Bool) (s : Standing) (block : Block) (n : ℕ) (ns : List ℕ) (t : SourceState) (text : List ℕ) (again : List Block) → Fed cut s block ns (count_line true (with_one (entry_now block n t) t)) text again → Fed cut s block (n ∷ ns) t text again
fed-more cut s block n ns t text again rest = record {
  state = rest.state;
  read = rest.read;
  made = entry_now block n t ∷ rest.made;
  whole = rest.whole ∙ ap (λ es. t.blocks ++ labelled t.label es ∷ []) (append_assoc t.entries (entry_now block n t ∷ []) rest.made);
  instrs = ap (λ is. instr_at (instrs_of block) n ∷ is) rest.instrs;
  bytes = ap (λ bs. trim is_trailing (bytes_of block n) ∷ bs) rest.bytes;
  full = λ all. rest.full (omega (arith, all, length-push t.entries (entry_now block n t)));
}

feed : (cut : Bool) (s : Standing) (blanks : List ℕ) (block : Block) (n : ℕ) (ns : List ℕ) (label : List ℕ) (t : SourceState) (text : List ℕ) (again : List Block) → is_holding cut s ≡ false → IsQuiet cut text → IsLabel label →
    ((k : ℕ) → Among k (n ∷ ns) → IsPrintable cut s.redefined blanks block k) → length (begun label t).entries + length (n ∷ ns) ≤ BLOCK_LIMIT →
    read_at cut s t (indented_lines blanks block label (n ∷ ns) ++ text) ≡ Ok again → Fed cut s block (n ∷ ns) (begun label t) text again
feed cut s blanks block n [] label t text again free quiet is sound few h =
    let u : SourceState = begun label t in
    let here = sound n (inl refl) in
    let next = read-instruction cut s label (get_or blanks (n - 1) 0) (bytes_of block n) (instr_at (instrs_of block) n) t text again free quiet is here.0.0 here.0.1 here.1 here.0.2
    (read-as cut s t _ _ again (append_assoc (indented_line label (get_or blanks (n - 1) 0) (bytes_of block n)) [] text) h) in
    fed-last (eqb (length (u.entries ++ entry_now block n u ∷ [])) BLOCK_LIMIT) cut s block n u text again refl next
feed cut s blanks block n (m ∷ ns) label t text again free quiet is sound few h =
    let u : SourceState = begun label t in
    let e : Entry = entry_now block n u in
    let here = sound n (inl refl) in
    let later : List ℕ = indented_lines blanks block [] (m ∷ ns) ++ text in
    let next = read-instruction cut s label (get_or blanks (n - 1) 0) (bytes_of block n) (instr_at (instrs_of block) n) t later again free
    (quiet-printable cut s.redefined blanks block [] m ns text (refl, refl) (sound m (inr (inl refl)))) is here.0.0 here.0.1 here.1 here.0.2
    (read-as cut s t _ _ again (append_assoc (indented_line label (get_or blanks (n - 1) 0) (bytes_of block n)) (indented_lines blanks block [] (m ∷ ns)) text) h) in
    let more : eqb (length (u.entries ++ e ∷ [])) BLOCK_LIMIT ≡ false = ne_eqb (length (u.entries ++ e ∷ [])) BLOCK_LIMIT (λ all. absurd (omega (arith, all, few, length-push u.entries e))) in
    let rest = feed cut s blanks block m ns [] (count_line true (with_one e u)) text again free quiet (refl, refl) (λ k among. sound k (inr among)) (omega (arith, few, length-push u.entries e))
    (subst (λ full. read_at cut s (count_line true (if full then end_block (with_one e u) else with_one e u)) later ≡ Ok again) more next) in
    fed-more cut s block n (m ∷ ns) u text again rest

-- A WHOLE BLOCK

-- its report and its notes
abbrev pub front_text : Bool → (all : List Line) → ℕ → Block → Placed → List ℕ
front_text quiet all n block p = (if quiet then [] else report n (length block.entries) p) ++ notes_text block all

pub comments-front : (cut quiet : Bool) (all : List Line) (n : ℕ) (block : Block) (p : Placed) → AreLinesOfSource cut all → Comments cut (front_text quiet all n block p)
comments-front cut quiet all n block p source =
    comments-append cut (if quiet then [] else report n (length block.entries) p) (notes_text block all)
    (elim quiet as (λ t. Comments cut (if t then [] else report n (length block.entries) p)) [ true ↦ comments-nothing cut | false ↦ comments-report cut n (length block.entries) p ]) (comments-notes cut block all source)

-- it isn't continued if the text after it isn't
pub quiet-block : (cut quiet : Bool) (columns : Columns) (known : Redefined) (all : List Line) (n : ℕ) (block : Block) (p : Placed) (text : List ℕ) → IsQuiet cut text → AreLinesOfSource cut all → IsSoundBlock cut known columns all block →
    ((k : ℕ) → Among k p.order → (1 ≤ k) × (k ≤ length block.entries)) → IsQuiet cut (anew_text quiet columns all n block p ++ text)
quiet-block cut quiet columns known all n block p text ends source is numbers =
    subst (IsQuiet cut) (sym (append_assoc head (indented_lines blanks block block.label p.order) text))
    (quiet-behind cut head (indented_lines blanks block block.label p.order ++ text) (comments-quiet cut head (indented_lines blanks block block.label p.order ++ text) (comments-front cut quiet all n block p source)) (by_order p.order numbers))
  where
    blanks : List ℕ
    blanks = indents columns all block

    head : List ℕ
    head = front_text quiet all n block p

    by_order : (order : List ℕ) → ((k : ℕ) → Among k order → (1 ≤ k) × (k ≤ length block.entries)) → IsQuiet cut (indented_lines blanks block block.label order ++ text)
    by_order [] numbers = ends
    by_order (k ∷ ks) numbers = quiet-printable cut known blanks block block.label k ks text is.label (printable-at cut known columns all block k is (numbers k (inl refl)))

-- read after state, with this block more
pub record Again (cut : Bool) (s : Standing) (block : Block) (order : List ℕ) (t : SourceState) (text : List ℕ) (again : List Block) : Type 0 where
  pub state : SourceState
  pub read : read_at cut s state text ≡ Ok again
  pub made : Block
  pub whole : with_open state.blocks state.label state.entries ≡ with_open t.blocks t.label t.entries ++ made ∷ []
  pub placed : IsPlacedAgain block made order
  pub full : length order ≡ BLOCK_LIMIT → Ended state

-- a run that begins here, or goes on if a block has ended
begun-new : (label : List ℕ) (t : SourceState) → (label ≡ [] → Ended t) → ((begun label t).entries ≡ []) × ((begun label t).label ≡ label) × ((begun label t).blocks ≡ with_open t.blocks t.label t.entries)
begun-new [] t h =
    let ended = h refl in
    (ended.0, ended.1, sym (ap (λ es. with_open t.blocks t.label es) ended.0))
begun-new (b ∷ label) t h = (refl, refl, refl)

block-fed : (cut : Bool) (stands : Standing) (block : Block) (order : List ℕ) (label : List ℕ) (t s : SourceState) (text : List ℕ) (again : List Block) → block.label ≡ label → Fed cut stands block order (begun label s) text again →
    ((begun label s).entries ≡ []) × ((begun label s).label ≡ label) × ((begun label s).blocks ≡ with_open t.blocks t.label t.entries) → Again cut stands block order t text again
block-fed cut stands block order label t s text again is fed new =
    let u : SourceState = begun label s in
    let made : Block = labelled u.label (u.entries ++ fed.made) in
    let all : u.entries ++ fed.made ≡ fed.made = ap (λ es. es ++ fed.made) new.0 in
    record {
      state = fed.state;
      read = fed.read;
      made = made;
      whole = fed.whole ∙ ap (λ bs. bs ++ made ∷ []) new.2;
      placed = record {
        label = new.1 ∙ sym is;
        instrs = ap (λ es. map (λ (e : Entry). e.instr) es) all ∙ fed.instrs;
        bytes = ap (λ es. map (λ (e : Entry). e.bytes) es) all ∙ fed.bytes;
      };
      full = λ many. fed.full (omega (arith, many, ap (λ (es : List Entry). length es) new.0));
    }

pub read-block : (cut quiet : Bool) (columns : Columns) (stands : Standing) (all : List Line) (n : ℕ) (block : Block) (p : Placed) (t : SourceState) (text : List ℕ) (again : List Block) → is_holding cut stands ≡ false → IsQuiet cut text → AreLinesOfSource cut all →
    (block.label ≡ [] → Ended t) → IsSoundBlock cut stands.redefined columns all block → ((k : ℕ) → Among k p.order → (1 ≤ k) × (k ≤ length block.entries)) → 1 ≤ length p.order → length p.order ≤ BLOCK_LIMIT →
    read_at cut stands t (anew_text quiet columns all n block p ++ text) ≡ Ok again → Again cut stands block p.order t text again
read-block cut quiet columns stands all n block p t text again free ends source new is numbers some few h =
    by_order p.order numbers some few (read-as cut stands t _ _ again (append_assoc head (indented_lines blanks block block.label p.order) text) h)
  where
    blanks : List ℕ
    blanks = indents columns all block

    head : List ℕ
    head = front_text quiet all n block p

    passes : Passes cut stands head
    passes = passes-comments cut stands head free (comments-front cut quiet all n block p source)

    by_order : (order : List ℕ) → ((k : ℕ) → Among k order → (1 ≤ k) × (k ≤ length block.entries)) → 1 ≤ length order → length order ≤ BLOCK_LIMIT →
        read_at cut stands t (head ++ (indented_lines blanks block block.label order ++ text)) ≡ Ok again → Again cut stands block order t text again
    by_order [] numbers some few h = absurd (omega (arith, some))
    by_order (k ∷ ks) numbers some few h =
        let printable : (m : ℕ) → Among m (k ∷ ks) → IsPrintable cut stands.redefined blanks block m = λ m among. printable-at cut stands.redefined columns all block m is (numbers m among) in
        let passed = passes.passes t (indented_lines blanks block block.label (k ∷ ks) ++ text) again (quiet-printable cut stands.redefined blanks block block.label k ks text is.label (printable k (inl refl))) h in
        let s : SourceState = record t { count = passed.count; after = passed.after } in
        let begins = begun-new block.label s new in
        block-fed cut stands block (k ∷ ks) block.label t s text again refl
        (feed cut stands blanks block k ks block.label s text again free ends is.label printable (omega (arith, few, ap (λ (es : List Entry). length es) begins.0)) passed.read)
        begins
