-- A line that is left alone is of no block, so it is copied.
use Rattle.std.proofs.Common.{◌≡◌, ◌&&◌, ◌||◌, ℕ, zero, suc, Bool, true, false, true≢false, if◌then◌else◌, List, [], ◌∷◌, Option, Some, refl, sym, ap, ap₂, ◌∙◌, slice_get}
use Rattle.s66_line.specs.{is_code, is_instruction, ends_run, Class, Comment, Other, Refused, Pad, Instruction}
use Rattle.s66_source.specs.{Flagged, Reading, class_at, flagged_lines, begun, owner, has_block, is_comment_class, is_leading, is_pad_class, Line, blocks_of, classed_lines, classes_from, label_after}
use Rattle.s66_source.specs.{label_at, place_after, place_at, run_after, run_at, begins, copied_line, line_text, text_for}
use Rattle.s66_source.proofs.LineLaw.{no-note_in}

abbrev IsOther : Line → Flagged → Type 0
IsOther line m = (line.bytes ≡ m.bytes) × (m.alone ≡ true → ends_run line.class ≡ true)

alone-at : (lines : List Flagged) (number run index : ℕ) (label : List ℕ) (after : Bool) (k : ℕ) (m : Flagged) → slice_get lines k ≡ Some m →
    (line : Line) × (slice_get (classes_from number run index label after lines) k ≡ Some line) × IsOther line m
alone-at [] number run index label after k m h = cc
alone-at (n ∷ lines) number run index label after zero m h =
    let same : n ≡ m = cc in (
      record { number = number; bytes = n.bytes; class = class_at after n; run = run_at run (class_at after n); index = place_at index (class_at after n); label = label_at label (class_at after n) n.bytes },
      refl,
      (ap (λ (x : Flagged). x.bytes) same, λ alone. rw (ap (λ (x : Flagged). x.alone) same ∙ alone) refl),
    )
alone-at (n ∷ lines) number run index label after (suc k) m h =
    let c : Class = class_at after n in
    alone-at lines (suc number) (run_after run c) (place_after index c) (label_after label c n.bytes) (is_code c) k m h

other-only : (c : Class) → ends_run c ≡ true → (is_instruction c ≡ false) × (is_comment_class c ≡ false) × (is_pad_class c ≡ false)
other-only Other is = (refl, refl, refl)
other-only Comment is = absurd (true≢false (sym is))
other-only Refused is = absurd (true≢false (sym is))
other-only (Pad located) is = absurd (true≢false (sym is))
other-only (Instruction located i) is = absurd (true≢false (sym is))

other-none : (all : List Line) (l : Line) → ends_run l.class ≡ true → owner all l ≡ 0
other-none all l is =
    let plain = other-only l.class is in
    ap₂ own (ap₂ (λ s t. s || t) plain.0 (no-note_in l (blocks_of all) plain.1)) (ap (λ t. t && has_block all l) plain.2)
  where
    own : (given dropped : Bool) → ℕ
    own given dropped = if given then begun all l else (if dropped then (if is_leading all l then suc (begun all l) else begun all l) else 0)

pub alone-none : (source : Reading) (k : ℕ) (m : Flagged) → slice_get (flagged_lines source) k ≡ Some m → m.alone ≡ true → (line : Line) × (slice_get (classed_lines source) k ≡ Some line) × (line.bytes ≡ m.bytes) × (owner (classed_lines source) line ≡ 0)
alone-none source k m at alone =
    let (line, here, (bytes, other)) = alone-at (flagged_lines source) 1 0 0 [] false k m at in
    (line, here, bytes, other-none (classed_lines source) line (other alone))

-- whatever stands in the places of blocks
pub none-copied : (all : List Line) (l : Line) → owner all l ≡ 0 → (texts : List (Option (List ℕ))) → line_text (begins all l) (text_for texts (owner all l)) l ≡ copied_line l
none-copied all l none texts = ap (λ number. line_text (begins all l) (text_for texts number) l) none
