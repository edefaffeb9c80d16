-- What is printed for a `NO`, by whether its block stands.
use Rattle.std.proofs.Common.{◌≡◌, ◌&&◌, ◌||◌, ◌==◌, ◌∙◌, not, ℕ, suc, Bool, true, false, if◌then◌else◌, Option, None, Some, List, [], ◌∷◌, refl, ap, ap₂, is_none}
use Rattle.s66_isa.specs.{some_of}
use Rattle.s66_line.specs.{Block, is_instruction, Pad}
use Rattle.s66_source.specs.{copied_line, begun, line_text, owner, text_for, has_block, is_comment_class, is_dropped, is_leading, is_note, is_note_of, is_pad_class, Line, blocks_of}
use Rattle.s66_source.proofs.LineTexts.{IsTold, text_at}

-- the block of this number stands, as does whatever is of none
abbrev pub stands_at : List (Option (List ℕ)) → ℕ → Bool
stands_at texts n = is_none (text_for texts n)

if-stands : (text : Option (List ℕ)) (l : Line) → line_text false text l ≡ (if is_none text then copied_line l else [])
if-stands None l = refl
if-stands (Some text) l = refl

no-note : (l : Line) (blocks : List Block) → is_comment_class l.class ≡ false → some_of (is_note_of l) blocks ≡ false
no-note l [] code = refl
no-note l (block ∷ blocks) code = rw code (no-note l blocks code)

owner-of : (all : List Line) (l : Line) (of_block note dropped leading : Bool) → is_instruction l.class ≡ of_block → is_note all l ≡ note → is_dropped all l ≡ dropped → is_leading all l ≡ leading →
    owner all l ≡ (if of_block || note then begun all l else (if dropped then (if leading then suc (begun all l) else begun all l) else 0))
owner-of all l of_block note dropped leading h i d e =
    ap₂ (λ s t. if s || t then begun all l else (if is_dropped all l then (if is_leading all l then suc (begun all l) else begun all l) else 0)) h i
    ∙ ap₂ (λ s t. if of_block || note then begun all l else (if s then (if t then suc (begun all l) else begun all l) else 0)) d e

pub dropped-text : (all : List Line) (texts : List (Option (List ℕ))) (l : Line) (m : ℕ) (located block : Bool) → l.class ≡ Pad located → has_block all l ≡ block → IsTold all l false m →
    text_at all texts l ≡ (if not block || stands_at texts (if l.index == 0 then suc m else m) then copied_line l else [])
dropped-text all texts l m located block stated has told = ap₂ (λ t n. line_text t (text_for texts n) l) told.begins own ∙ by_block block
  where
    own : owner all l ≡ (if block then (if l.index == 0 then suc m else m) else 0)
    own =
        owner-of all l false false block (l.index == 0) (ap is_instruction stated) (no-note l (blocks_of all) (ap is_comment_class stated)) (ap₂ (λ k b. is_pad_class k && b) stated has) (ap (λ k. is_pad_class k && l.index == 0) stated)
        ∙ ap (λ n. if block then (if l.index == 0 then suc n else n) else 0) told.begun

    by_block : (t : Bool) → line_text false (text_for texts (if t then (if l.index == 0 then suc m else m) else 0)) l ≡ (if not t || stands_at texts (if l.index == 0 then suc m else m) then copied_line l else [])
    by_block true = if-stands (text_for texts (if l.index == 0 then suc m else m)) l
    by_block false = refl
