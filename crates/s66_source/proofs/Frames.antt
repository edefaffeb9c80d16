-- Passing the lines of a source one by one gives its frame (`frame_of`).
use Rattle.std.proofs.Common.{◌≡◌, ◌≤◌, ◌<◌, ◌+◌, ◌==◌, ◌∙◌, ℕ, suc, Bool, true, false, if◌then◌else◌, Option, None, Some, List, [], ◌∷◌, ◌++◌, drop, get_or, length, map, refl, sym, ap, ap₂}
use Rattle.std.proofs.Common.{append_assoc, arith, slice_get, subst, Ok, append-nil}
use Rattle.std.proofs.lemmas.List.{drop_all}
use Rattle.s66_line.specs.{Block, line_of, trim, is_trailing}
use Rattle.s66_source.specs.{FramePart, block_part, frame_of, frame_of_lines, KeptLine, begins_at, is_beside_by, kept_line, part_by, Reading, Line, blocks_of, classed_lines, source_of}
use Rattle.s66_source.specs.{SOURCE_LINES_LIMIT}
use Rattle.s66_source.proofs.LineTexts.{count_after, first_of}
use Rattle.s66_source.proofs.Settled.{AreSettled, IsSettled, get-none, get-some, item-next, map-first, settled-source}

-- after so many lines, in which so many blocks begin: these are the lines to come
pub record IsFramed (source : Reading) (rest : List KeptLine) (number begun : ℕ) (parts : List FramePart) : Type 0 where
  pub lines : List Line
  pub left : rest ≡ map kept_line lines
  pub settled : AreSettled (classed_lines source) (suc number) begun lines
  pub whole : parts ++ frame_of_lines (classed_lines source) (drop begun (blocks_of (classed_lines source))) lines ≡ frame_of source
  pub counts : begun ≤ number

pub framed-first : (source : Reading) (blocks : List Block) (rest : List KeptLine) (parts : List FramePart) → source_of source ≡ Ok blocks → rest ≡ map kept_line (classed_lines source) → parts ≡ [] → IsFramed source rest 0 0 parts
framed-first source blocks rest parts accepted is none = record {
  lines = classed_lines source;
  left = is;
  settled = settled-source source blocks accepted;
  whole = ap (λ ps. ps ++ frame_of source) none;
  counts = omega arith;
}

-- the line, by the block that begins next
frame-line : (all : List Line) (begun number : ℕ) (l : Line) (ls : List Line) (next : Option Block) → IsSettled all number begun l → slice_get (blocks_of all) begun ≡ next →
    frame_of_lines all (drop begun (blocks_of all)) (l ∷ ls) ≡ part_by (map kept_line all) next number (kept_line l) ++ frame_of_lines all (drop (if begins_at next number then suc begun else begun) (blocks_of all)) ls
frame-line all begun number l ls None s is =
    let none = get-none (blocks_of all) begun is in
    ap (λ bs. frame_of_lines all bs (l ∷ ls)) none
    ∙ ap₂ (λ (b : Bool) n. (if b then record { line = n; is_block = false; bytes = trim is_trailing l.bytes } ∷ [] else []) ++ frame_of_lines all [] ls) (s.beside ∙ ap (λ next. is_beside_by (map kept_line all) next (kept_line l)) is) s.number_is
    ∙ ap (λ bs. part_by (map kept_line all) None number (kept_line l) ++ frame_of_lines all bs ls) (sym none)
frame-line all begun number l ls (Some block) s is =
    ap (λ bs. frame_of_lines all bs (l ∷ ls)) some
    ∙ ap₂ (λ (b : Bool) n. if line_of block 1 == n then block_part block ∷ frame_of_lines all (drop (suc begun) (blocks_of all)) ls else ((if b then record { line = n; is_block = false; bytes = trim is_trailing l.bytes } ∷ [] else []) ++ frame_of_lines all (block ∷ drop (suc begun) (blocks_of all)) ls))
    (s.beside ∙ ap (λ next. is_beside_by (map kept_line all) next (kept_line l)) is) s.number_is
    ∙ by_place (line_of block 1 == number) (if is_beside_by (map kept_line all) (Some block) (kept_line l) then record { line = number; is_block = false; bytes = trim is_trailing l.bytes } ∷ [] else [])
  where
    some : drop begun (blocks_of all) ≡ block ∷ drop (suc begun) (blocks_of all)
    some = get-some (blocks_of all) begun block is

    by_place : (t : Bool) (ps : List FramePart) → (if t then block_part block ∷ frame_of_lines all (drop (suc begun) (blocks_of all)) ls else (ps ++ frame_of_lines all (block ∷ drop (suc begun) (blocks_of all)) ls))
        ≡ (if t then block_part block ∷ [] else ps) ++ frame_of_lines all (drop (if t then suc begun else begun) (blocks_of all)) ls
    by_place true ps = refl
    by_place false ps = ap (λ bs. ps ++ frame_of_lines all bs ls) (sym some)

framed-next : (source : Reading) (rest : List KeptLine) (number begun : ℕ) (parts : List FramePart) (line : KeptLine) (more : List KeptLine) → IsFramed source rest number begun parts → rest ≡ line ∷ more →
    (suc number ≤ SOURCE_LINES_LIMIT) × IsFramed source more (suc number) (if begins_at (slice_get (blocks_of (classed_lines source)) begun) (suc number) then suc begun else begun)
    (parts ++ part_by (map kept_line (classed_lines source)) (slice_get (blocks_of (classed_lines source)) begun) (suc number) line)
framed-next source rest number begun parts line more f is =
    let (l, ls, lines, here, later) = map-first kept_line f.lines line more (sym f.left ∙ is) in
    let settled : AreSettled all (suc number) begun (l ∷ ls) = subst (AreSettled all (suc number) begun) lines f.settled in
    let counted : count_after (first_of l) begun ≡ next = ap (λ (t : Bool). if t then suc begun else begun) (sym settled.0.begins_is) in (
      settled.0.few,
      record {
        lines = ls;
        left = sym later;
        settled = subst (λ m. AreSettled all (suc (suc number)) m ls) counted settled.1;
        whole =
            append_assoc parts (part_by (map kept_line all) (slice_get (blocks_of all) begun) (suc number) line) (frame_of_lines all (drop next (blocks_of all)) ls)
            ∙ ap (λ k. parts ++ (part_by (map kept_line all) (slice_get (blocks_of all) begun) (suc number) k ++ frame_of_lines all (drop next (blocks_of all)) ls)) (sym here)
            ∙ ap (λ ps. parts ++ ps) (sym (frame-line all begun (suc number) l ls (slice_get (blocks_of all) begun) settled.0 refl))
            ∙ ap (λ ls. parts ++ frame_of_lines all (drop begun (blocks_of all)) ls) (sym lines)
            ∙ f.whole;
        counts = by_test (begins_at (slice_get (blocks_of all) begun) (suc number)) f.counts;
      },
    )
  where
    all : List Line
    all = classed_lines source

    next : ℕ
    next = if begins_at (slice_get (blocks_of all) begun) (suc number) then suc begun else begun

    by_test : (t : Bool) → begun ≤ number → (if t then suc begun else begun) ≤ suc number
    by_test true le = omega (arith, le)
    by_test false le = omega (arith, le)

-- no line is left
framed-last : (source : Reading) (rest : List KeptLine) (number begun : ℕ) (parts : List FramePart) → IsFramed source rest number begun parts → rest ≡ [] → parts ≡ frame_of source
framed-last source rest number begun parts f none = by_lines f.lines (sym f.left ∙ none) f.whole
  where
    end : (bs : List Block) → frame_of_lines (classed_lines source) bs [] ≡ []
    end [] = refl
    end (b ∷ bs) = refl

    by_lines : (lines : List Line) → map kept_line lines ≡ [] → parts ++ frame_of_lines (classed_lines source) (drop begun (blocks_of (classed_lines source))) lines ≡ frame_of source → parts ≡ frame_of source
    by_lines [] none whole = sym (append-nil parts) ∙ ap (λ ps. parts ++ ps) (sym (end (drop begun (blocks_of (classed_lines source))))) ∙ whole
    by_lines (l ∷ lines) none whole = cc

-- AS THE LOOP GOES, over these lines by their indices

module _ (source : Reading) (lines : List KeptLine) (same : lines ≡ map kept_line (classed_lines source)) (i number begun : ℕ) (parts : List FramePart) (line : KeptLine) where
  left-lines : i < length lines → line ≡ get_or lines i line → drop i (map kept_line (classed_lines source)) ≡ line ∷ drop (i + 1) (map kept_line (classed_lines source))
  left-lines lt is = subst (λ (ls : List KeptLine). drop i ls ≡ line ∷ drop (i + 1) ls) same (item-next lines i line lt is)

  pub few-framed : i < length lines → line ≡ get_or lines i line → IsFramed source (drop i (map kept_line (classed_lines source))) number begun parts → (number < SOURCE_LINES_LIMIT) × (begun < SOURCE_LINES_LIMIT)
  few-framed lt is f =
      let few = (framed-next source (drop i (map kept_line (classed_lines source))) number begun parts line (drop (i + 1) (map kept_line (classed_lines source))) f (left-lines lt is)).0 in
      (omega (arith, few), omega (arith, few, f.counts))

  pub framed-after : (blocks : List Block) (after : ℕ) (pushed : List FramePart) → i < length lines → line ≡ get_or lines i line → blocks ≡ blocks_of (classed_lines source) →
      pushed ≡ parts ++ part_by lines (slice_get blocks begun) (number + 1) line → after ≡ (if begins_at (slice_get blocks begun) (number + 1) then suc begun else begun) →
      IsFramed source (drop i (map kept_line (classed_lines source))) number begun parts → IsFramed source (drop (i + 1) (map kept_line (classed_lines source))) (number + 1) after pushed
  framed-after blocks after pushed lt is are text counted f =
      let next = (framed-next source (drop i (map kept_line (classed_lines source))) number begun parts line (drop (i + 1) (map kept_line (classed_lines source))) f (left-lines lt is)).1 in
      let one : suc number ≡ number + 1 = omega arith in
      let counted_is : after ≡ (if begins_at (slice_get (blocks_of (classed_lines source)) begun) (suc number) then suc begun else begun) =
      counted ∙ ap₂ (λ bs n. if begins_at (slice_get bs begun) n then suc begun else begun) are (sym one) in
      let text_is : pushed ≡ parts ++ part_by (map kept_line (classed_lines source)) (slice_get (blocks_of (classed_lines source)) begun) (suc number) line =
      text ∙ ap₂ (λ ls bs. parts ++ part_by ls (slice_get bs begun) (number + 1) line) same are ∙ ap (λ n. parts ++ part_by (map kept_line (classed_lines source)) (slice_get (blocks_of (classed_lines source)) begun) n line) (sym one) in
      subst (λ n. IsFramed source (drop (i + 1) (map kept_line (classed_lines source))) n after pushed) one
      (subst (λ m. IsFramed source (drop (i + 1) (map kept_line (classed_lines source))) (suc number) m pushed) (sym counted_is)
      (subst (IsFramed source (drop (i + 1) (map kept_line (classed_lines source))) (suc number) _) (sym text_is) next))

pub framed-all : (source : Reading) (lines : List KeptLine) (i number begun : ℕ) (parts : List FramePart) → lines ≡ map kept_line (classed_lines source) → length lines ≤ i → IsFramed source (drop i (map kept_line (classed_lines source))) number begun parts → parts ≡ frame_of source
framed-all source lines i number begun parts same past f =
    framed-last source (drop i (map kept_line (classed_lines source))) number begun parts f (subst (λ (ls : List KeptLine). drop i ls ≡ []) same (drop_all i lines past))
