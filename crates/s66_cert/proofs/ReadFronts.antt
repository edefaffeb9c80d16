-- Whatever was read without a fault begins some text of documents, and what begins one is read without a fault.
use Rattle.std.proofs.Common.{◌≡◌, ◌-◌, ℕ, zero, suc, is_some, List, [], ◌∷◌, ◌++◌, map, refl, sym, ap, ◌∙◌, arith, subst, append-nil, Result, Ok, Err, codes}
use Rattle.std.proofs.lemmas.List.{map-append}
use Rattle.s66_isa.specs.{BLOCK_LIMIT}
use Rattle.s66_model.specs.{Whole, AtTerminal, Bounding}
use Rattle.s66_line.specs.{IsInstruction, with_newlines}
use Rattle.s66_line.proofs.InstructionTexts.{instruction}
use Rattle.s66_cert.specs.{Version, BoundsAlone, Document, text_headed, documents_text, standard_numbers, HaveNoNewline, BeginsWithin, HasTree, IsPart, DocumentLine, Header, Profile, Block}
use Rattle.s66_cert.specs.{Instruction, Time, Bound, Order, OfTree, line_bytes, IsLineInRange, Parts, document_of, nothing, first_facts, DocumentState, first_state, place_of_instruction}
use Rattle.s66_cert.specs.{place_of_tree, with_vertex, step_at, step, and_then, steps, whole_lines, CertError, DocumentPlace, AtHeader, AtProfile, AtBlock, AtInstruction, AtTime, AtBound, AtOrder}
use Rattle.s66_cert.specs.{AtTree, AtEnd}
use Rattle.s66_cert.proofs.DocumentLines.{documents_lines, open_lines}
use Rattle.s66_cert.proofs.TextLines.{whole-of, whole-all, newlines-append, open-text, documents-text}
use Rattle.s66_cert.proofs.Heads.{read-under}
use Rattle.s66_cert.proofs.Grammar.{step-line, documents-run, open-run}
use Rattle.s66_cert.proofs.InRange.{is-line, lines-of-documents, lines-of-open}
use Rattle.s66_cert.proofs.States.{at, place-instruction, place-tree}
use Rattle.s66_cert.proofs.Sound.{part_lines, open-is, open-document, steps-sound, after-ok}

-- AN END OF WHAT WAS READ: lines up to the last one of a document

record Ends (most : ℕ) (s : DocumentState) : Type 0 where
  more : List (List ℕ)
  lines : HaveNoNewline more
  end : DocumentState
  run : steps BLOCK_LIMIT most s more ≡ Ok end
  whole : end.place ≡ AtEnd

put : (most : ℕ) (s t : DocumentState) (l : DocumentLine) → IsLineInRange BLOCK_LIMIT l → step_at most s s.place l ≡ Ok t → Ends most t → Ends most s
put most s t l is made e =
    record { more = line_bytes l ∷ e.more; lines = (is-line BLOCK_LIMIT l (omega arith) is, e.lines); end = e.end; run = step-line BLOCK_LIMIT most (omega arith) s t l e.more is made ∙ e.run; whole = e.whole }

nx1 : IsInstruction (codes "NX1")
nx1 = instruction (codes "NX1") refl refl (omega arith)

module _ (most : ℕ) where
  end-ends : (version : Version) (count : ℕ) (documents : List Document) (part : Parts) (left splits : ℕ) → Ends most (at version count documents AtEnd part left splits)
  end-ends version count documents part left splits = record { more = []; lines = tt; end = at version count documents AtEnd part left splits; run = refl; whole = refl }

  tree-ends : (version : Version) (left count : ℕ) (documents : List Document) (part : Parts) (splits : ℕ) → Ends most (at version count documents AtTree part left splits)
  tree-ends version zero count documents part splits =
      let less : 0 - 1 ≡ 0 = refl in
      put most (at version count documents AtTree part 0 splits) (at version (suc count) documents AtEnd (with_vertex part (AtTerminal (Bounding Whole))) 0 splits) (OfTree (AtTerminal (Bounding Whole))) tt refl (end-ends version (suc count) documents (with_vertex part (AtTerminal (Bounding Whole))) 0 splits)
  tree-ends version (suc left) count documents part splits =
      let less : suc left - 1 ≡ left = omega arith in
      put most (at version count documents AtTree part (suc left) splits) (at version (suc count) documents (place_of_tree left) (with_vertex part (AtTerminal (Bounding Whole))) left splits) (OfTree (AtTerminal (Bounding Whole))) tt (rw less refl)
      (by left (tree-ends version left (suc count) documents (with_vertex part (AtTerminal (Bounding Whole))) splits))
    where
      by : (left : ℕ) → Ends most (at version (suc count) documents AtTree (with_vertex part (AtTerminal (Bounding Whole))) left splits) → Ends most (at version (suc count) documents (place_of_tree left) (with_vertex part (AtTerminal (Bounding Whole))) left splits)
      by zero e = end-ends version (suc count) documents (with_vertex part (AtTerminal (Bounding Whole))) 0 splits
      by (suc left) e = rw (place-tree left) e

  order-ends : (version : Version) (count : ℕ) (documents : List Document) (part : Parts) (left splits : ℕ) → Ends most (at version count documents AtOrder part left splits)
  order-ends version count documents part left splits =
      let next : Parts = record part { facts = first_facts (is_some part.facts); numbers = 1 ∷ []; vertices = [] } in
      put most (at version count documents AtOrder part left splits) (at version (suc count) documents AtTree next 1 0) (Order (1 ∷ [])) (omega arith) refl (tree-ends version 1 (suc count) documents next 0)

  bound-ends : (version : Version) (count : ℕ) (documents : List Document) (part : Parts) (left splits : ℕ) → Ends most (at version count documents AtBound part left splits)
  bound-ends version count documents part left splits =
      let next : Parts = record part { bound = 0 } in
      put most (at version count documents AtBound part left splits) (at version (suc count) documents AtOrder next 0 0) (Bound 0) (omega arith) refl (order-ends version (suc count) documents next 0 0)

  time-ends : (version : Version) (count : ℕ) (documents : List Document) (part : Parts) (left splits : ℕ) → Ends most (at version count documents AtTime part left splits)
  time-ends version count documents part left splits =
      let next : Parts = record part { time = 0 } in
      put most (at version count documents AtTime part left splits) (at version (suc count) documents AtBound next 0 0) (Time 0) (omega arith) refl (bound-ends version (suc count) documents next 0 0)

  abbrev longer : Parts → Parts
  longer part = record part { block = part.block ++ codes "NX1" ∷ [] }

  instruction-ends : (version : Version) (left count : ℕ) (documents : List Document) (part : Parts) (splits : ℕ) → Ends most (at version count documents AtInstruction part left splits)
  instruction-ends version zero count documents part splits =
      put most (at version count documents AtInstruction part 0 splits) (at version (suc count) documents AtTime (longer part) 0 0) (Instruction (codes "NX1")) nx1 refl (time-ends version (suc count) documents (longer part) 0 0)
  instruction-ends version (suc left) count documents part splits =
      let less : suc left - 1 ≡ left = omega arith in
      put most (at version count documents AtInstruction part (suc left) splits) (at version (suc count) documents (place_of_instruction left) (longer part) left 0) (Instruction (codes "NX1")) nx1 (rw less refl)
      (by left (instruction-ends version left (suc count) documents (longer part) 0))
    where
      by : (left : ℕ) → Ends most (at version (suc count) documents AtInstruction (longer part) left 0) → Ends most (at version (suc count) documents (place_of_instruction left) (longer part) left 0)
      by zero e = time-ends version (suc count) documents (longer part) 0 0
      by (suc left) e = rw (place-instruction left) e

  block-ends : (version : Version) (count : ℕ) (documents : List Document) (part : Parts) (left splits : ℕ) → Ends most (at version count documents AtBlock part left splits)
  block-ends version count documents part left splits =
      let next : Parts = record part { block = [] } in
      put most (at version count documents AtBlock part left splits) (at version (suc count) documents AtInstruction next 1 0) (Block 1) (omega arith) refl (instruction-ends version 1 (suc count) documents next 0)

  profile-ends : (version : Version) (count : ℕ) (documents : List Document) (part : Parts) (left splits : ℕ) → Ends most (at version count documents AtProfile part left splits)
  profile-ends version count documents part left splits =
      let next : Parts = record part { profile = standard_numbers } in
      put most (at version count documents AtProfile part left splits) (at version (suc count) documents AtBlock next 0 0) (Profile standard_numbers) (omega arith) refl (block-ends version (suc count) documents next 0 0)

  header-ends : (version : Version) (count : ℕ) (documents : List Document) (part : Parts) (left splits : ℕ) → Ends most (at version count documents AtHeader part left splits)
  header-ends version count documents part left splits =
      put most (at version count documents AtHeader part left splits) (at BoundsAlone (suc count) documents AtProfile nothing 0 0) (Header BoundsAlone) tt refl (profile-ends BoundsAlone (suc count) documents nothing 0 0)

  ends-at : (version : Version) (count : ℕ) (documents : List Document) (place : DocumentPlace) (part : Parts) (left splits : ℕ) → Ends most (at version count documents place part left splits)
  ends-at version count documents AtHeader part left splits = header-ends version count documents part left splits
  ends-at version count documents AtProfile part left splits = profile-ends version count documents part left splits
  ends-at version count documents AtBlock part left splits = block-ends version count documents part left splits
  ends-at version count documents AtInstruction part left splits = instruction-ends version left count documents part splits
  ends-at version count documents AtTime part left splits = time-ends version count documents part left splits
  ends-at version count documents AtBound part left splits = bound-ends version count documents part left splits
  ends-at version count documents AtOrder part left splits = order-ends version count documents part left splits
  ends-at version count documents AtTree part left splits = tree-ends version left count documents part splits
  ends-at version count documents AtEnd part left splits = end-ends version count documents part left splits

  ends : (s : DocumentState) → Ends most s
  ends s = ends-at s.version s.count s.documents s.place s.part s.left s.splits

-- FRONTS

then-append : (most : ℕ) (r : Result DocumentState CertError) (xs ys : List (List ℕ)) → ((s : DocumentState) → steps BLOCK_LIMIT most s (xs ++ ys) ≡ and_then (steps BLOCK_LIMIT most s xs) (λ t. steps BLOCK_LIMIT most t ys)) →
    and_then r (λ t. steps BLOCK_LIMIT most t (xs ++ ys)) ≡ and_then (and_then r (λ t. steps BLOCK_LIMIT most t xs)) (λ t. steps BLOCK_LIMIT most t ys)
then-append most (Ok s) xs ys ih = ih s
then-append most (Err e) xs ys ih = refl

pub steps-append : (most : ℕ) (s : DocumentState) (xs ys : List (List ℕ)) → steps BLOCK_LIMIT most s (xs ++ ys) ≡ and_then (steps BLOCK_LIMIT most s xs) (λ t. steps BLOCK_LIMIT most t ys)
steps-append most s [] ys = refl
steps-append most s (x ∷ xs) ys = then-append most (step BLOCK_LIMIT most s x) xs ys (λ t. steps-append most t xs ys)

pub are-append : (xs ys : List (List ℕ)) → HaveNoNewline xs → HaveNoNewline ys → HaveNoNewline (xs ++ ys)
are-append [] ys h k = k
are-append (x ∷ xs) ys h k = (h.0, are-append xs ys h.1 k)

-- the text of these lines of documents, and of one that is open
open-cut : (ds : List Document) (head : Version) (d : Document) → documents_text ds ++ text_headed head d ≡ with_newlines (map line_bytes (documents_lines ds) ++ map line_bytes (open_lines head d))
open-cut ds head d =
    ap (λ x. x ++ text_headed head d) (documents-text ds) ∙ ap (λ x. with_newlines (map line_bytes (documents_lines ds)) ++ x) (open-text head d)
    ∙ sym (newlines-append (map line_bytes (documents_lines ds)) (map line_bytes (open_lines head d)))

pub begins : (most : ℕ) (before : List (List ℕ)) (s : DocumentState) → HaveNoNewline before → steps BLOCK_LIMIT most first_state before ≡ Ok s → BeginsWithin most (with_newlines before)
begins most before s are run =
    let e = ends most s in
    let head : Version = e.end.version in
    let lines : List (List ℕ) = before ++ e.more in
    let all : steps BLOCK_LIMIT most first_state lines ≡ Ok e.end = steps-append most first_state before e.more ∙ ap (λ (r : Result DocumentState CertError). and_then r (λ t. steps BLOCK_LIMIT most t e.more)) run ∙ e.run in
    let sound = steps-sound most first_state e.end lines (tt, tt) all in
    let has : HasTree most head e.end.part 0 e.end.splits = subst (λ (p : DocumentPlace). IsPart most head p e.end.part e.end.left e.end.splits) e.whole sound.0.1 in
    let (rule, is) = open-document most head e.end.part e.end.splits has in
    let d : Document = record (document_of e.end.part) { rule = rule } in
    let open_part : part_lines head e.end.place e.end.part e.end.left ≡ open_lines head d =
    ap (λ (p : DocumentPlace). part_lines head p e.end.part e.end.left) e.whole ∙ open-is head e.end.part e.end.left e.end.splits most has in
    let read : map line_bytes (documents_lines e.end.documents) ++ map line_bytes (open_lines head d) ≡ lines =
    sym (map-append line_bytes (documents_lines e.end.documents) (open_lines head d)) ∙ ap (λ (l : List DocumentLine). map line_bytes (documents_lines e.end.documents ++ l)) (sym open_part) ∙ sound.1 in
    let same : with_newlines before ++ with_newlines e.more ≡ documents_text e.end.documents ++ text_headed head d =
    sym (newlines-append before e.more) ∙ ap with_newlines (sym read) ∙ sym (open-cut e.end.documents head d) in
    (with_newlines e.more, e.end.documents, head, d, sound.0.0, is, same)

pub fronts : (most : ℕ) (before : List (List ℕ)) → HaveNoNewline before → BeginsWithin most (with_newlines before) → (s : DocumentState) × (steps BLOCK_LIMIT most first_state before ≡ Ok s)
fronts most before are (more, ds, head, d, within, (is, may), same) =
    let under = read-under BLOCK_LIMIT head d.rule d.facts d.tree is.facts is.leaves may in
    let first : List (List ℕ) = map line_bytes (documents_lines ds) in
    let last : List (List ℕ) = map line_bytes (open_lines head d) in
    let lines : HaveNoNewline (first ++ last) = are-append first last (lines-of-documents BLOCK_LIMIT most ds (omega arith) within) (lines-of-open BLOCK_LIMIT most head d (omega arith) is) in
    let cut : before ++ whole_lines [] more ≡ first ++ last =
    sym (whole-of before more are) ∙ ap (whole_lines []) (same ∙ open-cut ds head d ∙ sym (append-nil (with_newlines (first ++ last)))) ∙ whole-all (first ++ last) [] lines refl in
    let one = documents-run BLOCK_LIMIT most (omega arith) 0 [] ds last within in
    let two = open-run BLOCK_LIMIT most (omega arith) head one.0 ds d [] is under in
    let run : steps BLOCK_LIMIT most first_state (before ++ whole_lines [] more) ≡ Ok _ =
    ap (steps BLOCK_LIMIT most first_state) cut ∙ one.1 ∙ ap (λ (l : List (List ℕ)). steps BLOCK_LIMIT most (at BoundsAlone one.0 ds AtHeader nothing 0 0) l) (sym (append-nil last)) ∙ two.1 in
    let (s, front, rest) = after-ok (steps BLOCK_LIMIT most first_state before) (λ u. steps BLOCK_LIMIT most u (whole_lines [] more)) _ (sym (steps-append most first_state before (whole_lines [] more)) ∙ run) in
    (s, front)
