-- A text is its lines with their newlines and what is left behind the last, and lines cut out of it are these.
use Rattle.std.proofs.Common.{◌≡◌, ℕ, Bool, true, false, not, List, [], ◌∷◌, ◌++◌, map, length, refl, sym, ap, ◌∙◌, eqb, append_assoc, eqb-true, append-nil, Option, None, Some, codes, decimal}
use Rattle.std.proofs.lemmas.Bool.{and_parts, and_from, not-true}
use Rattle.std.proofs.lemmas.List.{map-append}
use Rattle.s66_isa.specs.{every, after_blanks}
use Rattle.s66_model.specs.{Vertex, flat, Ending}
use Rattle.s66_moments.specs.{FactStep}
use Rattle.s66_line.specs.{with_newlines}
use Rattle.s66_cert.specs.{Document, vertex_line, tree_lines, instructions_text, step_line, step_lines, facts_text, text_headed, document_text, documents_text, Version, version, version_number}
use Rattle.s66_cert.specs.{IsLine, HaveNoNewline, DocumentLine, End, line_bytes, whole_lines, last_bytes}
use Rattle.s66_cert.proofs.DocumentLines.{open_lines, document_lines, documents_lines, instructions_of, steps_of, facts_of, vertices_of}

line-parts : (b : ℕ) (line : List ℕ) → IsLine (b ∷ line) → (eqb b 10 ≡ false) × IsLine line
line-parts b line h = let both = and_parts (not (eqb b 10)) (every (λ b. not (eqb b 10)) line) h in (not-true (eqb b 10) both.0, both.1)

-- A WHOLE LINE, AND A REST

whole-before : (begun line text : List ℕ) → IsLine line → whole_lines begun (line ++ 10 ∷ text) ≡ (begun ++ line) ∷ whole_lines [] text
whole-before begun [] text h = ap (λ x. x ∷ whole_lines [] text) (sym (append-nil begun))
whole-before begun (b ∷ line) text h =
    let parts = line-parts b line h in
    rw parts.0 (whole-before (begun ++ b ∷ []) line text parts.1 ∙ ap (λ x. x ∷ whole_lines [] text) (append_assoc begun (b ∷ []) line))

last-before : (begun line text : List ℕ) → IsLine line → last_bytes begun (line ++ 10 ∷ text) ≡ last_bytes [] text
last-before begun [] text h = refl
last-before begun (b ∷ line) text h = let parts = line-parts b line h in rw parts.0 (last-before (begun ++ b ∷ []) line text parts.1)

whole-rest : (begun line : List ℕ) → IsLine line → whole_lines begun line ≡ []
whole-rest begun [] h = refl
whole-rest begun (b ∷ line) h = let parts = line-parts b line h in rw parts.0 (whole-rest (begun ++ b ∷ []) line parts.1)

last-rest : (begun line : List ℕ) → IsLine line → last_bytes begun line ≡ begun ++ line
last-rest begun [] h = sym (append-nil begun)
last-rest begun (b ∷ line) h = let parts = line-parts b line h in rw parts.0 (last-rest (begun ++ b ∷ []) line parts.1 ∙ append_assoc begun (b ∷ []) line)

pub whole-of : (lines : List (List ℕ)) (text : List ℕ) → HaveNoNewline lines → whole_lines [] (with_newlines lines ++ text) ≡ lines ++ whole_lines [] text
whole-of [] text h = refl
whole-of (line ∷ lines) text h =
    ap (whole_lines []) (append_assoc line (10 ∷ with_newlines lines) text) ∙ whole-before [] line (with_newlines lines ++ text) h.0 ∙ ap (λ x. line ∷ x) (whole-of lines text h.1)

pub last-of : (lines : List (List ℕ)) (text : List ℕ) → HaveNoNewline lines → last_bytes [] (with_newlines lines ++ text) ≡ last_bytes [] text
last-of [] text h = refl
last-of (line ∷ lines) text h =
    ap (last_bytes []) (append_assoc line (10 ∷ with_newlines lines) text) ∙ last-before [] line (with_newlines lines ++ text) h.0 ∙ last-of lines text h.1

pub whole-all : (lines : List (List ℕ)) (rest : List ℕ) → HaveNoNewline lines → IsLine rest → whole_lines [] (with_newlines lines ++ rest) ≡ lines
whole-all lines rest h k = whole-of lines rest h ∙ ap (λ x. lines ++ x) (whole-rest [] rest k) ∙ append-nil lines

pub last-all : (lines : List (List ℕ)) (rest : List ℕ) → HaveNoNewline lines → IsLine rest → last_bytes [] (with_newlines lines ++ rest) ≡ rest
last-all lines rest h k = last-of lines rest h ∙ last-rest [] rest k

-- the text is its whole lines and the rest
cut-at : (begun : List ℕ) (b : ℕ) (text : List ℕ) (t : Bool) → eqb b 10 ≡ t → ((begun : List ℕ) → begun ++ text ≡ with_newlines (whole_lines begun text) ++ last_bytes begun text) →
    begun ++ b ∷ text ≡ with_newlines (whole_lines begun (b ∷ text)) ++ last_bytes begun (b ∷ text)
cut-at begun b text true e ih =
    rw e (ap (λ x. begun ++ x ∷ text) (eqb-true b 10 e) ∙ ap (λ x. begun ++ 10 ∷ x) (ih []) ∙ sym (append_assoc begun (10 ∷ with_newlines (whole_lines [] text)) (last_bytes [] text)))
cut-at begun b text false e ih = rw e (sym (append_assoc begun (b ∷ []) text) ∙ ih (begun ++ b ∷ []))

cut-from : (begun text : List ℕ) → begun ++ text ≡ with_newlines (whole_lines begun text) ++ last_bytes begun text
cut-from begun [] = append-nil begun
cut-from begun (b ∷ text) = cut-at begun b text (eqb b 10) refl (λ begun. cut-from begun text)

pub cut : (text : List ℕ) → text ≡ with_newlines (whole_lines [] text) ++ last_bytes [] text
cut text = cut-from [] text

line-more : (begun : List ℕ) (b : ℕ) → IsLine begun → eqb b 10 ≡ false → IsLine (begun ++ b ∷ [])
line-more [] b h e = rw e refl
line-more (a ∷ begun) b h e =
    let both = and_parts (not (eqb a 10)) (every (λ b. not (eqb b 10)) begun) h in
    and_from (not (eqb a 10)) (every (λ b. not (eqb b 10)) (begun ++ b ∷ [])) both.0 (line-more begun b both.1 e)

lines-at : (begun : List ℕ) (b : ℕ) (text : List ℕ) (t : Bool) → eqb b 10 ≡ t → IsLine begun → ((begun : List ℕ) → IsLine begun → HaveNoNewline (whole_lines begun text) × IsLine (last_bytes begun text)) →
    HaveNoNewline (whole_lines begun (b ∷ text)) × IsLine (last_bytes begun (b ∷ text))
lines-at begun b text true e h ih = rw e (let rest = ih [] refl in ((h, rest.0), rest.1))
lines-at begun b text false e h ih = rw e (ih (begun ++ b ∷ []) (line-more begun b h e))

lines-from : (begun text : List ℕ) → IsLine begun → HaveNoNewline (whole_lines begun text) × IsLine (last_bytes begun text)
lines-from begun [] h = (tt, h)
lines-from begun (b ∷ text) h = lines-at begun b text (eqb b 10) refl h (λ begun h. lines-from begun text h)

pub are-lines : (text : List ℕ) → HaveNoNewline (whole_lines [] text) × IsLine (last_bytes [] text)
are-lines text = lines-from [] text refl

pub newlines-append : (front rest : List (List ℕ)) → with_newlines (front ++ rest) ≡ with_newlines front ++ with_newlines rest
newlines-append [] rest = refl
newlines-append (line ∷ front) rest = ap (λ x. line ++ 10 ∷ x) (newlines-append front rest) ∙ sym (append_assoc line (10 ∷ with_newlines front) (with_newlines rest))

-- A DOCUMENT'S TEXT

instructions-text : (texts : List (List ℕ)) → instructions_text texts ≡ with_newlines (map line_bytes (instructions_of texts))
instructions-text [] = refl
instructions-text (text ∷ texts) = ap (λ x. codes "I " ++ text ++ codes "\n" ++ x) (instructions-text texts) ∙ simp append_assoc

steps-text : (steps : List FactStep) → step_lines steps ≡ with_newlines (map line_bytes (steps_of steps))
steps-text [] = refl
steps-text (step ∷ steps) = ap (λ x. step_line step ++ codes "\n" ++ x) (steps-text steps) ∙ append_assoc (step_line step) (codes "\n") (with_newlines (map line_bytes (steps_of steps)))

facts-text : (facts : Option (List FactStep)) → facts_text facts ≡ with_newlines (map line_bytes (facts_of facts))
facts-text None = refl
facts-text (Some steps) = steps-text steps

tree-text : (vertices : List (Vertex Ending)) → tree_lines vertices ≡ with_newlines (map line_bytes (vertices_of vertices))
tree-text [] = refl
tree-text (vertex ∷ vertices) = ap (λ x. vertex_line vertex ++ codes "\n" ++ x) (tree-text vertices) ∙ append_assoc (vertex_line vertex) (codes "\n") (with_newlines (map line_bytes (vertices_of vertices)))

lines-append : (xs ys : List DocumentLine) → with_newlines (map line_bytes (xs ++ ys)) ≡ with_newlines (map line_bytes xs) ++ with_newlines (map line_bytes ys)
lines-append xs ys = ap with_newlines (map-append line_bytes xs ys) ∙ newlines-append (map line_bytes xs) (map line_bytes ys)

right-nested : (s r q p c k l i t a u b v n w f m : List ℕ) →
    (s ++ r ++ q ++ p ++ c ++ k ++ l) ++ i ++ (t ++ a ++ u ++ b ++ v ++ n ++ w) ++ f ++ m
    ≡ s ++ (r ++ (q ++ (p ++ (c ++ (k ++ (l ++ (i ++ (t ++ (a ++ (u ++ (b ++ (v ++ (n ++ (w ++ (f ++ m)))))))))))))))
right-nested s r q p c k l i t a u b v n w f m = simp append_assoc

pub open-text : (head : Version) (d : Document) → text_headed head d ≡ with_newlines (map line_bytes (open_lines head d))
open-text head d =
    right-nested (codes "S66 CERTIFICATE ") (decimal (version_number head)) (codes "\nPROFILE") (after_blanks d.profile) (codes "\nBLOCK ") (decimal (length d.block)) (codes "\n") (instructions_text d.block) (codes "TIME ") (decimal d.time) (codes "\nBOUND ") (decimal d.bound) (codes "\nORDER") (after_blanks d.numbers) (codes "\n") (facts_text d.facts) (tree_lines (flat d.tree))
    ∙ rw (instructions-text d.block, facts-text d.facts, tree-text (flat d.tree), lines-append (instructions_of d.block) _, lines-append (facts_of d.facts) (vertices_of (flat d.tree))) refl

document-text : (d : Document) → document_text d ≡ with_newlines (map line_bytes (document_lines d))
document-text d = ap (λ x. x ++ codes "END\n") (open-text (version d.facts d.rule) d) ∙ sym (lines-append (open_lines (version d.facts d.rule) d) (End ∷ []))

pub documents-text : (ds : List Document) → documents_text ds ≡ with_newlines (map line_bytes (documents_lines ds))
documents-text [] = refl
documents-text (d ∷ ds) =
    ap (λ x. x ++ documents_text ds) (document-text d) ∙ ap (λ x. with_newlines (map line_bytes (document_lines d)) ++ x) (documents-text ds) ∙ sym (lines-append (document_lines d) (documents_lines ds))
