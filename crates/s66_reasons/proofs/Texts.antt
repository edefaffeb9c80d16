-- The sentences of a row, of a leaf and of a fact are those of their pieces, appended one after the other.
use Rattle.std.proofs.Common.{ℕ, ◌+◌, ◌-◌, ◌≡◌, ◌<◌, ◌∙◌, Bool, true, false, true≢false, List, [], ◌∷◌, ◌++◌, codes, drop, get_or, slice_get, Some, length, map, refl, ap, append_assoc, sym, Result}
use Rattle.std.proofs.Common.{IfOk, filter}
use Rattle.std.proofs.lemmas.List.{at_drop_more}
use Rattle.std.proofs.lemmas.Option.{get_or_from_slice_get, slice_get_within}
use Rattle.std.proofs.lemmas.Result.{IfOk-equal}
use Rattle.s66_isa.specs.{rising}
use Rattle.s66_isa.proofs.Lists.{rising-next}
use Rattle.s66_model.specs.{row_at, link, Vertex, AtTerminal, AtSplit, Ending}
use Rattle.s66_cert.specs.{Document}
use Rattle.s66_cert.proofs.Printed.{drop-here}
use Rattle.s66_why.specs.{on_right}
use Rattle.s66_checker.specs.{problem_of}
use Rattle.s66_reasons.specs.{Reason, row_text, rows_text, link_row, walk_rows, if_words, tree_line_text, lines_text, is_split, vertex_text}

-- its number, its words, and the end of the line
pub row-pushed : {T E : Type 0} (r : Result T E) (out first second new words : List ℕ) (number : ℕ) → first ≡ out ++ (on_right 4 number ++ codes "  ") →
    second ≡ first ++ words → IfOk r (λ _. new ≡ second ++ codes "\n") → IfOk r (λ _. new ≡ out ++ (on_right 4 number ++ codes "  " ++ words ++ codes "\n"))
row-pushed r out first second new words number one two three =
    let front = on_right 4 number ++ codes "  " in
    IfOk-equal r new (second ++ codes "\n") (out ++ (front ++ words ++ codes "\n")) three
    (ap (λ xs. xs ++ codes "\n") (two ∙ ap (λ xs. xs ++ words) one ∙ append_assoc out front words) ∙ append_assoc out (front ++ words) (codes "\n"))

-- a text, and two more after it
pub joined : (out one two front middle rest : List ℕ) → one ≡ out ++ front → two ≡ one ++ middle → two ++ rest ≡ out ++ (front ++ middle ++ rest)
joined out one two front middle rest first second =
    ap (λ xs. xs ++ rest) (second ∙ ap (λ xs. xs ++ middle) first ∙ append_assoc out front middle) ∙ append_assoc out (front ++ middle) rest

-- one row of a chain more
pub walk-more : (d : Document) (t n : ℕ) (ms : List ℕ) (i wait : ℕ) (old new : List ℕ) → i < length ms →
    wait ≡ link (row_at (problem_of d) n) (row_at (problem_of d) (get_or ms i 0)) → new ≡ old ++ row_text (link_row d t n (get_or ms i 0)) →
    new ++ rows_text (walk_rows d (t + wait) (get_or ms i 0) (drop (i + 1) ms)) ≡ old ++ rows_text (walk_rows d t n (drop i ms))
walk-more d t n ms i wait old new within waits pushed =
    let m = get_or ms i 0 in
    let row = row_text (link_row d t n m) in
    let rest = rows_text (walk_rows d (t + link (row_at (problem_of d) n) (row_at (problem_of d) m)) m (drop (i + 1) ms)) in
    ap (λ k. new ++ rows_text (walk_rows d (t + k) m (drop (i + 1) ms))) waits
    ∙ ap (λ xs. xs ++ rest) pushed ∙ append_assoc old row rest
    ∙ ap (λ xs. old ++ xs) (sym (at_drop_more (λ ks. rows_text (walk_rows d t n ks)) ms i 0 within))

-- rows of those that pass, one of which is next
module _ (row : ℕ → Reason) (test : ℕ → Bool) (count p : ℕ) (within : p < count) where
  abbrev rest : List ℕ
  rest = filter test (rising (count - (p + 1)) (p + 1 + 1))

  pub filter-more : (old new : List ℕ) → test (p + 1) ≡ true → new ≡ old ++ row_text (row (p + 1)) →
      new ++ rows_text (map row rest) ≡ old ++ rows_text (map row (filter test (rising (count - p) (p + 1))))
  filter-more old new passes pushed =
      let all : filter test (rising (count - p) (p + 1)) ≡ (p + 1) ∷ rest = ap (filter test) (rising-next count p within) ∙ rw passes refl in
      ap (λ xs. xs ++ rows_text (map row rest)) pushed ∙ append_assoc old (row_text (row (p + 1))) (rows_text (map row rest))
      ∙ ap (λ ns. old ++ rows_text (map row ns)) (sym all)

  pub filter-less : (old : List ℕ) → test (p + 1) ≡ false →
      old ++ rows_text (map row rest) ≡ old ++ rows_text (map row (filter test (rising (count - p) (p + 1))))
  filter-less old fails =
      let all : filter test (rising (count - p) (p + 1)) ≡ rest = ap (filter test) (rising-next count p within) ∙ rw fails refl in
      ap (λ ns. old ++ rows_text (map row ns)) (sym all)

-- one line of a tree more
pub lines-more : (d : Document) (lines : List (List ℕ × Vertex Ending)) (place : ℕ) (line : List ℕ × Vertex Ending) (old new : List ℕ) →
    slice_get lines place ≡ Some line → new ≡ old ++ tree_line_text d line.0 line.1 →
    new ++ lines_text d (drop (place + 1) lines) ≡ old ++ lines_text d (drop place lines)
lines-more d lines place line old new found pushed =
    let within = slice_get_within lines place line found in
    let here = drop-here lines place line within (sym (get_or_from_slice_get lines place line line found)) in
    let rest = lines_text d (drop (place + 1) lines) in
    ap (λ xs. xs ++ rest) pushed ∙ append_assoc old (tree_line_text d line.0 line.1) rest
    ∙ ap (λ (ls : List (List ℕ × Vertex Ending)). old ++ lines_text d ls) (sym here)

-- a line at its prefix

pub split-line : (d : Document) (at : List ℕ) (vertex : Vertex Ending) → is_split vertex ≡ true → tree_line_text d at vertex ≡ []
split-line d at (AtSplit numbers) split = refl
split-line d at (AtTerminal ending) split = absurd (true≢false (sym split))

pub leaf-line : (d : Document) (at : List ℕ) (vertex : Vertex Ending) → is_split vertex ≡ false → tree_line_text d at vertex ≡ if_words at ++ vertex_text d at vertex
leaf-line d at (AtSplit numbers) split = absurd (true≢false split)
leaf-line d at (AtTerminal ending) split = refl
