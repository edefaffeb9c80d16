-- Used by examples alone: texts of documents with lines changed.
use Rattle.std.specs.Prelude.{ℕ, ◌-◌, ◌+◌, Bool, true, false, List, [], ◌∷◌, ◌++◌, codes, take, drop, replicate, Result, Ok, Err}
use Rattle.s66_isa.specs.{every, after_blanks}
use Rattle.s66_line.specs.{with_newlines}
use Rattle.s66_cert.specs.Documents.{Document}
use Rattle.s66_cert.specs.Examples.{three_multiplies_text, late_reader_text, by_facts_with, by_facts_text, by_supposition_with}
use Rattle.s66_cert.specs.Reading.{whole_lines, read_of}
use Rattle.s66_cert.specs.declared.error.CertError.{CertError}
use Rattle.s66_cert.specs.declared.error.CertError.TheVariants.{BadLine, Truncated, TooManyNodes, OutOfMemory}

-- from this line on, the first being 1, this many lines are replaced
abbrev pub replaced : ℕ → ℕ → List (List ℕ) → List ℕ → List ℕ
replaced line count lines text =
    with_newlines (take (line - 1) (whole_lines [] text) ++ lines ++ drop (line - 1 + count) (whole_lines [] text))

-- the text of three multiplies with one line replaced
abbrev pub with_line : ℕ → List ℕ → List ℕ
with_line line bytes = replaced line 1 (bytes ∷ []) three_multiplies_text

-- the text of late reader with one line replaced, read by its version 2
abbrev pub with_late_line : ℕ → List ℕ → List ℕ
with_late_line line bytes = replaced line 1 (bytes ∷ []) (late_reader_text (codes "S66 CERTIFICATE 2"))

-- the text by facts with one line replaced
abbrev pub with_factual_line : ℕ → List ℕ → List ℕ
with_factual_line line bytes = replaced line 1 (bytes ∷ []) by_facts_text

-- with this line, and a tree of one leaf
abbrev pub with_fact_line : List ℕ → List ℕ
with_fact_line bytes = by_facts_with (codes "S66 CERTIFICATE 4") (bytes ++ codes "\nP\n")

-- the text by a supposition with these lines between ORDER and its leaf, read by version 5
abbrev pub with_step_lines : List ℕ → List ℕ
with_step_lines bytes = by_supposition_with (codes "S66 CERTIFICATE 5") (bytes ++ codes "U ADD\n")

-- the text of three multiplies with another tree: a split of this many numbers, and this many whole orders
abbrev pub with_split_of : ℕ → ℕ → List ℕ
with_split_of numbers trees = replaced 10 16 ((codes "S" ++ after_blanks (replicate numbers 1)) ∷ replicate trees (codes "T")) three_multiplies_text

abbrev is_truncated : Result (List Document) CertError → Bool
is_truncated (Ok ds) = false
is_truncated (Err Truncated) = true
is_truncated (Err (BadLine line)) = false
is_truncated (Err TooManyNodes) = false
is_truncated (Err OutOfMemory) = false

-- the first n bytes, for each n of these counts
abbrev pub are_truncated : List ℕ → List ℕ → Bool
are_truncated counts text = every (λ k. is_truncated (read_of (take k text))) counts
