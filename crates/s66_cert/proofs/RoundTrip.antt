-- What is a text of documents is read as these documents.
use Rattle.std.proofs.Common.{◌≡◌, ◌<◌, ◌^◌, ℕ, List, [], ◌++◌, map, refl, sym, ap, ◌∙◌, append-nil, Ok}
use Rattle.s66_line.specs.{with_newlines}
use Rattle.s66_cert.specs.{Document, IsTextWithin, HaveNoNewline, line_bytes, first_state, steps, whole_lines, last_bytes, read_within}
use Rattle.s66_cert.proofs.DocumentLines.{documents_lines}
use Rattle.s66_cert.proofs.TextLines.{documents-text, whole-all, last-all}
use Rattle.s66_cert.proofs.Grammar.{documents-run}
use Rattle.s66_cert.proofs.InRange.{lines-of-documents}

pub read-again : (limit most : ℕ) (text : List ℕ) (ds : List Document) → limit < 2 ^ 64 → IsTextWithin limit most text ds → read_within limit most text ≡ Ok ds
read-again limit most text ds narrow is =
    let lines : List (List ℕ) = map line_bytes (documents_lines ds) in
    let are : HaveNoNewline lines = lines-of-documents limit most ds narrow is.0 in
    let cut : text ≡ with_newlines lines ++ [] = is.1 ∙ documents-text ds ∙ sym (append-nil (with_newlines lines)) in
    let whole : whole_lines [] text ≡ lines = ap (whole_lines []) cut ∙ whole-all lines [] are refl in
    let rest : last_bytes [] text ≡ [] = ap (last_bytes []) cut ∙ last-all lines [] are refl in
    let run = documents-run limit most narrow 0 [] ds [] is.0 in
    let end : steps limit most first_state lines ≡ Ok (record first_state { count = run.0; documents = ds }) = ap (steps limit most first_state) (sym (append-nil lines)) ∙ run.1 in
    rw (whole, rest, end) refl
