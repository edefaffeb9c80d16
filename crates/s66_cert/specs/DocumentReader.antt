-- Used by contracts: what a reader of documents shows between two lines, and how it goes on by one.
use Rattle.std.specs.Prelude.{◌≡◌, ◌==◌, ℕ, Bool, length, List, map, Result, Ok, Err}
use Rattle.s66_cert.specs.DocumentParts.{document_of}
use Rattle.s66_cert.specs.Reading.{DocumentState}
use Rattle.s66_cert.specs.declared.reader.Reader.{Reader}
use Rattle.s66_cert.specs.declared.error.CertError.{CertError}
use Rattle.s66_cert.specs.declared.error.CertError.TheVariants.{BadLine, Truncated, TooManyNodes, OutOfMemory}

abbrev pub state : Reader → DocumentState
state r = record { count = r.lines; documents = map document_of r.documents.items; place = r.place; version = r.version; part = r.claim; left = r.left; splits = r.splits }

-- what came out is what the definition gives, and a fault is the one that it gives; out of memory may come in place of either
abbrev pub Gives : {X Y : Type 0} → (X → Y) → Result X CertError → Result Y CertError → Type 0
Gives view (Ok x) read = read ≡ Ok (view x)
Gives view (Err OutOfMemory) read = Unit {0}
Gives view (Err (BadLine line)) read = read ≡ Err (BadLine line)
Gives view (Err Truncated) read = read ≡ Err Truncated
Gives view (Err TooManyNodes) read = read ≡ Err TooManyNodes

-- the new state is what the steps made
abbrev pub Steps : DocumentState → Result (Unit {0}) CertError → Result DocumentState CertError → Type 0
Steps new result made = Gives (λ u. new) result made

-- the same, with whether nothing is left after the last newline
abbrev pub StepsEnd : DocumentState → Result Bool CertError → Result DocumentState CertError → List ℕ → Type 0
StepsEnd new (Ok whole) made rest = (made ≡ Ok new) × (whole ≡ (length rest == 0))
StepsEnd new (Err e) made rest = Steps new (Err e) made
