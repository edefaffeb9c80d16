-- What reading gives, in the words of documents and faults.
use Rattle.std.proofs.Common.{ℕ, List, refl, Result, Ok, Err, IfOk}
use Rattle.s66_isa.specs.{BLOCK_LIMIT}
use Rattle.s66_cert.specs.{SPLIT_LIMIT, Document, IsText, read_of, RefusesText, Gives, CertError, BadLine, Truncated, TooManyNodes, OutOfMemory}
use Rattle.s66_cert.proofs.FirstFault.{fault-is}
use Rattle.s66_cert.proofs.Sound.{read-sound}

pub gives-documents : {X : Type 0} (view : X → List Document) (text : List ℕ) (result : Result X CertError) → Gives view result (read_of text) → IfOk result (λ x. IsText BLOCK_LIMIT text (view x))
gives-documents view text (Ok x) h = read-sound SPLIT_LIMIT text (view x) h
gives-documents view text (Err e) h = tt

pub gives-fault : {X : Type 0} (view : X → List Document) (text : List ℕ) (result : Result X CertError) → Gives view result (read_of text) → RefusesText text result
gives-fault view text (Ok x) h = tt
gives-fault view text (Err OutOfMemory) h = tt
gives-fault view text (Err (BadLine line)) h = fault-is SPLIT_LIMIT text (BadLine line) refl h
gives-fault view text (Err Truncated) h = fault-is SPLIT_LIMIT text Truncated refl h
gives-fault view text (Err TooManyNodes) h = fault-is SPLIT_LIMIT text TooManyNodes refl h
