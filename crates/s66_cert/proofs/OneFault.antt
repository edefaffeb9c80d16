-- Each text is the text of documents or has one fault.
use Rattle.std.proofs.Common.{◌≡◌, ◌⊎◌, inl, inr, ℕ, List, refl, sym, ◌∙◌, arith, Result, Ok, Err}
use Rattle.s66_isa.specs.{BLOCK_LIMIT}
use Rattle.s66_cert.specs.{Document, IsText, IsFault, read_of, CertError, SPLIT_LIMIT}
use Rattle.s66_cert.proofs.FirstFault.{fault-is, fault-only}
use Rattle.s66_cert.proofs.RoundTrip.{read-again}
use Rattle.s66_cert.proofs.Sound.{read-sound}

pub documents-or_fault : (text : List ℕ) → ((ds : List Document) × IsText BLOCK_LIMIT text ds) ⊎ ((e : CertError) × IsFault text e)
documents-or_fault text = by (read_of text) refl
  where
    by : (read : Result (List Document) CertError) → read_of text ≡ read → ((ds : List Document) × IsText BLOCK_LIMIT text ds) ⊎ ((e : CertError) × IsFault text e)
    by (Ok ds) stated = inl (ds, read-sound SPLIT_LIMIT text ds stated)
    by (Err e) stated = inr (e, fault-is SPLIT_LIMIT text e refl stated)

other-answers : (ds : List Document) (e : CertError) (read : Result (List Document) CertError) → read ≡ Ok ds → read ≡ Err e → ⊥
other-answers ds e read h k = let same = sym h ∙ k in (cc)

pub not-both : (text : List ℕ) (ds : List Document) (e : CertError) → IsText BLOCK_LIMIT text ds → ¬ IsFault text e
not-both text ds e h = λ fault. other-answers ds e (read_of text) (read-again BLOCK_LIMIT SPLIT_LIMIT text ds (omega arith) h) (fault-only SPLIT_LIMIT text refl e fault)

same-fault : (e f : CertError) (read : Result (List Document) CertError) → read ≡ Err e → read ≡ Err f → e ≡ f
same-fault e f read h k = let same = sym h ∙ k in (cc)

pub one-fault : (text : List ℕ) (e f : CertError) → IsFault text e → IsFault text f → e ≡ f
one-fault text e f h k = same-fault e f (read_of text) (fault-only SPLIT_LIMIT text refl e h) (fault-only SPLIT_LIMIT text refl f k)
