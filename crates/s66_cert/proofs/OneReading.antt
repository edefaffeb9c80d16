-- A text is read in one way.
use Rattle.std.proofs.Common.{◌≡◌, ◌<◌, ◌^◌, ◌+◌, ℕ, max, List, [], ◌∷◌, ◌++◌, refl, sym, ap, ◌∙◌, arith, Result, Ok}
use Rattle.s66_cert.specs.{Document, IsDocumentWithin, IsTextWithin, document_text, documents_text, CertError}
use Rattle.s66_cert.proofs.RoundTrip.{read-again}
use Rattle.s66_cert.proofs.InRange.{wide-documents}

same-list : (ds es : List Document) (r : Result (List Document) CertError) → r ≡ Ok ds → r ≡ Ok es → ds ≡ es
same-list ds es r h k = let e = sym h ∙ k in (cc)

pub one-list : (limit other most more : ℕ) (text : List ℕ) (ds es : List Document) → limit < 2 ^ 64 → other < 2 ^ 64 → IsTextWithin limit most text ds → IsTextWithin other more text es → ds ≡ es
one-list limit other most more text ds es narrow thin h k =
    let wide : ℕ = max limit other in
    let fits : wide < 2 ^ 64 = omega (arith, narrow, thin) in
    same-list ds es _
    (read-again wide (most + more) text ds fits (wide-documents limit wide (omega arith) most (most + more) ds (omega arith) h.0, h.1))
    (read-again wide (most + more) text es fits (wide-documents other wide (omega arith) more (most + more) es (omega arith) k.0, k.1))

one-head : (d e : Document) (ds es : List Document) → d ∷ ds ≡ e ∷ es → d ≡ e
one-head d e ds es h = (cc)

pub one-document : (limit other most more : ℕ) (d e : Document) → limit < 2 ^ 64 → other < 2 ^ 64 → IsDocumentWithin limit most d → IsDocumentWithin other more e → document_text d ≡ document_text e → d ≡ e
one-document limit other most more d e narrow thin h k same =
    one-head d e [] [] (one-list limit other most more (documents_text (d ∷ [])) (d ∷ []) (e ∷ []) narrow thin ((h, tt), refl) ((k, tt), ap (λ x. x ++ []) same))
