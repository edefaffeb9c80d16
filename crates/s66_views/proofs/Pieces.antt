-- The markup of a page is that of its pieces, appended one after the other; cited wherever a function of `src/` appends several.
use Rattle.std.proofs.Common.{◌≡◌, List, ℕ, ◌++◌, ◌∙◌, Result, OnOk, ap, append_assoc}
use Rattle.std.proofs.lemmas.Result.{IfOk-equal}

-- one more piece
pub more : (out mid new text a : List ℕ) → mid ≡ out ++ text → new ≡ mid ++ a → new ≡ out ++ (text ++ a)
more out mid new text a first is = is ∙ ap (λ zs. zs ++ a) first ∙ append_assoc out text a

-- and the last
pub last : {A E : Type 0} (r : Result A E) (out mid new text a : List ℕ) → mid ≡ out ++ text → OnOk r (new ≡ mid ++ a) → OnOk r (new ≡ out ++ (text ++ a))
last r out mid new text a first is = IfOk-equal r _ _ _ is (ap (λ zs. zs ++ a) first ∙ append_assoc out text a)
