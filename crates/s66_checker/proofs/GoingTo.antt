-- From one beginning to another with the same front.
use Rattle.std.proofs.Common.{ℕ, ◌≤◌, ◌≡◌, ◌&&◌, Decides, List, [], ◌∷◌, ◌++◌, length, take, drop, refl, sym, ap, subst, ◌∙◌, append_assoc, append-nil, take-append-drop, take_all}
use Rattle.std.proofs.lemmas.Bool.Decides.{Decides-and}
use Rattle.s66_isa.specs.{Instr}
use Rattle.s66_model.specs.{GoesOn, IsBeginning, is_ready}
use Rattle.s66_model.proofs.LegalOrders.{GoesOn-append}
use Rattle.s66_checker.specs.{is_beginning_after}

-- the test says yes exactly when they go on
pub goes_on-Decides : (block : List Instr) (prefix ns : List ℕ) → Decides (is_beginning_after block prefix ns) (GoesOn block prefix ns)
goes_on-Decides block prefix [] = ((λ h. tt), λ h. refl)
goes_on-Decides block prefix (n ∷ ns) =
    Decides-and (is_ready block prefix n) (is_beginning_after block (prefix ++ n ∷ []) ns) ((λ h. h), λ h. h) (goes_on-Decides block (prefix ++ n ∷ []) ns)

-- what goes on to some numbers goes on to more as it does from there
goes-further : (block : List Instr) (prefix xs ys : List ℕ) → GoesOn block prefix xs → is_beginning_after block (prefix ++ xs) ys ≡ is_beginning_after block prefix (xs ++ ys)
goes-further block prefix [] ys goes = ap (λ ns. is_beginning_after block ns ys) (append-nil prefix)
goes-further block prefix (n ∷ xs) ys goes =
    ap (λ ns. is_beginning_after block ns ys) (sym (append_assoc prefix (n ∷ []) xs))
    ∙ goes-further block (prefix ++ n ∷ []) xs ys goes.1
    ∙ sym (ap (λ test. test && is_beginning_after block (prefix ++ n ∷ []) (xs ++ ys)) goes.0)

-- the numbers that two have in common at the front are a beginning if one is
pub front-begins : (block : List Instr) (ns ms : List ℕ) (k : ℕ) → IsBeginning block ns → take k ns ≡ take k ms → IsBeginning block (take k ms)
front-begins block ns ms k begins same =
    subst (IsBeginning block) same
    (GoesOn-append block [] (take k ns) (drop k ns) (subst (IsBeginning block) (sym (take-append-drop k ns)) begins)).0

-- all that is left after the front decides
pub front-goes : (block : List Instr) (ms : List ℕ) (k : ℕ) → IsBeginning block (take k ms) → is_beginning_after block (take k ms) (drop k ms) ≡ is_beginning_after block [] ms
front-goes block ms k begins = goes-further block [] (take k ms) (drop k ms) begins ∙ ap (is_beginning_after block []) (take-append-drop k ms)

-- nothing but the front
pub front-alone : (k : ℕ) (ns ms : List ℕ) → length ns ≤ k → take k ns ≡ take k ms → ns ≡ take k ms
front-alone k ns ms few same = sym (take_all k ns few) ∙ same
