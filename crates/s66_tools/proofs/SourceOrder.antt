-- In source order each number is ready when it comes.
use Rattle.std.proofs.Common.{ℕ, zero, suc, ◌+◌, ◌<◌, ◌≡◌, true, List, [], ◌∷◌, ◌++◌, length, subst, sym, arith, append_assoc, append-nil}
use Rattle.s66_isa.specs.{Instr, rising, numbers}
use Rattle.s66_model.specs.{is_ready, GoesOn, IsBeginning, IsLegal}
use Rattle.s66_model.proofs.Beginnings.{source-legal, front-beginning}

goes-rising : (block : List Instr) (prefix : List ℕ) (k low i : ℕ) → GoesOn block prefix (rising k low) → i < k → is_ready block (prefix ++ rising i low) (low + i) ≡ true
goes-rising block prefix zero low i goes lt = absurd (omega arith)
goes-rising block prefix (suc k) low zero goes lt =
    let here : low ≡ low + zero = omega arith in
    subst (λ m. is_ready block (prefix ++ []) m ≡ true) here (subst (λ ns. is_ready block ns low ≡ true) (sym (append-nil prefix)) goes.0)
goes-rising block prefix (suc k) low (suc i) goes lt =
    let here : suc low + i ≡ low + suc i = omega arith in
    subst (λ m. is_ready block (prefix ++ low ∷ rising i (suc low)) m ≡ true) here
    (subst (λ ns. is_ready block ns (suc low + i) ≡ true) (append_assoc prefix (low ∷ []) (rising i (suc low)))
    (goes-rising block (prefix ++ low ∷ []) k (suc low) i goes.1 (omega arith)))

source-beginning : (block : List Instr) → IsBeginning block (numbers block)
source-beginning block = front-beginning block (numbers block) ([], subst (λ ns. IsLegal block ns) (sym (append-nil (numbers block))) (source-legal block))

pub source-ready : (block : List Instr) (i n : ℕ) → i < length block → n ≡ i + 1 → is_ready block (rising i 1) n ≡ true
source-ready block i n lt is =
    let here : 1 + i ≡ n = omega (arith, is) in
    subst (λ m. is_ready block (rising i 1) m ≡ true) here (goes-rising block [] (length block) 1 i (source-beginning block) lt)
