-- The order that was found for a block, at its place of a list: its numbers are those of the block.
use Rattle.std.specs.Slice.{IsItemAt}
use Rattle.std.proofs.Common.{◌≡◌, ◌≤◌, ◌<◌, ℕ, zero, suc, List, [], ◌∷◌, Some, arith, length, slice_index_or, subst, sym, Bor}
use Rattle.std.proofs.lemmas.List.{length-map}
use Rattle.s66_isa.specs.{Among, numbers}
use Rattle.s66_isa.proofs.Lists.{among-rising}
use Rattle.s66_line.specs.{Block, Entry, instrs_of}
use Rattle.s66_source.specs.{ArePlaced, Placed}

-- numbers of the source order are of the block
pub source-within : (block : Block) (n : ℕ) → Among n (numbers (instrs_of block)) → (1 ≤ n) × (n ≤ length block.entries)
source-within block n among =
    let (low, high) = among-rising (length (instrs_of block)) 1 n among in
    (low, omega (arith, high, length-map block.entries (λ (e : Entry). e.instr)))

-- each number of the i-th order is one of its block
pub placed-at : (blocks : List Block) (ps : List Placed) → ArePlaced blocks ps → (i : ℕ) (block : Block) (p : Placed) → i < length blocks → block ≡ slice_index_or blocks i block → p ≡ slice_index_or ps i p →
    (n : ℕ) → Among n p.order → (1 ≤ n) × (n ≤ length block.entries)
placed-at [] ps are i block p below at placed n among = absurd (omega (arith, below))
placed-at (b ∷ blocks) [] are i block p below at placed n among = absurd are
placed-at (b ∷ blocks) (q ∷ ps) are zero block p below at placed n among =
    subst (λ (c : Block). (1 ≤ n) × (n ≤ length c.entries)) (sym at) (are.0 n (subst (λ (r : Placed). Among n r.order) placed among))
placed-at (b ∷ blocks) (q ∷ ps) are (suc i) block p below at placed n among = placed-at blocks ps are.1 i block p (omega (arith, below)) at placed n among

pub inside-at : {X : Type 0} (xs : List X) (i : ℕ) (x : Bor X) → IsItemAt xs i (Some x) → (i < length xs) × (x.now ≡ slice_index_or xs i x.now)
inside-at xs i x (is, at, some, (within, holds), any) = (within, at)
