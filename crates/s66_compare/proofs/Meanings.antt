-- A block that is another one in a legal order leaves what that one leaves.
use Rattle.std.proofs.Common.{ℕ, zero, suc, ◌+◌, ◌≡◌, ◌≤◌, ◌∙◌, List, [], ◌∷◌, ◌++◌, length, map, refl, ap, ap₂, sym, arith}
use Rattle.s66_isa.specs.{rising, instr_at, numbers, Instr}
use Rattle.s66_model.specs.{IsLegal, Contents, Operation, after, at_start, meaning, operation_at, run}
use Rattle.s66_model.proofs.MeaningOfOrders.{legal-meaning}
use Rattle.s66_line.specs.{Block, bytes_of, constants_in, instrs_of, text_of, whole_text_of, characters_in, rest_in, IsTextOf, Spells, instr_in_text, operand_in, constant_of, instr_of}
use Rattle.s66_line.proofs.InstructionTexts.{operand_in-spelling, operation_in-spelling}
use Rattle.s66_compare.specs.{AreWithin, texts_of}
use Rattle.s66_compare.proofs.WholeTexts.{operand_in-whole, operation_in-whole, rest_in-whole}

-- the instructions of a block are those of their texts
abbrev pub IsSpelled : Block → Type 0
IsSpelled block = (n : ℕ) → 1 ≤ n → n ≤ length (instrs_of block) → IsTextOf (text_of block n) (instr_at (instrs_of block) n)

-- what a whole text says: behind the operand it has characters alone
abbrev operation_of_text : List ℕ → Operation
operation_of_text text = record { instr = instr_in_text text; constant = constant_of (instr_in_text text).op.code (operand_in text) ++ rest_in text }

pub spells-bytes : (block : Block) (n : ℕ) → IsTextOf (text_of block n) (instr_at (instrs_of block) n) → Spells (bytes_of block n) (instr_at (instrs_of block) n)
spells-bytes block n is =
    let bytes : List ℕ = bytes_of block n in
    ap₂ instr_of (sym (operation_in-spelling bytes)) (sym (operand_in-spelling bytes)) ∙ is.spells

in-text : (text : List ℕ) (n : Instr) → Spells text n → n ≡ instr_in_text text
in-text text n spells = rw spells refl

pub instr-text : (block : Block) (n : ℕ) → IsTextOf (text_of block n) (instr_at (instrs_of block) n) → instr_at (instrs_of block) n ≡ instr_in_text (whole_text_of block n)
instr-text block n is =
    let bytes : List ℕ = bytes_of block n in
    in-text (whole_text_of block n) (instr_at (instrs_of block) n) (ap₂ instr_of (operation_in-whole bytes) (operand_in-whole bytes) ∙ spells-bytes block n is)

operation-text : (block : Block) (n : ℕ) → IsTextOf (text_of block n) (instr_at (instrs_of block) n) → operation_at (instrs_of block) (constants_in block) n ≡ operation_of_text (whole_text_of block n)
operation-text block n is =
    let bytes : List ℕ = bytes_of block n in
    let text : List ℕ = whole_text_of block n in
    ap₂ (λ (i : Instr) (operand : List ℕ). record { instr = i; constant = constant_of i.op.code operand ++ characters_in bytes }) (instr-text block n is) (sym (operand_in-whole bytes))
    ∙ ap (λ rest. record { instr = instr_in_text text; constant = constant_of (instr_in_text text).op.code (operand_in text) ++ rest }) (sym (rest_in-whole bytes))

operations-texts : (block : Block) (ns : List ℕ) → IsSpelled block → AreWithin (length (instrs_of block)) ns →
    map (operation_at (instrs_of block) (constants_in block)) ns ≡ map operation_of_text (map (whole_text_of block) ns)
operations-texts block [] spelled within = refl
operations-texts block (n ∷ ns) spelled within =
    ap₂ (λ (o : Operation) os. o ∷ os) (operation-text block n (spelled n within.0 within.1)) (operations-texts block ns spelled within.2)

within-rising : (count k low : ℕ) → 1 ≤ low → low + k ≤ count + 1 → AreWithin count (rising k low)
within-rising count zero low some most = tt
within-rising count (suc k) low some most = (some, omega (arith, most), within-rising count k (suc low) (omega arith) (omega (arith, most)))

no_operation : (o : Operation) (os : List Operation) → [] ≡ o ∷ os → ⊥
no_operation o os h = cc

first-operation : (o q : Operation) (os qs : List Operation) → o ∷ os ≡ q ∷ qs → (o ≡ q) × (os ≡ qs)
first-operation o q os qs h = (cc, cc)

-- what is run is all that counts
same-run : (block other : List Instr) (constants others : ℕ → List ℕ) (c : Contents) (ns ms : List ℕ) → map (operation_at block constants) ns ≡ map (operation_at other others) ms → run block constants c ns ≡ run other others c ms
same-run block other constants others c [] [] same = refl
same-run block other constants others c [] (m ∷ ms) same = absurd (no_operation _ _ same)
same-run block other constants others c (n ∷ ns) [] same = absurd (no_operation _ _ (sym same))
same-run block other constants others c (n ∷ ns) (m ∷ ms) same =
    let both = first-operation _ _ _ _ same in
    ap (λ d. run block constants d ns) (ap (after c) both.0) ∙ same-run block other constants others (after c (operation_at other others m)) ns ms both.1

pub reordered-meaning : (old new : Block) (order : List ℕ) → IsSpelled old → IsSpelled new → AreWithin (length (instrs_of old)) order → IsLegal (instrs_of old) order → texts_of new ≡ map (whole_text_of old) order →
    meaning (instrs_of new) (constants_in new) (numbers (instrs_of new)) ≡ meaning (instrs_of old) (constants_in old) (numbers (instrs_of old))
reordered-meaning old new order is spelled within legal texts =
    let mine = operations-texts new (numbers (instrs_of new)) spelled (within-rising (length (instrs_of new)) (length (instrs_of new)) 1 (omega arith) (omega arith)) in
    let its = operations-texts old order is within in
    same-run (instrs_of new) (instrs_of old) (constants_in new) (constants_in old) at_start (numbers (instrs_of new)) order (mine ∙ ap (map operation_of_text) texts ∙ sym its)
    ∙ legal-meaning (instrs_of old) order legal (constants_in old)
