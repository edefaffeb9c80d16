-- The test that a line of a document has the text of an instruction is right, either way.
use Rattle.std.proofs.Common.{◌≡◌, ◌&&◌, ℕ, Bool, true, false, List, length, Option, None, Some, is_some, refl, ap, nat_le, le-leb, leb-true, bytes_eq}
use Rattle.std.proofs.lemmas.Bool.{and_parts}
use Rattle.std.proofs.lemmas.Slice.Eq.{bytes_eq-Decides}
use Rattle.s66_line.specs.{spelling, operation_in, operand_in, IsInstruction, instr_of, TEXT_LIMIT}
use Rattle.s66_line.proofs.InstructionTexts.{instruction}
use Rattle.s66_cert.specs.{is_instruction_text, instruction_in}

pub instruction-again : (text : List ℕ) → IsInstruction text → is_instruction_text text ≡ true
instruction-again text is =
    let fits : nat_le (length text) TEXT_LIMIT ≡ true = le-leb (length text) TEXT_LIMIT is.is_text.fits in
    let some : is_some (instr_of (operation_in text) (operand_in text)) ≡ true = ap is_some is.is_text.spells in
    let same : bytes_eq text (spelling (operation_in text) (operand_in text)) ≡ true = (bytes_eq-Decides text (spelling (operation_in text) (operand_in text))).1 is.is_text.whole in
    rw (fits, some, same) refl

pub instruction-is : (text : List ℕ) → is_instruction_text text ≡ true → IsInstruction text
instruction-is text h =
    let all = and_parts (nat_le (length text) TEXT_LIMIT && is_some (instr_of (operation_in text) (operand_in text))) (bytes_eq text (spelling (operation_in text) (operand_in text))) h in
    let two = and_parts (nat_le (length text) TEXT_LIMIT) (is_some (instr_of (operation_in text) (operand_in text))) all.0 in
    instruction text two.1 ((bytes_eq-Decides text (spelling (operation_in text) (operand_in text))).0 all.1) (leb-true (length text) TEXT_LIMIT two.0)

pub instruction-not : (text : List ℕ) → ¬ IsInstruction text → is_instruction_text text ≡ false
instruction-not text is_none = by_test (is_instruction_text text) refl
  where
    by_test : (t : Bool) → is_instruction_text text ≡ t → t ≡ false
    by_test true stated = absurd (is_none (instruction-is text stated))
    by_test false stated = refl

-- what is none is no line of a document
pub refused : (rest : Option (List ℕ)) (text : List ℕ) → rest ≡ Some text → ¬ IsInstruction text → None ≡ instruction_in rest
refused rest text is is_none = rw (is, instruction-not text is_none) refl
