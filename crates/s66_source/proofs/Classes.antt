-- What the class of a line tells of it, whatever the line before is.
use Rattle.std.proofs.Common.{◌≡◌, ◌==◌, ◌&&◌, Bool, true, false, if◌then◌else◌, Option, None, Some, is_some, ℕ, List, [], ◌∷◌, refl, ap, ◌∙◌}
use Rattle.s66_isa.specs.{Instr}
use Rattle.s66_line.specs.{runs_on, begins_run, class_of, class_of_operand, is_code, is_located, is_pad, body, continues, from_operation, is_comment, operation, upper, operand_in, operation_in}
use Rattle.s66_line.specs.{instr_of, is_octal, operation_of, Class, Comment, Other, Refused, Pad, Instruction}
use Rattle.s66_source.specs.{is_comment_class}
use Rattle.s66_source.proofs.CharactersRead.{SpellsAll}

-- NAMES OF INSTRUCTIONS

-- two letters and an octal digit, or NO
abbrev pub may_be_code : List ℕ → Bool
may_be_code (n ∷ o ∷ []) = n == 78 && o == 79
may_be_code (p ∷ q ∷ d ∷ []) = is_octal d
may_be_code word = false

octal : {X : Type 0} (t : Bool) (o : Option X) → is_some (if t then o else None) ≡ true → t ≡ true
octal true o h = refl
octal false o h = cc

pub code-operation : (word : List ℕ) → is_some (operation_of word) ≡ true → may_be_code word ≡ true
code-operation [] h = cc
code-operation (p ∷ []) h = cc
code-operation (p ∷ q ∷ []) h = cc
code-operation (p ∷ q ∷ d ∷ []) h = octal (is_octal d) _ h
code-operation (p ∷ q ∷ d ∷ e ∷ word) h = cc

pub code-pad : (word : List ℕ) → is_pad word ≡ true → may_be_code word ≡ true
code-pad [] h = cc
code-pad (p ∷ []) h = cc
code-pad (p ∷ q ∷ []) h = h
code-pad (p ∷ q ∷ d ∷ word) h = cc

-- LINES

-- an instruction, or a NO
pub record IsCodeLine (line : List ℕ) : Type 0 where
  pub comment : is_comment line ≡ false
  pub comma : continues line ≡ false
  pub operation : may_be_code (upper (operation line)) ≡ true

pub record ClassTells (line : List ℕ) (c : Class) : Type 0 where
  pub comment : is_comment_class c ≡ true → is_comment line ≡ true
  pub code : is_code c ≡ true → IsCodeLine line
  pub begins : begins_run c ≡ true → IsCodeLine line × (is_located line ≡ true)
  pub spelled : (located : Bool) (n : Instr) → c ≡ Instruction located n → SpellsAll (from_operation line) n

other-tells : (line : List ℕ) → ClassTells line Other
other-tells line = record { comment = λ h. cc; code = λ h. cc; begins = λ h. cc; spelled = λ located n h. cc }

refused-tells : (line : List ℕ) → ClassTells line Refused
refused-tells line = record { comment = λ h. cc; code = λ h. cc; begins = λ h. cc; spelled = λ located n h. cc }

tells-by : (line : List ℕ) (comment comma after pad known runs : Bool) (o : Option Instr) → is_comment line ≡ comment → continues line ≡ comma → is_pad (operation_in (from_operation line)) ≡ pad → is_some (operation_of (operation_in (from_operation line))) ≡ known →
    runs_on (from_operation line) ≡ runs → instr_of (operation_in (from_operation line)) (operand_in (from_operation line)) ≡ o →
    ClassTells line (if comment then Comment else (if comma then (if after then Refused else Other)
    else (if pad then Pad (is_located line) else (if known then class_of_operand (is_located line) (if runs then None else o) else Other))))
tells-by line true comma after pad known runs o is first pads knows whole spells = record { comment = λ h. is; code = λ h. cc; begins = λ h. cc; spelled = λ located n h. cc }
tells-by line false true true pad known runs o free first pads knows whole spells = refused-tells line
tells-by line false true false pad known runs o free first pads knows whole spells = other-tells line
tells-by line false false after true known runs o free first pads knows whole spells =
    let code : IsCodeLine line = record { comment = free; comma = first; operation = code-pad (operation_in (from_operation line)) pads } in
    record { comment = λ h. cc; code = λ h. code; begins = λ h. (code, h); spelled = λ located n h. cc }
tells-by line false false after false false runs o free first pads knows whole spells = other-tells line
tells-by line false false after false true true o free first pads knows whole spells = refused-tells line
tells-by line false false after false true false None free first pads knows whole spells = refused-tells line
tells-by line false false after false true false (Some m) free first pads knows whole spells =
    let code : IsCodeLine line = record { comment = free; comma = first; operation = code-operation (operation_in (from_operation line)) knows } in
    record { comment = λ h. cc; code = λ h. code; begins = λ h. (code, h); spelled = λ located n h. (let same : m ≡ n = cc in spells ∙ ap Some same, whole) }

pub class-tells : (after : Bool) (line : List ℕ) → ClassTells (body line) (class_of after line)
class-tells after line =
    let there : List ℕ = body line in
    let bytes : List ℕ = from_operation there in
    tells-by there (is_comment there) (continues there) after (is_pad (operation_in bytes)) (is_some (operation_of (operation_in bytes))) (runs_on bytes) (instr_of (operation_in bytes) (operand_in bytes))
    refl refl refl refl refl refl

-- code is of the same class directly behind code or not
pub same-code : (after other : Bool) (line : List ℕ) → is_code (class_of after line) ≡ true → class_of other line ≡ class_of after line
same-code after other line h =
    let code = (class-tells after line).code h in
    rw (code.comment, code.comma) refl
