-- To be believed: the class of a line by itself: a comment, another line, one that is refused, a `NO`, or an instruction.
use Rattle.std.specs.Prelude.{◌&&◌, ◌==◌, if◌then◌else◌, ℕ, Bool, true, false, List, [], ◌∷◌, Option, None, Some, nat_lt, length, is_some}
use Rattle.s66_isa.specs.{Instr, idle_instr}
use Rattle.s66_line.specs.Fields.{body, is_comment, location, from_operation, continues}
use Rattle.s66_line.specs.Characters.{runs_on}
use Rattle.s66_line.specs.InstructionText.{Spells, operand_in, operation_in}
use Rattle.s66_line.specs.Operand.{operation_of, instr_of}
use Rattle.s66_line.specs.declared.class.Class.{Class}
use Rattle.s66_line.specs.declared.class.Class.TheVariants.{Comment, Other, Refused, Pad, Instruction}

abbrev pub class_of_operand : Bool → Option Instr → Class
class_of_operand located None = Refused
class_of_operand located (Some n) = Instruction located n

abbrev pub is_pad : List ℕ → Bool
is_pad (n ∷ o ∷ []) = n == 78 && o == 79
is_pad word = false

abbrev pub is_located : List ℕ → Bool
is_located line = nat_lt 0 (length (location line))

-- the instruction of bytes that begin with an operation, unless its operand is cut where it goes on
abbrev pub whole_instr : List ℕ → Option Instr
whole_instr bytes = if runs_on bytes then None else instr_of (operation_in bytes) (operand_in bytes)

-- of a line that has these bytes from its operation on, which decides
abbrev pub by_operation : Bool → List ℕ → Class
by_operation located bytes =
    if is_pad (operation_in bytes) then Pad located
    else (if is_some (operation_of (operation_in bytes)) then class_of_operand located (whole_instr bytes) else Other)

-- after: the line directly before is an Instruction or a Pad, so that a comma in column 1 would continue it
abbrev pub class_of : Bool → List ℕ → Class
class_of after line =
    if is_comment (body line) then Comment
    else (if continues (body line) then (if after then Refused else Other)
    else by_operation (is_located (body line)) (from_operation (body line)))

abbrev pub is_instruction : Class → Bool
is_instruction (Instruction located n) = true
is_instruction class = false

-- an Instruction or a Pad
abbrev pub is_code : Class → Bool
is_code (Instruction located n) = true
is_code (Pad located) = true
is_code class = false

-- an Instruction or Pad with a location field begins a run
abbrev pub begins_run : Class → Bool
begins_run (Instruction located n) = located
begins_run (Pad located) = located
begins_run class = false

-- an Other line ends one
abbrev pub ends_run : Class → Bool
ends_run Other = true
ends_run class = false

abbrev pub instr_in : Class → Instr
instr_in (Instruction located n) = n
instr_in class = idle_instr

-- what is known of the bytes that are kept of a line of this class
abbrev pub IsSpelled : Class → List ℕ → Type 0
IsSpelled (Instruction located n) bytes = Spells bytes n
IsSpelled class bytes = Unit {0}
