-- To be believed: which operations and instructions a source gives another meaning, anywhere in it. Names are in upper case.
use Rattle.std.specs.Prelude.{ℕ, Bool, true, not, ◌&&◌, ◌||◌, ◌==◌, if◌then◌else◌, List, [], ◌∷◌, ◌++◌, codes, length, map, nat_le, take, filter}
use Rattle.s66_isa.specs.{has}
use Rattle.s66_line.specs.{is_located, body, continues, is_comment, location, operand, operation, upper, operand_in, operation_in, is_near, is_octal, is_sign}
use Rattle.s66_source.specs.Counts.{before_byte, is_one_of}

pub record Redefined : Type 0 where
  -- operations, by their names
  pub operations : List (List ℕ)
  -- instructions, by the names of their forms
  pub forms : List (List ℕ)

abbrev pub nothing_redefined : Redefined
nothing_redefined = record { operations = []; forms = [] }

-- DEFINITIONS

-- of a body; a comment and a continuation have none of their own
abbrev pub own_operation : List ℕ → List ℕ
own_operation line = if is_comment line || continues line then [] else upper (operation line)

abbrev pub macros : List (List ℕ)
macros = codes "MACRO" ∷ codes "MACROE" ∷ []

-- the operations that define an operation
abbrev pub renaming : List (List ℕ)
renaming = codes "MACRO" ∷ codes "MACROE" ∷ codes "OPSYN" ∷ codes "CPSYN" ∷ []

-- the one that defines a form
abbrev pub forming : List (List ℕ)
forming = codes "OPDEF" ∷ []

-- what a body defines: the name in its location field; that of a macro may be the first in its operand
abbrev pub defined_name : List ℕ → List ℕ
defined_name line = if is_one_of macros (own_operation line) && not (is_located line) then before_byte 44 (upper (operand line)) else upper (location line)

-- what the bodies with one of these operations define, in order
abbrev pub defined_by : List (List ℕ) → List (List ℕ) → List (List ℕ)
defined_by operations bodies = map defined_name (filter (λ line. is_one_of operations (own_operation line)) bodies)

-- the operation of an instruction has three bytes, that of a pad two
abbrev pub is_short : List ℕ → Bool
is_short name = nat_le (length name) 3

-- what the lines of a source give another meaning
abbrev pub redefined_in : List (List ℕ) → Redefined
redefined_in lines = record { operations = filter is_short (defined_by renaming (map body lines)); forms = defined_by forming (map body lines) }

-- FORMS of operands: `X1*X2` is X*X, `A1+N` is A+Q

abbrev pub is_in_name : ℕ → Bool
is_in_name b = is_near b || b == 61

-- A B X, before the number of a register, and alone
abbrev pub is_bank : ℕ → Bool
is_bank b = b == 65 || (b == 66 || b == 88)

-- a name doesn't go on with these bytes
abbrev pub ends_name : List ℕ → Bool
ends_name [] = true
ends_name (b ∷ bytes) = not (is_in_name b)

-- each register by its letter; from the first other name on all is an expression, Q
abbrev pub letters_of : List ℕ → List ℕ
letters_of [] = []
letters_of (a ∷ []) = if is_in_name a && not (is_bank a) then codes "Q" else a ∷ []
letters_of (a ∷ d ∷ bytes) =
    if not (is_in_name a) || (is_bank a && not (is_in_name d)) then a ∷ letters_of (d ∷ bytes)
    else (if is_bank a && (is_octal d && ends_name bytes) then a ∷ letters_of bytes
    else codes "Q")

-- a sign in front of an operand with an expression belongs to it
abbrev pub form_of : List ℕ → List ℕ
form_of [] = []
form_of (b ∷ bytes) = if is_sign b && has 81 (letters_of bytes) then codes "Q" else letters_of (b ∷ bytes)

-- of bytes that begin with an operation: its two letters, and the form of its operand
abbrev pub form_in : List ℕ → List ℕ
form_in bytes = take 2 (operation_in bytes) ++ form_of (operand_in bytes)

-- INSTRUCTIONS AND PADS, by their bytes from the operation on

abbrev pub is_redefined : Redefined → List ℕ → Bool
is_redefined known bytes = is_one_of known.operations (operation_in bytes) || is_one_of known.forms (form_in bytes)
