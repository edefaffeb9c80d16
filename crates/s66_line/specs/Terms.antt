-- Used by contracts within the crate alone: what the terms of an operand make, taken together and one after the other.
use Rattle.std.specs.Prelude.{◌&&◌, Bool, true, if◌then◌else◌, ℕ, List, [], ◌∷◌, ◌++◌, Option, None, Some, nat_lt, nat_le, length}
use Rattle.s66_isa.specs.{Bank}
use Rattle.s66_line.specs.Operand.{is_constant, register_of, are_terms, some_constant, registers_of}
use Rattle.s66_line.specs.declared.operand.terms.Terms.{Terms}

-- whether some term is a constant, and the registers; None if a term is neither, or a third is a register
abbrev pub gather : List (Bool × List ℕ) → Option (Bool × List (Bool × Bank × ℕ))
gather ts = if are_terms ts && nat_le (length (registers_of ts)) 2 then Some (some_constant ts, registers_of ts) else None

abbrev pub terms_in : Terms → Bool × List (Bool × Bank × ℕ)
terms_in terms = (terms.has_constant, terms.registers.items)

abbrev pub with_register : Bool × List (Bool × Bank × ℕ) → Bool → Bool → Option (Bank × ℕ) → Option (Bool × List (Bool × Bank × ℕ))
with_register so_far minus constant (Some r) = if nat_lt (length so_far.1) 2 then Some (so_far.0, so_far.1 ++ (minus, r.0, r.1) ∷ []) else None
with_register so_far minus constant None = if constant then Some (true, so_far.1) else None

-- one term more: a register that is no third one, or a constant
abbrev pub with_term : Bool × List (Bool × Bank × ℕ) → Bool → List ℕ → Option (Bool × List (Bool × Bank × ℕ))
with_term so_far minus term = with_register so_far minus (is_constant term) (register_of term)
