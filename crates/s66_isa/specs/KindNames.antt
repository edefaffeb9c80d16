-- To be believed: the names of kinds of units, as text has them.
use Rattle.std.specs.Prelude.{ℕ, List, codes}
use Rattle.s66_isa.specs.declared.instr.Kind.{Kind}
use Rattle.s66_isa.specs.declared.instr.Kind.TheVariants.{Boolean, Shift, Add, LongAdd, Multiply, Divide, Increment}

abbrev pub kind_name : Kind → List ℕ
kind_name Boolean = codes "BOOLEAN"
kind_name Shift = codes "SHIFT"
kind_name Add = codes "ADD"
kind_name LongAdd = codes "LONGADD"
kind_name Multiply = codes "MULTIPLY"
kind_name Divide = codes "DIVIDE"
kind_name Increment = codes "INCREMENT"
