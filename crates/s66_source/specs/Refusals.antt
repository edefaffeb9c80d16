-- To be believed: the line that says why a source was refused, without its newline.
use Rattle.std.specs.Prelude.{ℕ, List, ◌++◌, codes, decimal}
use Rattle.s66_source.specs.declared.error.SourceError.{SourceError}
use Rattle.s66_source.specs.declared.error.SourceError.TheVariants.{BadOperand, LineTooLong, OutOfMemory, TooLarge}

abbrev pub refusal_line : SourceError → List ℕ
refusal_line (BadOperand line) = codes "LINE " ++ decimal line ++ codes " BAD OPERAND"
refusal_line (LineTooLong line) = codes "LINE " ++ decimal line ++ codes " TOO LONG"
refusal_line TooLarge = codes "TOO MANY LINES"
refusal_line OutOfMemory = codes "OUT OF MEMORY"
