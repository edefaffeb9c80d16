-- To be believed: the second line of a refusal, which names the way out, by the text of the profile that was asked for.
use Rattle.std.specs.Prelude.{ℕ, List, [], ◌++◌, Option, Some, codes}
use Rattle.s66_command.specs.{hint_in_text}
use Rattle.s66_source.specs.{SourceError, BadOperand, LineTooLong, TooLarge, OutOfMemory}
use Rattle.s66_cert.specs.{BadLine, Truncated}
use Rattle.s66_program.specs.declared.fault.Fault.{Fault}
use Rattle.s66_program.specs.declared.fault.Fault.TheVariants.{Source, NewSource, NoNewSource, Document, Profile}

-- of a source, with its newline
abbrev pub source_way_out : SourceError → List ℕ
source_way_out (BadOperand line) = codes "s66 lint lists all such lines, --cut leaves them alone\n"
source_way_out (LineTooLong line) = codes "a line has at most 200 bytes; s66 lint lists all that have more\n"
source_way_out TooLarge = codes "a source has at most 20000 lines; s66 order --quiet adds none\n"
source_way_out OutOfMemory = []

-- with its newline; nothing if there is none
abbrev pub way_out : Fault → List ℕ
way_out (Source e) = source_way_out e
way_out (NewSource e) = source_way_out e
way_out NoNewSource = codes "s66 compare reads the old source, a line *S66 NEW, and the new source\n"
way_out (Document (BadLine line)) = codes "s66 check reads what s66 prove prints\n"
way_out (Document Truncated) = codes "s66 check reads what s66 prove prints\n"
way_out fault = []

-- of a profile, what is wrong with it
abbrev pub hint_of : Option (List ℕ) → Fault → List ℕ
hint_of (Some text) Profile = hint_in_text text ++ codes "\n"
hint_of profile fault = way_out fault
