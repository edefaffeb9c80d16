-- To be believed: the status of the process after a fault, and the line that standard error gets of it.
use Rattle.std.specs.Prelude.{ℕ, List, ◌++◌, codes}
use Rattle.s66_command.specs.{ProfileError}
use Rattle.s66_command.specs.declared.profile_error.ProfileError.TheVariants as profile
use Rattle.s66_source.specs.{SourceError, BadOperand, LineTooLong, OutOfMemory, TooLarge, refusal_line}
use Rattle.s66_cert.specs.{CertError, document_refusal_line}
use Rattle.s66_cert.specs.declared.error.CertError.TheVariants as cert
use Rattle.s66_program.specs.declared.fault.Fault.{Fault}
use Rattle.s66_program.specs.declared.fault.Fault.TheVariants.{Source, NewSource, NoNewSource, Document, Profile, Memory, Read, Write}

-- the fault of a refused source
abbrev pub source_fault : SourceError → Fault
source_fault (BadOperand line) = Source (BadOperand line)
source_fault (LineTooLong line) = Source (LineTooLong line)
source_fault TooLarge = Source TooLarge
source_fault OutOfMemory = Memory

-- the fault of a refused source after the line that marks it
abbrev pub new_source_fault : SourceError → Fault
new_source_fault (BadOperand line) = NewSource (BadOperand line)
new_source_fault (LineTooLong line) = NewSource (LineTooLong line)
new_source_fault TooLarge = NewSource TooLarge
new_source_fault OutOfMemory = Memory

-- the fault of refused documents
abbrev pub document_fault : CertError → Fault
document_fault (cert.BadLine line) = Document (cert.BadLine line)
document_fault cert.Truncated = Document cert.Truncated
document_fault cert.TooManyNodes = Document cert.TooManyNodes
document_fault cert.OutOfMemory = Memory

-- the fault of a text that gave no profile
abbrev pub profile_fault : ProfileError → Fault
profile_fault profile.BadProfile = Profile
profile_fault profile.OutOfMemory = Memory

abbrev pub fault_code : Fault → ℕ
fault_code (Source e) = 3
fault_code (NewSource e) = 3
fault_code NoNewSource = 3
fault_code (Document e) = 3
fault_code Profile = 3
fault_code Memory = 4
fault_code Read = 6
fault_code Write = 6

-- the line that says why a new source was refused
abbrev pub new_refusal_line : SourceError → List ℕ
new_refusal_line e = codes "NEW " ++ refusal_line e

-- the line of a fault, without its newline
abbrev pub fault_line : Fault → List ℕ
fault_line (Source e) = refusal_line e
fault_line (NewSource e) = new_refusal_line e
fault_line NoNewSource = codes "NO NEW SOURCE"
fault_line (Document e) = document_refusal_line e
fault_line Profile = codes "BAD PROFILE"
fault_line Memory = codes "OUT OF MEMORY"
fault_line Read = codes "READ FAILED"
fault_line Write = codes "WRITE FAILED"
