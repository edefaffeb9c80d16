-- To be believed: what a command leaves of its reader and its writer.
use Rattle.std.specs.Prelude.{◌≡◌, ◌≢◌, ◌⊎◌, ℕ, true, List, None, Some, Result, Ok, Err, is_ok}
use Rattle.s66_isa.specs.{Profile}
use Rattle.s66_command.specs.{Command, Documents, Sources, profile_text, reads_of}
use Rattle.s66_device.specs.{IsUntouched, Reader, WriteFails, Writer, Writes}
use Rattle.s66_source.specs.{SourceError, OutOfMemory, halves_of, source_of}
use Rattle.s66_source.specs.Halves.{Halves}
use Rattle.s66_cert.specs.{IsFault}
use Rattle.s66_answer.specs.{Status}
use Rattle.s66_program.specs.declared.fault.Fault.{Fault}
use Rattle.s66_program.specs.declared.fault.Fault.TheVariants as fault
use Rattle.s66_program.specs.declared.remark.Ended.{Ended}
use Rattle.s66_program.specs.Device.{ReadFails, ReadsAll, ReadsSome}
use Rattle.s66_program.specs.Output.{IsOutput, IsUnder, profile_asked, reads_source, source_in}
use Rattle.s66_program.specs.Remarks.{IsRemark, raised}

-- the only source of an input is refused, or the first of two
abbrev pub RefusesSource : Command → List ℕ → SourceError → Type 0
RefusesSource command input e =
    ((reads_source command.asked ≡ true) × (source_of (source_in command input) ≡ Err e))
    ⊎ ((reads_of command.asked ≡ Sources) × ((halves : Halves) × (halves_of input ≡ Some halves) × (source_of (source_in command halves.old) ≡ Err e)))

-- the second of two is refused, and the first is not
abbrev pub RefusesNewSource : Command → List ℕ → SourceError → Type 0
RefusesNewSource command input e =
    (halves : Halves) × (halves_of input ≡ Some halves) × (is_ok (source_of (source_in command halves.old)) ≡ true) × (source_of (source_in command halves.new) ≡ Err e)

-- why a command writes nothing for an input
abbrev pub IsRefusal : Command → List ℕ → Fault → Type 0
IsRefusal command input (fault.Source e) = (e ≢ OutOfMemory) × RefusesSource command input e
IsRefusal command input (fault.NewSource e) = (reads_of command.asked ≡ Sources) × (e ≢ OutOfMemory) × RefusesNewSource command input e
IsRefusal command input fault.NoNewSource = (reads_of command.asked ≡ Sources) × (halves_of input ≡ None)
IsRefusal command input (fault.Document e) = (reads_of command.asked ≡ Documents) × IsFault input e
IsRefusal command input fault.Profile = ⊥
IsRefusal command input fault.Memory = Unit {0}
IsRefusal command input fault.Read = ⊥
IsRefusal command input fault.Write = ⊥

-- an input was read and refused for such a fault, and nothing was written
abbrev pub RefusesInput : Command → Reader → Reader → Writer → Writer → Fault → Type 0
RefusesInput command reader reader' writer writer' f =
    ((input : List ℕ) × ReadsAll reader reader' input × IsRefusal command input f) × IsUntouched writer writer'

-- what a command leaves of its reader and its writer under a profile, by its result, with what is to be told and the status by that; out of
-- memory is Memory and never Source or Document
abbrev pub IsOutcomeUnder : Profile → Command → Reader → Reader → Writer → Writer → Result Ended Fault → Type 0
IsOutcomeUnder p command reader reader' writer writer' (Ok ended) =
    (input : List ℕ) × ReadsAll reader reader' input
    × ((text : List ℕ) × (status : Status) × IsOutput p command input text status × Writes writer writer' text
    × IsRemark command input text ended.remark × (ended.status ≡ raised command ended.remark status))
IsOutcomeUnder p command reader reader' writer writer' (Err (fault.Source e)) = RefusesInput command reader reader' writer writer' (fault.Source e)
IsOutcomeUnder p command reader reader' writer writer' (Err (fault.NewSource e)) = RefusesInput command reader reader' writer writer' (fault.NewSource e)
IsOutcomeUnder p command reader reader' writer writer' (Err fault.NoNewSource) = RefusesInput command reader reader' writer writer' fault.NoNewSource
IsOutcomeUnder p command reader reader' writer writer' (Err (fault.Document e)) = RefusesInput command reader reader' writer writer' (fault.Document e)
IsOutcomeUnder p command reader reader' writer writer' (Err fault.Profile) = ⊥
IsOutcomeUnder p command reader reader' writer writer' (Err fault.Memory) = ReadsSome reader reader' × IsUntouched writer writer'
IsOutcomeUnder p command reader reader' writer writer' (Err fault.Read) = ReadFails reader reader' × IsUntouched writer writer'
IsOutcomeUnder p command reader reader' writer writer' (Err fault.Write) =
    (input : List ℕ) × ReadsAll reader reader' input
    × ((text : List ℕ) × (status : Status) × IsOutput p command input text status × WriteFails writer writer' text)

-- why a command has no profile: its text gives none, or memory to read it ran out
abbrev pub IsProfileFault : Command → Fault → Type 0
IsProfileFault command fault.Profile = profile_asked (profile_text command) ≡ None
IsProfileFault command fault.Memory = Unit {0}
IsProfileFault command (fault.Source e) = ⊥
IsProfileFault command (fault.NewSource e) = ⊥
IsProfileFault command fault.NoNewSource = ⊥
IsProfileFault command (fault.Document e) = ⊥
IsProfileFault command fault.Read = ⊥
IsProfileFault command fault.Write = ⊥

-- it runs under the profile that it asks for, or it has none, and then nothing is read
abbrev pub IsOutcome : Command → Reader → Reader → Writer → Writer → Result Ended Fault → Type 0
IsOutcome command reader reader' writer writer' result =
    ((p : Profile) × IsUnder command p × IsOutcomeUnder p command reader reader' writer writer' result)
    ⊎ ((f : Fault) × (result ≡ Err f) × IsProfileFault command f × (reader' ≡ reader) × IsUntouched writer writer')
