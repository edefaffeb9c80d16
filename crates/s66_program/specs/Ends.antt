-- To be believed: what is told of how a command ended, or of words that give none, and the status.
use Rattle.std.specs.Prelude.{◌≡◌, ◌≢◌, ◌⊎◌, ℕ, List, ◌++◌, Option, Result, Ok, Err, codes, string_bytes}
use Rattle.std.specs.declared.io.ErrorKind.{ErrorKind}
use Rattle.std.specs.declared.io.ErrorKind.TheVariants as kind
use Rattle.s66_command.specs.{Command, Help, Bad, OutOfMemory, profile_text, usage_code}
use Rattle.s66_command.specs.declared.usage.Usage.{Usage}
use Rattle.s66_device.specs.{IsUntouched, WriteFails, Writer, Writes}
use Rattle.s66_answer.specs.{status_code}
use Rattle.s66_program.specs.declared.fault.Fault.{Fault}
use Rattle.s66_program.specs.declared.fault.Fault.TheVariants.{Memory, Profile, Write}
use Rattle.s66_program.specs.declared.remark.Ended.{Ended}
use Rattle.s66_program.specs.Device.{Tells}
use Rattle.s66_program.specs.Hints.{hint_of}
use Rattle.s66_program.specs.Fault.{fault_code, fault_line}
use Rattle.s66_program.specs.Remarks.{IsTold, told_text}

-- the line of a fault was printed, and the status is the fault's
abbrev pub EndsAt : Fault → Writer → Writer → ℕ → Type 0
EndsAt fault errors errors' status = Tells errors errors' (fault_line fault ++ codes "\n") × (status ≡ fault_code fault)

-- the line of a fault and such a text after it were printed, and the status is the fault's
abbrev pub EndsWith : List ℕ → Fault → Writer → Writer → ℕ → Type 0
EndsWith hint fault errors errors' status = Tells errors errors' ((fault_line fault ++ codes "\n") ++ hint) × (status ≡ fault_code fault)

-- what a fault leaves of standard error, where a profile of this text was asked for; if memory runs out for what is wrong with the
-- profile, that is told in its place
abbrev pub EndsByFault : (profile : Option (List ℕ)) → Fault → Writer → Writer → ℕ → Type 0
EndsByFault profile fault errors errors' status =
    EndsWith (hint_of profile fault) fault errors errors' status ⊎ ((fault ≡ Profile) × EndsAt Memory errors errors' status)

-- what the result of a command leaves of standard error, and the status
abbrev pub EndsBy : Command → Result Ended Fault → Writer → Writer → ℕ → Type 0
EndsBy command (Ok ended) errors errors' status = IsTold (told_text command ended) errors errors' × (status ≡ status_code ended.status)
EndsBy command (Err fault) errors errors' status = EndsByFault (profile_text command) fault errors errors' status

-- help goes to the writer, which may fail, a mistake to the writer for what goes wrong
abbrev pub ShowsUsage : Usage → Writer → Writer → Writer → Writer → ℕ → Type 0
ShowsUsage (Help text) writer writer' errors errors' status =
    (Writes writer writer' (string_bytes text) × IsUntouched errors errors' × (status ≡ usage_code (Help text)))
    ⊎ (WriteFails writer writer' (string_bytes text) × EndsAt Write errors errors' status)
ShowsUsage (Bad text) writer writer' errors errors' status =
    IsUntouched writer writer' × Tells errors errors' (string_bytes text) × (status ≡ usage_code (Bad text))
ShowsUsage OutOfMemory writer writer' errors errors' status = IsUntouched writer writer' × EndsAt Memory errors errors' status

-- what is done if there are no words: out of memory, or words that are no text
abbrev pub LacksWords : ErrorKind → Writer → Writer → ℕ → Type 0
LacksWords k errors errors' status =
    ((k ≡ kind.OutOfMemory) × EndsAt Memory errors errors' status)
    ⊎ ((k ≢ kind.OutOfMemory) × Tells errors errors' (codes "error: an argument is not UTF-8\n") × (status ≡ 2))
