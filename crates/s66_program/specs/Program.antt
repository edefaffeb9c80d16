-- To be believed: what the program does with its words, over a reader, a writer, and a writer for what goes wrong.
use Rattle.std.specs.Prelude.{◌≡◌, ◌⊎◌, ℕ, List, Result}
use Rattle.s66_command.specs.{Command, Asks, Refuses, Text}
use Rattle.s66_command.specs.declared.usage.Usage.{Usage}
use Rattle.s66_device.specs.{Reader, Writer}
use Rattle.s66_program.specs.declared.fault.Fault.{Fault}
use Rattle.s66_program.specs.declared.remark.Ended.{Ended}
use Rattle.s66_program.specs.Ends.{EndsBy, ShowsUsage}
use Rattle.s66_program.specs.Run.{IsOutcome}

-- the words give a command, which was run, and standard error gets what is told at its end
abbrev pub RunsCommand : List Text → Reader → Reader → Writer → Writer → Writer → Writer → ℕ → Type 0
RunsCommand words reader reader' writer writer' errors errors' status =
    (command : Command) × Asks words command
    × ((result : Result Ended Fault) × IsOutcome command reader reader' writer writer' result × EndsBy command result errors errors' status)

-- the words give none, which was printed, and nothing was read
abbrev pub RefusesWords : List Text → Reader → Reader → Writer → Writer → Writer → Writer → ℕ → Type 0
RefusesWords words reader reader' writer writer' errors errors' status =
    (usage : Usage) × Refuses words usage × (reader' ≡ reader) × ShowsUsage usage writer writer' errors errors' status

-- what the program does with words, the first of which is its name
abbrev pub IsRun : List Text → Reader → Reader → Writer → Writer → Writer → Writer → ℕ → Type 0
IsRun words reader reader' writer writer' errors errors' status =
    RunsCommand words reader reader' writer writer' errors errors' status
    ⊎ RefusesWords words reader reader' writer writer' errors errors' status
