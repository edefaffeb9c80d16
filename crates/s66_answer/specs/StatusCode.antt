-- To be believed: the status of the process after a command that wrote all its text.
use Rattle.std.specs.Prelude.{ℕ}
use Rattle.s66_answer.specs.declared.outcome.Status.{Status}
use Rattle.s66_answer.specs.declared.outcome.Status.TheVariants.{Done, Denied, Bounded, Listed}

abbrev pub status_code : Status → ℕ
status_code Done = 0
status_code Denied = 5
status_code (Bounded blocks of) = 7
status_code Listed = 8
