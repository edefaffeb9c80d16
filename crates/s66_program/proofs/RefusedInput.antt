-- What a command leaves if its input is refused: all was read, and nothing is written.
use Rattle.std.specs.Io.KnownBytes.{Keeps}
use Rattle.std.proofs.Common.{◌≡◌, ◌+◌, ◌≤◌, ℕ, List, Option, None, Some, Result, Ok, Err, refl, ap, sym, subst, arith, IsErr, IsErrAnd}
use Rattle.s66_isa.specs.{Profile}
use Rattle.s66_command.specs.{Command}
use Rattle.s66_device.specs.{IsUntouched, Reader, Writer}
use Rattle.s66_program.specs.declared.fault.Fault.{Fault}
use Rattle.s66_program.specs.declared.fault.Fault.TheVariants as fault
use Rattle.s66_program.specs.{Ended, FEED_CALLS, ReadsAll, ReadsSome, IsOutcomeUnder, IsRefusal}

keeps : (bytes : Option (List ℕ)) → Keeps bytes bytes
keeps None = tt
keeps (Some bytes) = refl

pub untouched : (writer : Writer) → IsUntouched writer writer
untouched writer = (keeps writer.bytes, refl)

-- also if memory runs out later
reads-some : (reader reader' : Reader) (input : List ℕ) → ReadsAll reader reader' input → ReadsSome reader reader'
reads-some reader reader' input (taken, all, same, (reads, few, calls)) =
    let most : reads + 1 ≤ FEED_CALLS = omega arith in
    let one : 1 ≤ 1 = omega arith in
    (same, (reads, 1, most, one, calls))

leaves : (p : Profile) (command : Command) (reader reader' : Reader) (writer : Writer) (input : List ℕ) (f : Fault) → ReadsAll reader reader' input → IsRefusal command input f → IsOutcomeUnder p command reader reader' writer writer (Err f)
leaves p command reader reader' writer input (fault.Source e) reads h = ((input, reads, h), untouched writer)
leaves p command reader reader' writer input (fault.NewSource e) reads h = ((input, reads, h), untouched writer)
leaves p command reader reader' writer input fault.NoNewSource reads h = ((input, reads, h), untouched writer)
leaves p command reader reader' writer input (fault.Document e) reads h = ((input, reads, h), untouched writer)
leaves p command reader reader' writer input fault.Profile reads h = absurd h
leaves p command reader reader' writer input fault.Memory reads h = (reads-some reader reader' input reads, untouched writer)
leaves p command reader reader' writer input fault.Read reads h = absurd h
leaves p command reader reader' writer input fault.Write reads h = absurd h

pub given : {A : Type 0} (result : Result A Fault) (f : Fault) → IsErr result → IsErrAnd result (λ e. e ≡ f) → result ≡ Err f
given (Ok x) f is which = absurd which
given (Err e) f is which = ap (λ (x : Fault). Err x) which

pub refused-input : (p : Profile) (command : Command) (reader reader' : Reader) (writer : Writer) (read input : List ℕ) (f : Fault) (result : Result Ended Fault) → ReadsAll reader reader' read → input ≡ read → IsRefusal command input f →
    IsErr result × IsErrAnd result (λ e. e ≡ f) → IsOutcomeUnder p command reader reader' writer writer result
refused-input p command reader reader' writer read input f result reads same h is =
    subst (IsOutcomeUnder p command reader reader' writer writer) (sym (given result f is.0 is.1))
    (leaves p command reader reader' writer input f (subst (ReadsAll reader reader') (sym same) reads) h)
