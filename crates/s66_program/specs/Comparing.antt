-- Used by contracts within the crate alone: why the two sources of an input are refused.
use Rattle.std.specs.Prelude.{◌≡◌, ◌≢◌, Bool, true, ℕ, List, None, Some, Err, is_ok}
use Rattle.s66_source.specs.Halves.{Halves}
use Rattle.s66_source.specs.{halves_of, Reading, source_of, OutOfMemory}
use Rattle.s66_program.specs.declared.fault.Fault.{Fault}
use Rattle.s66_program.specs.declared.fault.Fault.TheVariants as fault

-- the new source
abbrev pub IsNewRefusal : Reading → Fault → Type 0
IsNewRefusal new (fault.NewSource e) = (e ≢ OutOfMemory) × (source_of new ≡ Err e)
IsNewRefusal new fault.Memory = Unit {0}
IsNewRefusal new (fault.Source e) = ⊥
IsNewRefusal new fault.NoNewSource = ⊥
IsNewRefusal new (fault.Document e) = ⊥
IsNewRefusal new fault.Profile = ⊥
IsNewRefusal new fault.Read = ⊥
IsNewRefusal new fault.Write = ⊥

abbrev pub IsCompareRefusal : (cut : Bool) → List ℕ → Fault → Type 0
IsCompareRefusal cut input (fault.Source e) =
    (e ≢ OutOfMemory) × ((halves : Halves) × (halves_of input ≡ Some halves) × (source_of (record { cut = cut; text = halves.old }) ≡ Err e))
IsCompareRefusal cut input (fault.NewSource e) =
    (e ≢ OutOfMemory)
    × ((halves : Halves) × (halves_of input ≡ Some halves) × (is_ok (source_of (record { cut = cut; text = halves.old })) ≡ true) × (source_of (record { cut = cut; text = halves.new }) ≡ Err e))
IsCompareRefusal cut input fault.NoNewSource = halves_of input ≡ None
IsCompareRefusal cut input fault.Memory = Unit {0}
IsCompareRefusal cut input (fault.Document e) = ⊥
IsCompareRefusal cut input fault.Profile = ⊥
IsCompareRefusal cut input fault.Read = ⊥
IsCompareRefusal cut input fault.Write = ⊥
