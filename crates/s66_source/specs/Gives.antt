-- To be believed: what a call of this crate gives that may run out of memory.
use Rattle.std.specs.Prelude.{◌≡◌, Result, Ok, Err}
use Rattle.s66_source.specs.declared.error.SourceError.{SourceError}
use Rattle.s66_source.specs.declared.error.SourceError.TheVariants.{OutOfMemory}

-- what came out, seen by view, is what the definition gives, and a refusal is the one that it gives; out of memory may come in
-- place of either
abbrev pub Gives : {X Y : Type 0} → (X → Y) → Result X SourceError → Result Y SourceError → Type 0
Gives view (Ok x) read = read ≡ Ok (view x)
Gives view (Err OutOfMemory) read = Unit {0}
Gives view (Err e) read = read ≡ Err e
