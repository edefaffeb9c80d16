-- Used by contracts: what a reader of documents answers.
use Rattle.std.specs.Prelude.{ℕ, List, Result, Ok, Err}
use Rattle.s66_cert.specs.Faults.{IsFault}
use Rattle.s66_cert.specs.declared.error.CertError.{CertError}
use Rattle.s66_cert.specs.declared.error.CertError.TheVariants.{OutOfMemory}

-- a refusal that isn't out of memory is the first fault of the text
abbrev pub RefusesText : {X : Type 0} → List ℕ → Result X CertError → Type 0
RefusesText text (Ok x) = Unit {0}
RefusesText text (Err OutOfMemory) = Unit {0}
RefusesText text (Err e) = IsFault text e
