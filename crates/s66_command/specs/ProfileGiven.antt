-- To be believed: what a reader of profiles gives: the profile of the text, or that it has none.
use Rattle.std.specs.Prelude.{◌≡◌, Option, Some, None, Result, Ok, Err}
use Rattle.s66_isa.specs.{Profile}
use Rattle.s66_command.specs.declared.profile_error.ProfileError.{ProfileError}
use Rattle.s66_command.specs.declared.profile_error.ProfileError.TheVariants.{BadProfile, OutOfMemory}

-- what came out is the profile that the text gives, and `BadProfile` says that it gives none; out of memory may come in place of
-- either
abbrev pub Gives : Result Profile ProfileError → Option Profile → Type 0
Gives (Ok p) given = given ≡ Some p
Gives (Err BadProfile) given = given ≡ None
Gives (Err OutOfMemory) given = Unit {0}
