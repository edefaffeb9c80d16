-- To be believed: the line that says why a text gave no profile, without its newline.
use Rattle.std.specs.Prelude.{ℕ, List, codes}
use Rattle.s66_command.specs.declared.profile_error.ProfileError.{ProfileError}
use Rattle.s66_command.specs.declared.profile_error.ProfileError.TheVariants.{BadProfile, OutOfMemory}

abbrev pub profile_refusal_line : ProfileError → List ℕ
profile_refusal_line BadProfile = codes "BAD PROFILE"
profile_refusal_line OutOfMemory = codes "OUT OF MEMORY"
