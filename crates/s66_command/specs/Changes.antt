-- To be believed: which numbers of a profile aren't the standard profile's, and the text that names them.
use Rattle.std.specs.Prelude.{ℕ, suc, if◌then◌else◌, ◌==◌, List, [], ◌∷◌, ◌++◌, codes, decimal, get_or}
use Rattle.s66_isa.specs.{Profile, entries, standard}
use Rattle.s66_command.specs.ProfileText.{names}
use Rattle.s66_command.specs.declared.changes.Change.{Change}

-- of these numbers those that differ from the standard ones beside them, the first of which has this place
abbrev pub changes_from : (place : ℕ) (numbers standard : List ℕ) → List Change
changes_from place (n ∷ ns) (s ∷ ss) = if n == s then changes_from (suc place) ns ss else record { place = place; value = n } ∷ changes_from (suc place) ns ss
changes_from place ns ss = []

abbrev pub changes : Profile → List Change
changes p = changes_from 0 (entries p) (entries standard)

-- what the number at a place is called
abbrev pub name_at : (place : ℕ) → List ℕ
name_at place = get_or names place []

-- ` units_add 2 load 5`
abbrev pub changes_text : List Change → List ℕ
changes_text [] = []
changes_text (c ∷ cs) = codes " " ++ name_at c.place ++ codes " " ++ decimal c.value ++ changes_text cs
