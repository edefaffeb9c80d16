-- To be believed: how a text is parted that has two sources, an old one and a new one.
use Rattle.std.specs.Prelude.{ℕ, Bool, ◌==◌, if◌then◌else◌, List, [], ◌∷◌, ◌++◌, Option, None, Some, codes}
use Rattle.s66_line.specs.{body}
use Rattle.s66_source.specs.LeftAlone.{is_switch}

-- a line `*S66 NEW`, written as the switches are
abbrev pub is_new_mark : List ℕ → Bool
is_new_mark line = is_switch (codes "NEW") (body line)

-- the text of the old source, and that of the new one
pub record Halves : Type 0 where
  pub old : List ℕ
  pub new : List ℕ

-- the first marking line stands between them; these are the lines before, and the beginning of the next one
abbrev pub halves_from : List ℕ → List ℕ → List ℕ → Option Halves
halves_from old line [] = if is_new_mark line then Some (record { old = old; new = [] }) else None
halves_from old line (b ∷ bytes) =
    if b == 10 then (if is_new_mark line then Some (record { old = old; new = bytes }) else halves_from (old ++ line ++ 10 ∷ []) [] bytes)
    else halves_from old (line ++ b ∷ []) bytes

-- the sources of a text; none if no line marks the new one
abbrev pub halves_of : List ℕ → Option Halves
halves_of text = halves_from [] [] text
