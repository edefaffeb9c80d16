-- To be believed: how the bytes of a text are got back from its characters.
use Rattle.std.specs.Prelude.{ℕ, ◌+◌, ◌*◌, ◌-◌, if◌then◌else◌, List, [], ◌∷◌, nat_lt}

-- a character of one byte is that byte; of two, the first has the number's upper bits and the second its lower six
abbrev pub bytes_in : List ℕ → List ℕ
bytes_in [] = []
bytes_in (b ∷ []) = b ∷ []
bytes_in (b ∷ (c ∷ more)) = if nat_lt b 128 then b ∷ bytes_in (c ∷ more) else (64 * (b - 192) + (c - 128)) ∷ bytes_in more
