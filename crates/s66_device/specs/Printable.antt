-- To be believed: how bytes of a source stand in a text that tells of it. A control character is a question mark, so that a terminal that shows the text obeys nothing of the source.
use Rattle.std.specs.Prelude.{ℕ, Bool, if◌then◌else◌, ◌&&◌, ◌||◌, List, map, nat_le, nat_lt}

-- of ASCII and of Latin 1
abbrev pub is_control : ℕ → Bool
is_control b = nat_lt b 32 || (nat_le 127 b && nat_le b 159)

abbrev pub printable_byte : ℕ → ℕ
printable_byte b = if is_control b then 63 else b

abbrev pub printable : List ℕ → List ℕ
printable bytes = map printable_byte bytes
