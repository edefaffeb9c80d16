-- To be believed: how the text of a source stands in a page, so that nothing of it is read as a part of the page.
use Rattle.std.specs.Prelude.{ℕ, Bool, false, if◌then◌else◌, ◌&&◌, ◌||◌, ◌==◌, not, List, [], ◌∷◌, ◌++◌, codes, decimal, flat_map, nat_le, nat_lt}
-- the examples open it, to compute numbers
unfoldable pub use Rattle.std.specs.Fmt.{digits}

-- a blank, a tab, or what ASCII prints
abbrev pub is_printed : ℕ → Bool
is_printed b = b == 9 || (nat_le 32 b && nat_lt b 127)

-- a byte from 160 on is its character of Latin 1; any other that isn't printed is a replacement character
abbrev pub escaped_byte : ℕ → List ℕ
escaped_byte b =
    if b == 60 then codes "&lt;"
    else (if b == 62 then codes "&gt;"
    else (if b == 38 then codes "&amp;"
    else (if b == 34 then codes "&quot;"
    else (if b == 39 then codes "&#39;"
    else (if is_printed b then b ∷ []
    else (if nat_le 160 b then codes "&#" ++ decimal b ++ codes ";"
    else codes "&#65533;"))))))

-- `FORMATS.md`, under `s66 page`, says how bytes stand
abbrev pub escaped : List ℕ → List ℕ
escaped text = flat_map escaped_byte text

-- of several lines: each ends as it did
abbrev pub escaped_or_newline : ℕ → List ℕ
escaped_or_newline b = if b == 10 then b ∷ [] else escaped_byte b

abbrev pub escaped_lines : List ℕ → List ℕ
escaped_lines text = flat_map escaped_or_newline text

-- it is printed, and no bracket or quote
abbrev pub is_harmless : ℕ → Bool
is_harmless b = is_printed b && not (b == 60 || b == 62 || b == 34 || b == 39)

abbrev pub is_harmless_or_newline : ℕ → Bool
is_harmless_or_newline b = b == 10 || is_harmless b

-- letters, digits and number signs up to a semicolon, which is the last
abbrev pub ends_reference : List ℕ → Bool
ends_reference [] = false
ends_reference (c ∷ []) = c == 59
ends_reference (c ∷ cs) = not (c == 38) && not (c == 59) && ends_reference cs

-- the byte itself, which is no &; or a reference to a character
abbrev pub is_reference_or : ℕ → List ℕ → Bool
is_reference_or b [] = false
is_reference_or b (c ∷ []) = c == b && not (c == 38)
is_reference_or b (c ∷ cs) = c == 38 && ends_reference cs
