-- To be believed: the profile that a text gives. The JSON of a text, RFC 8259, is `serde_json`'s `read`: of an object's equal keys the last counts.
-- A list, as units_add=2,load=5, stands for an object.
use Rattle.std.specs.Prelude.{◌&&◌, ◌||◌, ◌==◌, if◌then◌else◌, ℕ, Bool, List, [], ◌∷◌, ◌++◌, nat_le, codes, bytes_eq, flat_map, position, slice_set, Option, Some, None, option_and_then, option_map}
use Rattle.std.specs.Char.{is_ascii_alphabetic, is_ascii_digit}
use Rattle.serde_json.specs.Data.{Data, Members, no_members, member}
use Rattle.serde_json.specs.Find.{as_number, as_object, as_u64}
use Rattle.serde_json.specs.Read.{read}
use Rattle.s66_isa.specs.{PROFILE_LIMIT, Profile, profile_of, entries, standard}

-- what the numbers of a profile are called, in their order
abbrev pub names : List (List ℕ)
names =
    codes "boolean" ∷ codes "shift" ∷ codes "normalise" ∷ codes "add" ∷ codes "longadd" ∷ codes "multiply" ∷ codes "divide" ∷ codes "population" ∷ codes "increment" ∷ codes "load"
    ∷ codes "units_boolean" ∷ codes "units_shift" ∷ codes "units_add" ∷ codes "units_longadd" ∷ codes "units_multiply" ∷ codes "units_divide" ∷ codes "units_increment" ∷ []

-- the place of the number of this name
abbrev pub place_of : List ℕ → Option ℕ
place_of name = position (λ known. bytes_eq known name) names

-- a whole number 1 to 100, written in digits alone: JSON's integers with no sign
abbrev pub profile_number : Data → Option ℕ
profile_number value = option_and_then (λ n. if nat_le 1 n && nat_le n PROFILE_LIMIT then Some n else None) (option_and_then as_u64 (as_number value))

-- the numbers after each member of an object has set the one that it names
abbrev pub with_members : List ℕ → Members → Option (List ℕ)
with_members ns no_members = Some ns
with_members ns (member name value more) = option_and_then (λ place. option_and_then (λ n. with_members (slice_set ns place n) more) (profile_number value)) (place_of name)

-- the numbers that a JSON value gives: those of the standard profile, but what an object sets
abbrev pub profile_numbers : Data → Option (List ℕ)
profile_numbers value = option_and_then (with_members (entries standard)) (as_object value)

-- a byte of a name in a list: a letter or `_`
abbrev pub is_name_byte : ℕ → Bool
is_name_byte b = is_ascii_alphabetic b || b == 95

-- in a list a name stands behind a comma, `=` behind a name, a number in digits behind `=`, and a comma behind a number
abbrev pub may_follow : (before byte : ℕ) → Bool
may_follow before byte =
    if is_name_byte byte then is_name_byte before || before == 44
    else (if is_ascii_digit byte then is_ascii_digit before || before == 61
    else ((byte == 61 && is_name_byte before) || (byte == 44 && is_ascii_digit before)))

-- behind this byte each may stand where it does, up to the last digit of a number
abbrev pub is_list_behind : ℕ → List ℕ → Bool
is_list_behind before [] = is_ascii_digit before
is_list_behind before (byte ∷ rest) = may_follow before byte && is_list_behind byte rest

-- a list: a name, `=` and a number, or several with a comma between any two
abbrev pub is_list : List ℕ → Bool
is_list text = is_list_behind 44 text

-- a byte of a list as JSON has it: quotes stand around each name, and a colon for `=`
abbrev pub byte_in_json : ℕ → List ℕ
byte_in_json b = if b == 61 then codes "\":" else (if b == 44 then codes ",\"" else b ∷ [])

-- the text of the object for which a list stands: for units_add=2,load=5 it is {"units_add":2,"load":5}
abbrev pub object_of_list : List ℕ → List ℕ
object_of_list list = codes "{\"" ++ (flat_map byte_in_json list ++ codes "}")

-- the JSON of a text for a profile
abbrev pub json_of : List ℕ → List ℕ
json_of text = if is_list text then object_of_list text else text

-- the numbers that a text gives
abbrev pub profile_numbers_in_text : List ℕ → Option (List ℕ)
profile_numbers_in_text text = option_and_then profile_numbers (read (json_of text))

-- the profile of these numbers
abbrev pub profile_in_text : List ℕ → Option Profile
profile_in_text text = option_map profile_of (profile_numbers_in_text text)
