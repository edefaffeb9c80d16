-- To be believed: the lines that say why a text gives no profile, without the last newline. They are empty if the text gives one.
use Rattle.std.specs.Prelude.{ℕ, List, [], ◌∷◌, ◌++◌, codes, drop, if◌then◌else◌, option_and_then, option_map, take, unwrap_or, is_none}
use Rattle.serde_json.specs.Data.{Members, no_members, member, string}
use Rattle.serde_json.specs.Find.{as_object}
use Rattle.serde_json.specs.Read.{read}
use Rattle.serde_json.specs.Written.{compact_text}
use Rattle.s66_command.specs.ProfileText.{json_of, names, profile_number, place_of}

-- a key as JSON writes it, in quotes and escaped
abbrev pub shown : List ℕ → List ℕ
shown key = compact_text (string key)

-- names with commas between
abbrev pub with_commas : List (List ℕ) → List ℕ
with_commas [] = []
with_commas (name ∷ []) = name
with_commas (name ∷ more) = name ++ (codes ", " ++ with_commas more)

-- all names, on lines of at most 80 columns
abbrev pub right_names : List ℕ
right_names =
    codes "the names are " ++ (with_commas (take 7 names) ++ (codes ",\n" ++ (with_commas (take 6 (drop 7 names)) ++ (codes ",\n" ++ with_commas (drop 13 names)))))

-- that a key, which is shown so, is no name
abbrev pub wrong_name : List ℕ → List ℕ
wrong_name key = codes "no number of a profile is called " ++ (key ++ (codes "\n" ++ right_names))

-- what is wrong with the first member that sets no number
abbrev pub hint_in_members : Members → List ℕ
hint_in_members no_members = []
hint_in_members (member name value more) =
    if is_none (place_of name) then wrong_name (shown name)
    else (if is_none (profile_number value) then shown name ++ codes " is no whole number 1 to 100" else hint_in_members more)

-- what is wrong with a text
abbrev pub hint_in_text : List ℕ → List ℕ
hint_in_text text = unwrap_or (option_map hint_in_members (option_and_then as_object (read (json_of text)))) (codes "no JSON object such as {\"units_add\":2}, nor units_add=2")
