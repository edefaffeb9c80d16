-- What is said of a text for a profile is empty exactly if it gives one (`profile_hint`).
use Rattle.std.proofs.Common.{◌≡◌, ℕ, List, [], ◌∷◌, refl, sym, ap, ◌∙◌, ◌↔◌, if◌then◌else◌, slice_set, Option, Some, None, IsSome, is_none, is_some, option_and_then, option_map}
use Rattle.serde_json.specs.Data.{Data, Members, no_members, member}
use Rattle.serde_json.specs.Find.{as_object}
use Rattle.serde_json.specs.Read.{read}
use Rattle.s66_isa.specs.{profile_of, entries, standard}
use Rattle.s66_command.specs.{hint_in_members, json_of, profile_number, place_of, with_members, profile_numbers, profile_in_text}

-- one member, at what its key and its value give
step : (place number : Option ℕ) (a b : ℕ) (cs ds rest : List ℕ) (more : ℕ → ℕ → Option (List ℕ)) → ((at n : ℕ) → (rest ≡ []) ↔ IsSome (more at n))
    → ((if is_none place then a ∷ cs else (if is_none number then b ∷ ds else rest)) ≡ []) ↔ IsSome (option_and_then (λ at. option_and_then (λ n. more at n) number) place)
step None number a b cs ds rest more h = ((λ e. cc), (λ e. cc))
step (Some at) None a b cs ds rest more h = ((λ e. cc), (λ e. cc))
step (Some at) (Some n) a b cs ds rest more h = h at n

empty_if_set : (ns : List ℕ) (ms : Members) → (hint_in_members ms ≡ []) ↔ IsSome (with_members ns ms)
empty_if_set ns no_members = ((λ e. refl), (λ e. refl))
empty_if_set ns (member name value more) =
    step (place_of name) (profile_number value) _ _ _ _ (hint_in_members more) (λ at n. with_members (slice_set ns at n) more) (λ at n. empty_if_set (slice_set ns at n) more)

some_map : {A B : Type 0} (f : A → B) (o : Option A) → is_some (option_map f o) ≡ is_some o
some_map f None = refl
some_map f (Some x) = refl

-- what a text gives, whose members are known
given_by_members : (text : List ℕ) (value : Data) (ms : Members) → read (json_of text) ≡ Some value → as_object value ≡ Some ms → is_some (profile_in_text text) ≡ is_some (with_members (entries standard) ms)
given_by_members text value ms r o =
    some_map profile_of (option_and_then profile_numbers (read (json_of text))) ∙ ap (λ v. is_some (option_and_then profile_numbers v)) r ∙ ap (λ m. is_some (option_and_then (with_members (entries standard)) m)) o

pub empty_if_profile : (text : List ℕ) (value : Data) (ms : Members) → read (json_of text) ≡ Some value → as_object value ≡ Some ms → (hint_in_members ms ≡ []) ↔ IsSome (profile_in_text text)
empty_if_profile text value ms r o =
    let given = given_by_members text value ms r o in
    let empty = empty_if_set (entries standard) ms in
    ((λ e. given ∙ empty.0 e), (λ e. empty.1 (sym given ∙ e)))
