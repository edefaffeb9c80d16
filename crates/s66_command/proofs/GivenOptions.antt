-- What was found of an option of a subcommand is what the words give.
use Rattle.std.specs.Option.{option_map_or}
use Rattle.std.proofs.Common.{◌≡◌, ◌∙◌, inl, inr, Bool, cond, true, false, true≢false, List, [], ◌∷◌, Option, None, Some, is_some, refl, sym, ap, subst, find, drop, map, bytes_eq, codes}
use Rattle.std.proofs.Common.{option_and_then, option_map, slice_get, unwrap_or, Bor}
use Rattle.std.proofs.lemmas.Slice.Eq.{bytes_eq-Decides}
use Rattle.clap.specs.Words.{Row, Rule, Shape, Text, built, first_of, first_value, one_of, one_text, rows_of, subcommand_of, subcommand_rows_of}
use Rattle.clap.specs.Takes.{is_given}
use Rattle.clap.specs.Faults.{level_fault}
use Rattle.clap.specs.Simple.{filled, label_of}
use Rattle.clap.specs.Walk.{answers_to, nothing_held, rows_after}
use Rattle.clap.specs.declared.parser.matches.ArgMatches.{ArgMatches}
use Rattle.clap.specs.declared.parser.matches.Found.{Found}
use Rattle.clap.proofs.WalkLemmas.{first_value-rows, one_text-rows}
use Rattle.s66_command.specs.{IsFlagName, IsFoundBy, IsTaken, rule_called, GivesFlag, GivesProfile, Limits, flag_rule, has_value, number_rule, option_text, plain_text, s66_app}
use Rattle.s66_command.proofs.Flags.{IsFlagOf, flag-is}
use Rattle.s66_command.proofs.Named.{named}
use Rattle.s66_command.proofs.OptionRanges.{IsNumber, number-is}
use Rattle.s66_command.proofs.OptionRows.{AreOptions, IsOption}

-- ONE RULE TO A NAME

abbrev shapes : List Shape
shapes = (built s66_app).subs

abbrev AreCalled : List Rule → Type 0
AreCalled rules = map (λ a. rule_called a.id) rules ≡ rules

all-called : map (λ s. map (λ a. rule_called a.id) s.rules) shapes ≡ map (λ s. s.rules) shapes
all-called = refl

found-called : (p : Shape → Bool) (all : List Shape) → map (λ s. map (λ a. rule_called a.id) s.rules) all ≡ map (λ s. s.rules) all →
    (s : Shape) → find p all ≡ Some s → AreCalled s.rules
found-called p [] called s at = absurd (true≢false (ap is_some (sym at)))
found-called p (t ∷ rest) called s at = by (p t) (found-called p rest (ap (drop 1) called) s) at
  where
    by : (b : Bool) → (find p rest ≡ Some s → AreCalled s.rules) → cond b (Some t) (find p rest) ≡ Some s → AreCalled s.rules
    by true more at = subst (λ (x : Shape). AreCalled x.rules) (ap (λ o. unwrap_or o t) at) (ap (λ l. unwrap_or (slice_get l 0) []) called)
    by false more at = more at

options-in : (own : Rule) → own ≡ rule_called own.id → (rules : List Rule) → AreCalled rules → AreOptions own rules
options-in own is [] called = tt
options-in own is (a ∷ rest) called = (by (bytes_eq a.id own.id) refl, options-in own is rest (ap (drop 1) called))
  where
    by : (b : Bool) → bytes_eq a.id own.id ≡ b → IsOption own a
    by true same = inl (sym (ap (λ l. unwrap_or (slice_get l 0) a) called) ∙ ap rule_called ((bytes_eq-Decides a.id own.id).0 same) ∙ sym is)
    by false apart = inr apart

-- WHAT WAS FOUND

pub found-by : (m : ArgMatches) (words : List Text) (found : Found) → IsTaken m words → Some (rows_of found) ≡ option_map (λ p. p.1) (subcommand_rows_of m) → IsFoundBy found words
found-by m words found is rows = (is.0, sym (rows ∙ ap (option_map (λ p. p.1)) is.1))

-- a subcommand's matches on some words that have no fault
abbrev IsMatched : Found → List Text → Type 0
IsMatched found words = (s : Shape) × (rest : List Text) × (subcommand_of s66_app words ≡ Some (s.name, rows_after s.rules [] rest))
    × (rows_of found ≡ rows_after s.rules [] rest) × (level_fault s [] nothing_held rest false [] ≡ []) × AreCalled s.rules

matched : (found : Found) (words : List Text) → IsFoundBy found words → IsMatched found words
matched found words is =
    let met = named words is.0 in
    (met.0, met.1, met.2, ap (λ o. unwrap_or o []) (sym is.1 ∙ ap (option_map (λ p. p.1)) met.2), met.5, found-called (λ s. answers_to met.0.name (label_of s)) shapes all-called met.0 met.3)

pub flag-of : (found : Found) (words : List Text) (flag : Bool) (name : Text) → IsFlagName name → IsFoundBy found words → IsFlagOf (one_text found name) flag → GivesFlag name words flag
flag-of found words flag name is-flag is read =
    let (s, rest, met, rows, none, are-called) = matched found words is in
    let options = options-in (filled (flag_rule name)) is-flag s.rules are-called in
    flag-is name s options rest false none flag (subst (λ text. IsFlagOf text flag) (one_text-rows found name ∙ ap (one_of name) rows) read)
    ∙ sym (ap (λ o. option_map_or (λ (p : Text × List Row). is_given name p.1) o false) met)

-- the text of a number's option
pub number-of : (found : Found) (words : List Text) (id name : Text) (limits : Limits) → filled (number_rule id limits) ≡ rule_called id → IsFoundBy found words → name ≡ id →
    IsNumber limits (one_text found name) × (one_text found name ≡ option_text id words)
number-of found words id name limits is-number is same =
    let (s, rest, met, rows, none, are-called) = matched found words is in
    let options = options-in (filled (number_rule id limits)) is-number s.rules are-called in
    let text = ap (one_text found) same ∙ one_text-rows found id ∙ ap (one_of id) rows in (
      subst (IsNumber limits) (sym text) (number-is id limits s options rest false none),
      text ∙ sym (ap (option_and_then (λ (p : Text × List Row). one_of id p.1)) met),
    )

-- what follows of a number is by the words
pub number-given : (found : Found) (words : List Text) (id name : Text) (limits : Limits) (P : Option Text → Type 0) → filled (number_rule id limits) ≡ rule_called id → IsFoundBy found words →
    name ≡ id → (IsNumber limits (one_text found name) → P (one_text found name)) → P (option_text id words)
number-given found words id name limits P is-number is same read =
    let there = number-of found words id name limits is-number is same in
    subst P there.1 (read there.0)

-- the text of an option, as it stands
pub plain-of : (found : Found) (words : List Text) (name : Text) → IsFoundBy found words → first_value found name ≡ plain_text name words
plain-of found words name is =
    let (s, rest, met, rows, none, are-called) = matched found words is in
    first_value-rows found name ∙ ap (first_of name) rows ∙ sym (ap (option_and_then (λ (p : Text × List Row). first_of name p.1)) met)

pub profile-of : (found : Found) (words : List Text) (name : Text) (profile : Option (Bor Text)) → IsFoundBy found words → name ≡ codes "profile" →
    option_map (λ text. text.now) profile ≡ first_value found name → GivesProfile words profile
profile-of found words name profile is same given = given ∙ ap (first_value found) same ∙ plain-of found words (codes "profile") is

some-shown : (text : Option (Bor Text)) → is_some text ≡ is_some (option_map (λ t. t.now) text)
some-shown None = refl
some-shown (Some text) = refl

-- an option with a value is given
pub value-of : (found : Found) (words : List Text) (name : Text) (text : Option (Bor Text)) → IsFoundBy found words → option_map (λ t. t.now) text ≡ first_value found name →
    is_some text ≡ has_value name words
value-of found words name text is given = some-shown text ∙ ap is_some (given ∙ plain-of found words name is)
