-- After words without a fault, a subcommand has no value of a number's option, or one within the limits.
use Rattle.std.specs.Str.Parse.{ParsesUnsigned}
use Rattle.std.proofs.Common.{◌≡◌, ◌∙◌, ◌≤◌, ◌<◌, ◌^◌, ℕ, Bool, cond, true, false, List, [], ◌∷◌, ◌++◌, Option, Some, None, option_and_then, refl, sym, ap, subst, length, Ok, Result, pos, unwrap_or}
use Rattle.clap.specs.Words.{Kinds, ReadsOne, Row, Rule, Shape, Text, one_of, without_minus}
use Rattle.clap.specs.Simple.{filled}
use Rattle.clap.specs.Values.{IsSignedIn}
use Rattle.clap.specs.ValueTests.{accepts}
use Rattle.clap.specs.Kinds.{or_else, range_kinds}
use Rattle.clap.specs.Faults.{level_fault, repeat_fault, set_fault, use_fault, values_fault}
use Rattle.clap.specs.Walk.{has_row, more_values, nothing_held, row_text, rows_after, used, with_default, without}
use Rattle.clap.specs.declared.builder.value_parser.Reading.TheVariants.{WithoutMinus}
use Rattle.clap.specs.declared.builder.value_parser.ValueParser.TheVariants.{Signed}
use Rattle.clap.specs.declared.error.kind.ErrorKind.TheVariants.{ValueValidation}
use Rattle.clap.specs.declared.parser.matches.ValueSource.TheVariants.{CommandLine}
use Rattle.clap.proofs.CallerReads.{signed_reads}
use Rattle.clap.proofs.ValueTestLemmas.{accepts-Accepts}
use Rattle.s66_command.specs.{IsNumberIn, IsNumberOrDefault, Limits, number_rule}
use Rattle.s66_command.proofs.Faults.{full, second-none}
use Rattle.s66_command.proofs.OptionRows.{AllGood, AreOptions, IsGoodIfFound, defaults-good, found-good, good-change, good-without, walked-good}

-- the text, if there is one, is a number within the limits
abbrev pub IsNumber : Limits → Option Text → Type 0
IsNumber limits None = Unit {0}
IsNumber limits (Some text) = (v : Text) × (text ≡ without_minus v) × IsSignedIn (pos limits.least) (pos limits.most) v

module _ (id : Text) (limits : Limits) where
  -- the option, as clap fills it in
  abbrev number : Rule
  number = filled (number_rule id limits)

  -- no rule but the option has its name
  abbrev pub HasNumber : List Rule → Type 0
  HasNumber rules = AreOptions number rules

  -- A ROW OF THE OPTION BEGINS WITH A NUMBER WITHIN THE LIMITS

  abbrev is-within : Text → Bool
  is-within text = accepts false (Signed (pos limits.least) (pos limits.most)) text

  abbrev IsNumberRow : Row → Type 0
  IsNumberRow r = (v : Text) × (vs : List Text) × (r.values ≡ v ∷ vs) × (r.reading ≡ WithoutMinus) × (is-within v ≡ true)

  within-by : (b : Bool) (more : Kinds) → or_else (cond b [] (ValueValidation ∷ [])) more ≡ [] → b ≡ true
  within-by true more none = refl
  within-by false more none = absurd (full ValueValidation [] none)

  number-used : (again : Bool) (values : List Text) (rows : List Row) → use_fault again number values rows ≡ [] → AllGood number IsNumberRow rows →
      AllGood number IsNumberRow (used number values rows)
  number-used again [] rows none good = absurd (full _ _ none)
  number-used again (v ∷ vs) rows none good =
      let set = second-none (range_kinds 1 1 (length (v ∷ vs))) (set_fault again number (v ∷ vs) rows) none in
      let passed = second-none (repeat_fault again id rows) (values_fault number (v ∷ vs)) set in
      good-change number IsNumberRow id (more_values CommandLine (v ∷ vs)) _ (λ r same is. (λ here. longer r (is here), tt))
      (λ same. (v, vs, refl, refl, within-by (is-within v) (values_fault number vs) passed), tt) (without id rows) (good-without number IsNumberRow id rows good)
    where
      longer : (r : Row) → IsNumberRow r → (w : Text) × (ws : List Text) × (r.values ++ v ∷ vs ≡ w ∷ ws) × (r.reading ≡ WithoutMinus) × (is-within w ≡ true)
      longer r (w, ws, begins, how, within) = (w, ws ++ v ∷ vs, ap (λ us. us ++ v ∷ vs) begins, how, within)

  -- the option has no default
  number-default : (rows : List Row) → AllGood number IsNumberRow rows → AllGood number IsNumberRow (with_default rows number)
  number-default rows good = either (has_row id rows)
    where
      either : (b : Bool) → AllGood number IsNumberRow (cond b rows rows)
      either true = good
      either false = good

  -- THE TEXT OF THE OPTION

  -- there is no text, or one of a number within the limits
  row-number : (r : Row) → IsNumberRow r → IsNumber limits (row_text r)
  row-number r begins = subst (λ (x : Row). IsNumber limits (row_text x)) (sym shown) (begins.0, refl, accepts-Accepts false (Signed (pos limits.least) (pos limits.most)) begins.0 begins.4)
    where
      shown : r ≡ record r { values = begins.0 ∷ begins.1; reading = WithoutMinus }
      shown = ap (λ vs. record r { values = vs }) begins.2 ∙ ap (λ how. record r { values = begins.0 ∷ begins.1; reading = how }) begins.3

  number-in : (found : Option Row) → IsGoodIfFound number IsNumberRow found → IsNumber limits (option_and_then row_text found)
  number-in None good = tt
  number-in (Some r) good = row-number r good

  pub number-is : (s : Shape) → HasNumber s.rules → (words : List Text) (given : Bool) → level_fault s [] nothing_held words given [] ≡ [] →
      IsNumber limits (one_of id (rows_after s.rules [] words))
  number-is s has words given none =
      let good = walked-good number IsNumberRow number-used s has words given none in
      number-in _ (found-good number IsNumberRow _ (defaults-good number IsNumberRow number-default s.rules has _ good))

  -- what `get_one` makes of a text by a type's `from_str`
  module _ (E : Type 0) (gives : Text → Result ℕ E → Type 0) (k : ℕ) (parses : (t : Text) (x : Result ℕ E) → gives t x → ParsesUnsigned k 10 t x) (fits : limits.most < 2 ^ k) where
    read-text : (default : ℕ) (v : Text) (r : Option ℕ) → IsSignedIn (pos limits.least) (pos limits.most) v → ReadsOne gives (without_minus v) r →
        IsNumberOrDefault limits default (Some (without_minus v)) (unwrap_or r default)
    read-text default v r within reads =
        let found = signed_reads E gives k limits.least limits.most v r reads parses fits within in
        subst (λ (o : Option ℕ). IsNumberOrDefault limits default (Some (without_minus v)) (unwrap_or o default)) (sym found.1)
        ((parses (without_minus v) (Ok found.0) (subst (ReadsOne gives (without_minus v)) found.1 reads)).1, found.2, found.3)

    given-text : (v : Text) (r : Option ℕ) → IsSignedIn (pos limits.least) (pos limits.most) v → ReadsOne gives (without_minus v) r → IsNumberIn limits (Some (without_minus v)) r
    given-text v r within reads =
        let found = signed_reads E gives k limits.least limits.most v r reads parses fits within in
        subst (IsNumberIn limits (Some (without_minus v))) (sym found.1)
        (ap (λ n. Some n) (parses (without_minus v) (Ok found.0) (subst (ReadsOne gives (without_minus v)) found.1 reads)).1, (found.2, found.3))

    -- the number of the option, if it is given
    pub number-or_none : (text : Option Text) (r : Option ℕ) → (text ≡ None → r ≡ None) → ((t : Text) → text ≡ Some t → ReadsOne gives t r) → IsNumber limits text → IsNumberIn limits text r
    number-or_none None r none some is = subst (IsNumberIn limits None) (sym (none refl)) (refl, tt)
    number-or_none (Some text) r none some is =
        subst (λ t. IsNumberIn limits (Some t) r) (sym is.1) (given-text is.0 r is.2 (subst (λ t. ReadsOne gives t r) is.1 (some text refl)))

    read-option : (default : ℕ) (text : Option Text) (r : Option ℕ) → IsNumber limits text → limits.least ≤ default → default ≤ limits.most → (text ≡ None → r ≡ None) →
        ((t : Text) → text ≡ Some t → ReadsOne gives t r) → IsNumberOrDefault limits default text (unwrap_or r default)
    read-option default None r is low high none some = subst (λ (o : Option ℕ). IsNumberOrDefault limits default None (unwrap_or o default)) (sym (none refl)) (refl, low, high)
    read-option default (Some text) r is low high none some =
        subst (λ t. IsNumberOrDefault limits default (Some t) (unwrap_or r default)) (sym is.1) (read-text default is.0 r is.2 (subst (λ t. ReadsOne gives t r) is.1 (some text refl)))

    pub number-read : (default : ℕ) (text : Option Text) (r : Option ℕ) (n : ℕ) → limits.least ≤ default → default ≤ limits.most → (text ≡ None → r ≡ None) →
        ((t : Text) → text ≡ Some t → ReadsOne gives t r) → n ≡ unwrap_or r default → IsNumber limits text → IsNumberOrDefault limits default text n
    number-read default text r n low high none some taken is =
        subst (λ x. IsNumberOrDefault limits default text x) (sym taken) (read-option default text r is low high none some)
