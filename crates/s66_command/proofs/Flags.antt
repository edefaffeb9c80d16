-- After words in which clap finds no fault, a flag is true just if it is given.
use Rattle.std.specs.Option.{option_map_or}
use Rattle.std.proofs.Common.{◌≡◌, ◌==◌, ◌⊎◌, ◌∙◌, inl, inr, arith, Bool, cond, true, false, true≢false, List, length, [], ◌∷◌, ◌++◌, Option, Some, None, option_and_then, refl, sym, ap, ap₂, codes}
use Rattle.std.proofs.Common.{slice_get, option_map, ne_eqb}
use Rattle.clap.specs.Words.{Kinds, Row, Rule, Shape, Text, one_of, read_as}
use Rattle.clap.specs.Simple.{filled}
use Rattle.clap.specs.Takes.{is_given}
use Rattle.clap.specs.Facts.{explicit_source}
use Rattle.clap.specs.Faults.{level_fault, use_fault}
use Rattle.clap.specs.Kinds.{or_else}
use Rattle.clap.specs.Walk.{default_rows, has_row, more_values, nothing_held, row_text, rows_after, stronger, used, with_default, without}
use Rattle.clap.specs.declared.builder.value_parser.Reading.TheVariants.{AsWritten}
use Rattle.clap.specs.declared.error.kind.ErrorKind.TheVariants.{WrongNumberOfValues}
use Rattle.clap.specs.declared.parser.matches.ValueSource.{ValueSource}
use Rattle.clap.specs.declared.parser.matches.ValueSource.TheVariants.{CommandLine, DefaultValue}
use Rattle.s66_command.specs.{flag_rule}
use Rattle.s66_command.proofs.Faults.{full}
use Rattle.s66_command.proofs.OptionRows.{AllGood, AreOptions, IsGoodIfFound, defaults-good, found-good, good-change, good-without, walked-good}

-- a flag as it is read of the text for it
abbrev pub IsFlagOf : Option Text → Bool → Type 0
IsFlagOf text flag = (text ≡ None → flag ≡ false) × (text ≡ Some (codes "true") → flag ≡ true) × (text ≡ Some (codes "false") → flag ≡ false)

module _ (name : Text) where
  -- the flag, as clap fills it in
  abbrev flag : Rule
  flag = filled (flag_rule name)

  -- no rule but the flag has its name
  abbrev pub HasFlag : List Rule → Type 0
  HasFlag rules = AreOptions flag rules

  -- A ROW OF THE FLAG IS OF USES OF IT, OR ITS DEFAULT

  abbrev Begins : Text → ValueSource → Row → Type 0
  Begins text source r = (more : List Text) × (r.values ≡ text ∷ more) × (r.reading ≡ AsWritten) × (r.source ≡ Some source)

  abbrev IsUse : Row → Type 0
  IsUse = Begins (codes "true") CommandLine

  abbrev IsFlagRow : Row → Type 0
  IsFlagRow r = IsUse r ⊎ Begins (codes "false") DefaultValue r

  longer : (text : Text) (source next : ValueSource) (values : List Text) (r : Row) → stronger (Some source) next ≡ source → Begins text source r →
      (more : List Text) × (r.values ++ values ≡ text ∷ more) × (r.reading ≡ AsWritten) × (Some (stronger r.source next) ≡ Some source)
  longer text source next values r keeps (more, begins, how, from) =
      (more ++ values, ap (λ vs. vs ++ values) begins, how, ap (λ s. Some (stronger s next)) from ∙ ap (λ s. Some s) keeps)

  takes-none : (b : Bool) (more : Kinds) → b ≡ false → or_else (cond b [] (WrongNumberOfValues ∷ [])) more ≡ [] → ⊥
  takes-none true more given none = true≢false given
  takes-none false more given none = full _ _ none

  flag-used : (again : Bool) (values : List Text) (rows : List Row) → use_fault again flag values rows ≡ [] → AllGood flag IsUse rows →
      AllGood flag IsUse (used flag values rows)
  flag-used again [] rows none good =
      good-change flag IsUse name (more_values CommandLine (codes "true" ∷ [])) _
      (λ r same is. (λ here. longer (codes "true") CommandLine CommandLine (codes "true" ∷ []) r refl (is here), tt))
      (λ same. ([], refl, refl, refl), tt) (without name rows) (good-without flag IsUse name rows good)
  flag-used again (v ∷ vs) rows none good = absurd (takes-none (0 == length (v ∷ vs)) _ (ne_eqb _ _ (λ e. omega arith)) none)

  uses : (rows : List Row) → AllGood flag IsUse rows → AllGood flag IsFlagRow rows
  uses [] good = tt
  uses (r ∷ rows) good = (λ here. inl (good.0 here), uses rows good.1)

  flag-default : (rows : List Row) → AllGood flag IsFlagRow rows → AllGood flag IsFlagRow (with_default rows flag)
  flag-default rows good = by-row (has_row name rows)
    where
      still : (r : Row) → IsFlagRow r → IsFlagRow (record r { values = r.values ++ codes "false" ∷ []; source = Some (stronger r.source DefaultValue) })
      still r (inl taken) = inl (longer (codes "true") CommandLine DefaultValue (codes "false" ∷ []) r refl taken)
      still r (inr absent) = inr (longer (codes "false") DefaultValue DefaultValue (codes "false" ∷ []) r refl absent)

      by-row : (b : Bool) → AllGood flag IsFlagRow (cond b rows (default_rows name AsWritten (codes "false" ∷ []) rows))
      by-row true = good
      by-row false =
          good-change flag IsFlagRow name (more_values DefaultValue (codes "false" ∷ [])) _ (λ r same is. (λ here. still r (is here), tt))
          (λ same. inr ([], refl, refl, refl), tt) rows good

  -- THE VALUE OF THE FLAG

  text-of : (text : Text) (source : ValueSource) (r : Row) → Begins text source r → (row_text r ≡ Some text) × (explicit_source r.source ≡ explicit_source (Some source))
  text-of text source r (more, begins, how, from) =
      (ap₂ (λ way vs. option_map (read_as way) (slice_get vs 0)) how begins, ap explicit_source from)

  value-of : (found : Option Row) (value : Bool) → IsGoodIfFound flag IsFlagRow found → IsFlagOf (option_and_then row_text found) value →
      value ≡ option_map_or (λ r. explicit_source r.source) found false
  value-of None value good (none, one, other) = none refl
  value-of (Some r) value (inl taken) (none, one, other) =
      let (text, source) = text-of (codes "true") CommandLine r taken in
      one text ∙ sym source
  value-of (Some r) value (inr absent) (none, one, other) =
      let (text, source) = text-of (codes "false") DefaultValue r absent in
      other text ∙ sym source

  pub flag-is : (s : Shape) → HasFlag s.rules → (words : List Text) (given : Bool) → level_fault s [] nothing_held words given [] ≡ [] →
      (value : Bool) → IsFlagOf (one_of name (rows_after s.rules [] words)) value → value ≡ is_given name (rows_after s.rules [] words)
  flag-is s has words given none value read =
      let good = uses _ (walked-good flag IsUse flag-used s has words given none) in
      value-of _ value (found-good flag IsFlagRow _ (defaults-good flag IsFlagRow flag-default s.rules has _ good)) read
