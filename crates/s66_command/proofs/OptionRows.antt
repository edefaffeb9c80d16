-- After words without a fault, what was found of an option is of its uses, or its default.
use Rattle.std.specs.Option.{option_map_or}
use Rattle.std.proofs.Common.{◌≡◌, ◌⊎◌, ◌∙◌, inl, inr, ℕ, zero, suc, Bool, cond, true, false, true≢false, ◌&&◌, List, [], ◌∷◌, ◌++◌, Option, Some, None, is_some, refl, sym, ap, subst, find, fold}
use Rattle.std.proofs.Common.{drop, bytes_eq, length, encode_utf8, slice_get, chars, min, ◌+◌, unwrap_or}
use Rattle.std.proofs.lemmas.Slice.Eq.{bytes_eq-Decides}
use Rattle.clap.specs.Words.{Kinds, Row, Rule, Shape, Text}
use Rattle.clap.specs.Lexer.{long_of, short_of}
use Rattle.clap.specs.Kinds.{or_else}
use Rattle.clap.specs.Faults.{bundle_fault, bundle_step_fault, flag_word_fault, flags_fault, level_fault, long_fault, option_fault, other_fault, positional_fault, react_fault, settle_fault}
use Rattle.clap.specs.Faults.{short_fault, step_fault, turn_fault, use_fault, walk_fault, word_fault}
use Rattle.clap.specs.Walk.{Held, Outcome, done, waits, plain, refused, Step, next, trailing, subcommand, value, Waiting, idle, option, positional, Walk, after_flag, after_step, arg_by_id}
use Rattle.clap.specs.Walk.{arg_by_index, arg_by_long, arg_by_short, at_row, attached_value, bundle, bundle_met, bundle_step, count_of, counted, default_rows, flag_met, has_row, is_pending, long_met}
use Rattle.clap.specs.Walk.{long_or_other, more_values, new_count, nothing_held, option_met, option_word, plain_word, reacted, reading_by, settled, settled_rows, short_met, short_or_plain}
use Rattle.clap.specs.Walk.{subcommand_met, subcommand_or_other, takes_several, takes_values, to_positional, used, used_as, used_by_id, values_or_missing, walk, walk_from, walked, walked_from}
use Rattle.clap.specs.Walk.{with_count, with_default, with_values, without, word_met}
use Rattle.clap.specs.declared.builder.action.ArgAction.{ArgAction}
use Rattle.clap.specs.declared.builder.action.ArgAction.TheVariants.{Append, Count, Help, HelpLong, HelpShort, Set, SetFalse, SetTrue, Version}
use Rattle.clap.specs.declared.builder.value_parser.Reading.{Reading}
use Rattle.clap.specs.declared.parser.matches.ValueSource.{ValueSource}
use Rattle.clap.specs.declared.parser.matches.ValueSource.TheVariants.{CommandLine, DefaultValue}
use Rattle.s66_command.proofs.Faults.{first-none, second-none}

module _ (own : Rule) where
  abbrev id : Text
  id = own.id

  -- THE OPTIONS OF A SUBCOMMAND

  -- the option, or one of another id
  abbrev pub IsOption : Rule → Type 0
  IsOption a = (a ≡ own) ⊎ (bytes_eq a.id id ≡ false)

  abbrev pub AreOptions : List Rule → Type 0
  AreOptions [] = Unit {0}
  AreOptions (a ∷ rest) = IsOption a × AreOptions rest

  -- the rows of the option are of the kind P
  module _ (P : Row → Type 0) where
    abbrev pub IsGood : Row → Type 0
    IsGood r = bytes_eq r.id id ≡ true → P r

    abbrev pub AllGood : List Row → Type 0
    AllGood [] = Unit {0}
    AllGood (r ∷ rows) = IsGood r × AllGood rows

    good-join : (xs ys : List Row) → AllGood xs → AllGood ys → AllGood (xs ++ ys)
    good-join [] ys left right = right
    good-join (x ∷ xs) ys left right = (left.0, good-join xs ys left.1 right)

    -- A CHANGE OF THE ROWS OF AN ID

    good-head : (b : Bool) (r : Row) (changed rows rest : List Row) → (b ≡ true → AllGood changed) → IsGood r → AllGood rows → AllGood rest →
        AllGood (cond b (changed ++ rows) (r ∷ rest))
    good-head true r changed rows rest keeps good all more = good-join changed rows (keeps refl) all
    good-head false r changed rows rest keeps good all more = (good, more)

    pub good-change : (other : Text) (change : Row → List Row) (missing : List Row) →
        ((r : Row) → bytes_eq r.id other ≡ true → IsGood r → AllGood (change r)) → AllGood missing →
        (rows : List Row) → AllGood rows → AllGood (at_row other change missing rows)
    good-change other change missing keeps new [] good = new
    good-change other change missing keeps new (r ∷ rows) good =
        good-head (bytes_eq r.id other) r (change r) rows _ (λ same. keeps r same good.0) good.0 good.1 (good-change other change missing keeps new rows good.1)

    pub good-without : (other : Text) (rows : List Row) → AllGood rows → AllGood (without other rows)
    good-without other = good-change other (λ _. []) [] (λ r same is. tt) tt

    -- A USE OF AN OPTION OF ANOTHER ID

    -- a row of another id may be any
    other-good : (other : Text) (r : Row) → bytes_eq other id ≡ false → bytes_eq r.id other ≡ true → IsGood r
    other-good other r apart same here =
        absurd (true≢false (sym here ∙ ap (λ t. bytes_eq t id) ((bytes_eq-Decides r.id other).0 same) ∙ apart))

    same-text : (a : Text) → bytes_eq a a ≡ true
    same-text a = (bytes_eq-Decides a a).1 refl

    good-values : (other : Text) (how : Reading) (source : ValueSource) (values : List Text) → bytes_eq other id ≡ false →
        (rows : List Row) → AllGood rows → AllGood (with_values other how source values rows)
    good-values other how source values apart =
        good-change other (more_values source values) _ (λ r same is. (other-good other _ apart same, tt)) (other-good other _ apart (same-text other), tt)

    good-count : (other : Text) (how : Reading) (n : ℕ) → bytes_eq other id ≡ false → (rows : List Row) → AllGood rows →
        AllGood (with_count other how CommandLine n rows)
    good-count other how n apart =
        good-change other (new_count CommandLine n) _ (λ r same is. (other-good other _ apart same, tt)) (other-good other _ apart (same-text other), tt)

    good-counted : (other : Text) (how : Reading) (values : List Text) → bytes_eq other id ≡ false → (rows : List Row) → AllGood rows →
        AllGood (counted other how values rows)
    good-counted other how [] apart rows good = good-count other how (min (count_of other rows + 1) 255) apart (without other rows) (good-without other rows good)
    good-counted other how (v ∷ vs) apart rows good = good-values other how CommandLine (v ∷ vs) apart (without other rows) (good-without other rows good)

    other-used : (action : ArgAction) (other : Text) (how : Reading) (values : List Text) → bytes_eq other id ≡ false → (rows : List Row) → AllGood rows →
        AllGood (used_as action other how values rows)
    other-used Set other how values apart rows good = good-values other how CommandLine values apart (without other rows) (good-without other rows good)
    other-used SetTrue other how values apart rows good = good-values other how CommandLine values apart (without other rows) (good-without other rows good)
    other-used SetFalse other how values apart rows good = good-values other how CommandLine values apart (without other rows) (good-without other rows good)
    other-used Append other how values apart rows good = good-values other how CommandLine values apart rows good
    other-used Count other how values apart rows good = good-counted other how values apart rows good
    other-used Help other how values apart rows good = good
    other-used HelpShort other how values apart rows good = good
    other-used HelpLong other how values apart rows good = good
    other-used Version other how values apart rows good = good

    -- WHAT IS FOUND OF THE OPTION

    abbrev pub IsGoodIfFound : Option Row → Type 0
    IsGoodIfFound None = Unit {0}
    IsGoodIfFound (Some r) = P r

    found-row : (b : Bool) (r : Row) (rest : Option Row) → bytes_eq r.id id ≡ b → IsGood r → IsGoodIfFound rest → IsGoodIfFound (cond b (Some r) rest)
    found-row true r rest here good more = good here
    found-row false r rest here good more = more

    pub found-good : (rows : List Row) → AllGood rows → IsGoodIfFound (find (λ r. bytes_eq r.id id) rows)
    found-good [] good = tt
    found-good (r ∷ rows) good = found-row (bytes_eq r.id id) r _ refl good.0 (found-good rows good.1)

    -- THE DEFAULTS

    default-by : (b : Bool) (other : Text) (how : Reading) (values : List Text) → bytes_eq other id ≡ false → (rows : List Row) → AllGood rows →
        AllGood (cond b rows (default_rows other how values rows))
    default-by true other how values apart rows good = good
    default-by false other how [] apart rows good = good
    default-by false other how (v ∷ vs) apart rows good = good-values other how DefaultValue (v ∷ vs) apart rows good

    module _ (own-default : (rows : List Row) → AllGood rows → AllGood (with_default rows own)) where
      default-good : (a : Rule) → IsOption a → (rows : List Row) → AllGood rows → AllGood (with_default rows a)
      default-good a (inl e) rows good = subst (λ x. AllGood (with_default rows x)) (sym e) (own-default rows good)
      default-good a (inr apart) rows good = default-by (has_row a.id rows) a.id (reading_by a) a.defaults apart rows good

      pub defaults-good : (xs : List Rule) → AreOptions xs → (rows : List Row) → AllGood rows → AllGood (fold with_default rows xs)
      defaults-good [] has rows good = good
      defaults-good (a ∷ rest) has rows good = defaults-good rest has.1 (with_default rows a) (default-good a has.0 rows good)

    -- A USE OF AN OPTION

    module _ (own-used : (again : Bool) (values : List Text) (rows : List Row) → use_fault again own values rows ≡ [] → AllGood rows → AllGood (used own values rows)) where
      used-good : (again : Bool) (a : Rule) → IsOption a → (values : List Text) (rows : List Row) → use_fault again a values rows ≡ [] → AllGood rows →
          AllGood (used a values rows)
      used-good again a (inl e) values rows none good =
          subst (λ x. AllGood (used x values rows)) (sym e) (own-used again values rows (subst (λ x. use_fault again x values rows ≡ []) e none) good)
      used-good again a (inr apart) values rows none good =
          other-used (unwrap_or a.action Set) a.id (reading_by a) (values_or_missing a values) apart rows good

      -- A WORD, OF A SUBCOMMAND THAT HAS THE OPTION

      module _ (s : Shape) (options : AreOptions s.rules) where
        abbrev c : List Rule
        c = s.rules

        abbrev again : Bool
        again = s.args_override_self

        abbrev IsFound : Option Rule → Type 0
        IsFound None = Unit {0}
        IsFound (Some a) = IsOption a

        found-head : (b : Bool) (a : Rule) (rest : Option Rule) → IsOption a → IsFound rest → IsFound (cond b (Some a) rest)
        found-head true a rest is more = is
        found-head false a rest is more = more

        found-in : (p : Rule → Bool) (xs : List Rule) → AreOptions xs → IsFound (find p xs)
        found-in p [] has = tt
        found-in p (a ∷ rest) has = found-head (p a) a (find p rest) has.0 (found-in p rest has.1)

        by-id : (found : Option Rule) (values : List Text) (rows : List Row) → IsFound found → option_map_or (λ a. use_fault again a values rows) found [] ≡ [] →
            AllGood rows → AllGood (used_by_id found values rows)
        by-id None values rows is none good = good
        by-id (Some a) values rows is none good = used-good again a is values rows none good

        settled-rows : (p : Option (Text × List Text)) (rows : List Row) →
            option_map_or (λ p. option_map_or (λ a. use_fault again a p.1 rows) (arg_by_id c p.0) []) p [] ≡ [] → AllGood rows → AllGood (settled_rows c p rows)
        settled-rows None rows none good = good
        settled-rows (Some p) rows none good = by-id (arg_by_id c p.0) p.1 rows (found-in (λ a. bytes_eq a.id p.0) c options) none good

        settled-good : (h : Held) → settle_fault c again h ≡ [] → AllGood h.rows → AllGood (settled c h).rows
        settled-good h none good = settled-rows h.pending h.rows none good

        reacted-good : (a : Rule) → IsOption a → (values : List Text) (h : Held) → react_fault c again a values h ≡ [] → AllGood h.rows →
            AllGood (reacted c a values h).rows
        reacted-good a is values h none good =
            used-good again a is values (settled c h).rows (second-none (settle_fault c again h) _ none) (settled-good h (first-none (settle_fault c again h) _ none) good)

        option-good : (a : Rule) (v : Option Text) (h : Held) → IsOption a → option_fault c again a v h ≡ [] → AllGood h.rows → AllGood (option_met c a v h).0.rows
        option-good a (Some v) h is none good = reacted-good a is (v ∷ []) h none good
        option-good a None h is none good = settled-good h none good

        flag-good : (a : Rule) (v : Option Text) (h : Held) (kinds : Kinds) → IsOption a → cond (is_some v) kinds (react_fault c again a [] h) ≡ [] → AllGood h.rows →
            AllGood (flag_met c a v h).0.rows
        flag-good a (Some v) h kinds is none good = good
        flag-good a None h kinds is none good = reacted-good a is [] h none good

        long-by : (b : Bool) (a : Rule) (v : Option Text) (h : Held) (kinds : Kinds) → IsOption a →
            cond b (option_fault c again a v h) (cond (is_some v) kinds (react_fault c again a [] h)) ≡ [] → AllGood h.rows →
            AllGood (cond b (option_met c a v h) (flag_met c a v h)).0.rows
        long-by true a v h kinds is none good = option-good a v h is none good
        long-by false a v h kinds is none good = flag-good a v h kinds is none good

        long-good : (found : Option Rule) (v : Option Text) (h : Held) → IsFound found → long_fault c again found v h ≡ [] → AllGood h.rows →
            AllGood (long_met c found v h).0.rows
        long-good None v h is none good = good
        long-good (Some a) v h is none good = long-by (takes_values a) a v h _ is none good

        -- what goes on from what is held without a fault keeps the rows good
        abbrev GoesOn : (Held → Held × Outcome) → (Held → Kinds) → Type 0
        GoesOn go faults = (k : Held) → faults k ≡ [] → AllGood k.rows → AllGood (go k).0.rows

        short-by : (b : Bool) (a : Rule) (rest : Text) (h : Held) (go : Held → Held × Outcome) (faults : Held → Kinds) → GoesOn go faults → IsOption a →
            cond b (option_fault c again a (attached_value rest) h) (or_else (react_fault c again a [] h) (faults (reacted c a [] h))) ≡ [] → AllGood h.rows →
            AllGood (cond b (option_met c a (attached_value rest) h) (go (reacted c a [] h))).0.rows
        short-by true a rest h go faults goes is none good = option-good a (attached_value rest) h is none good
        short-by false a rest h go faults goes is none good =
            goes (reacted c a [] h) (second-none (react_fault c again a [] h) _ none) (reacted-good a is [] h (first-none (react_fault c again a [] h) _ none) good)

        short-good : (found : Option Rule) (rest : Text) (h : Held) (go : Held → Held × Outcome) (faults : Held → Kinds) → GoesOn go faults → IsFound found →
            short_fault c again found rest h faults ≡ [] → AllGood h.rows → AllGood (short_met c found rest h go).0.rows
        short-good None rest h go faults goes is none good = good
        short-good (Some a) rest h go faults goes is none good = short-by (takes_values a) a rest h go faults goes is none good

        bundle-step : (x : Option ℕ) (flags : Text) (skip : ℕ) (so_far : Outcome) (h : Held) (go : Text → ℕ → Outcome → Held → Held × Outcome)
            (faults : Text → ℕ → Held → Kinds) → ((f : Text) (n : ℕ) (o : Outcome) → GoesOn (go f n o) (faults f n)) →
            bundle_step_fault c again x flags skip h faults ≡ [] → AllGood h.rows → AllGood (bundle_step c x flags skip so_far h go).0.rows
        bundle-step None flags skip so_far h go faults goes none good = good
        bundle-step (Some x) flags zero so_far h go faults goes none good =
            let rest = drop (length (encode_utf8 x)) flags in
            short-good (arg_by_short c x) rest h (go rest 0 done) (faults rest 0) (goes rest 0 done) (found-in _ c options) none good
        bundle-step (Some x) flags (suc skip) so_far h go faults goes none good =
            goes (drop (length (encode_utf8 x)) flags) skip so_far h none good

        bundle-good : (n : ℕ) (flags : Text) (skip : ℕ) (so_far : Outcome) → GoesOn (bundle_met c n flags skip so_far) (flags_fault c again n flags skip)
        unfolding bundle_met flags_fault
        bundle-good zero flags skip so_far h none good = good
        bundle-good (suc n) flags skip so_far h none good =
            bundle-step (slice_get (chars flags) 0) flags skip so_far h (bundle_met c n) (flags_fault c again n) (λ f k o. bundle-good n f k o) none good

        plain-good : (waiting : Waiting) (word : Text) (h : Held) → AllGood h.rows → AllGood (plain_word c waiting word h).0.rows
        plain-good idle word h good = good
        plain-good (option name) word h good = given (arg_by_id c name)
          where
            given : (found : Option Rule) → AllGood (option_word found name word h).0.rows
            given None = good
            given (Some a) = good
        plain-good positional word h good = good

        after-good : (waiting : Waiting) (word : Text) (h : Held) (o : Outcome) → AllGood h.rows → AllGood (after_flag c waiting word h o).0.rows
        after-good waiting word h done good = good
        after-good waiting word h (waits name) good = good
        after-good waiting word h plain good = plain-good waiting word h good
        after-good waiting word h refused good = plain-good waiting word h good

        short-word : (waiting : Waiting) (word : Text) (flags : Option Text) (h : Held) →
            option_map_or (λ f. bundle_fault c again f h) flags [] ≡ [] → AllGood h.rows → AllGood (short_or_plain c waiting word flags h).0.rows
        short-word waiting word None h none good = plain-good waiting word h good
        short-word waiting word (Some flags) h none good =
            after-good waiting word (bundle c flags h).0 (bundle c flags h).1 (bundle-good (length flags) flags h.skip plain (record h { skip = 0 }) none good)

        long-word : (waiting : Waiting) (word : Text) (found : Option (Text × Option Text)) (h : Held) → flag_word_fault c again found word h ≡ [] →
            AllGood h.rows → AllGood (long_or_other c waiting word found h).0.rows
        long-word waiting word None h none good = short-word waiting word (short_of word) h none good
        long-word waiting word (Some p) h none good =
            let met = long_met c (arg_by_long c p.0) p.1 h in
            after-good waiting word met.0 met.1 (long-good (arg_by_long c p.0) p.1 h (found-in _ c options) none good)

        dashes-word : (b : Bool) (waiting : Waiting) (position : ℕ) (word : Text) (h : Held) → cond b [] (flag_word_fault c again (long_of word) word h) ≡ [] →
            AllGood h.rows → AllGood (cond b (h, trailing position) (long_or_other c waiting word (long_of word) h)).0.rows
        dashes-word true waiting position word h none good = good
        dashes-word false waiting position word h none good = long-word waiting word (long_of word) h none good

        other-word : (met : Option Text) (waiting : Waiting) (position : ℕ) (word : Text) (h : Held) → other_fault s met word h ≡ [] → AllGood h.rows →
            AllGood (subcommand_or_other c met waiting position word h).0.rows
        other-word (Some name) waiting position word h none good = good
        other-word None waiting position word h none good = dashes-word (bytes_eq word (45 ∷ 45 ∷ [])) waiting position word h none good

        word-good : (t : Bool) (waiting : Waiting) (position : ℕ) (word : Text) (h : Held) → word_fault s [] t waiting word h ≡ [] → AllGood h.rows →
            AllGood (word_met c [] t waiting position word h).0.rows
        word-good true waiting position word h none good = good
        word-good false waiting position word h none good = other-word (subcommand_met [] waiting word) waiting position word h none good

        positional-by : (b : Bool) (h : Held) → cond b [] (settle_fault c again h) ≡ [] → AllGood h.rows → AllGood (cond b h (settled c h)).rows
        positional-by true h none good = good
        positional-by false h none good = settled-good h none good

        positional-good : (found : Option Rule) (stray : Kinds) (word : Text) (w : Walk) (h : Held) →
            option_map_or (λ a. positional_fault c again a h) found stray ≡ [] → AllGood h.rows → AllGood (to_positional c found word w h).held.rows
        positional-good None stray word w h none good = good
        positional-good (Some a) stray word w h none good = positional-by (is_pending a h.pending && takes_several a) h none good

        step-good : (word : Text) (w : Walk) (h : Held) (met : Step) → step_fault s w.position h met ≡ [] → AllGood h.rows →
            AllGood (after_step c word w h met).held.rows
        step-good word w h (next waiting) none good = good
        step-good word w h (trailing position) none good = good
        step-good word w h (subcommand name) none good = good
        step-good word w h value none good = positional-good (arg_by_index c w.position) _ word w h none good

        -- THE WORDS

        walked-by : (stop : Option (Text × List Text)) (w : Walk) (word : Text) → w.stopped ≡ stop → turn_fault s [] w word ≡ [] → AllGood w.held.rows →
            AllGood (walked_from c [] stop w word).held.rows
        walked-by (Some p) w word is none good = good
        walked-by None w word is none good =
            let going = subst (λ (o : Option (Text × List Text)). cond (is_some o) [] (turn_fault s [] (record w { stopped = None }) word) ≡ []) is none in
            let met = word_met c [] w.is_trailing w.waiting w.position word w.held in
            let fault = word_fault s [] w.is_trailing w.waiting word w.held in
            step-good word w met.0 met.1 (second-none fault _ going) (word-good w.is_trailing w.waiting w.position word w.held (first-none fault _ going) good)

        walk-good : (words : List Text) (w : Walk) → walk_fault s [] w words ≡ [] → AllGood w.held.rows → AllGood (fold (walked c []) w words).held.rows
        unfolding walk_fault walked
        walk-good [] w none good = good
        walk-good (word ∷ rest) w none good =
            walk-good rest (walked c [] w word) (second-none (turn_fault s [] w word) _ none)
            (walked-by w.stopped w word refl (first-none (turn_fault s [] w word) _ none) good)

        pub walked-good : (words : List Text) (given : Bool) → level_fault s [] nothing_held words given [] ≡ [] → AllGood (settled c (walk c [] nothing_held words).held).rows
        walked-good words given none =
            let end = walk c [] nothing_held words in
            let walking = walk_fault s [] (walk_from nothing_held) words in
            let settling = second-none walking _ none in
            settled-good end.held (first-none (settle_fault c again end.held) _ settling) (walk-good words (walk_from nothing_held) (first-none walking _ none) tt)
