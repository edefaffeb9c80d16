-- Words in which clap finds no fault name a subcommand.
use Rattle.std.specs.List.{list_all, list_any}
use Rattle.std.specs.Option.{option_map_or}
use Rattle.std.proofs.Common.{◌≡◌, ◌⊎◌, inl, inr, ℕ, Bool, cond, true, false, true≢false, ◌||◌, List, [], ◌∷◌, ◌++◌, Option, Some, None, refl, sym, ap, ◌∙◌, subst, Box, box_value, codes, find, fold}
use Rattle.std.proofs.Common.{drop, is_some, map, option_map, bytes_eq}
use Rattle.std.proofs.lemmas.Slice.Eq.{bytes_eq-Decides}
use Rattle.clap.specs.Words.{App, HasMatchesOf, Rule, Shape, Text, built, is_simple_and_free, subcommand_name_of, subcommand_of, subcommand_rows}
use Rattle.clap.specs.declared.parser.matches.ArgMatches.{ArgMatches}
use Rattle.clap.specs.declared.parser.matches.ArgMatches.TheViews.{out-ArgMatches, out-SubCommand}
use Rattle.clap.specs.declared.parser.matches.SubCommand.{SubCommand}
use Rattle.clap.specs.Walk.{Held, Names, Outcome, done, waits, plain, refused, Row, Step, next, trailing, subcommand, value, Waiting, idle, option, positional, Walk, after_flag, after_step}
use Rattle.clap.specs.Walk.{answers_to, arg_by_index, arg_by_long, bundle, finished, is_empty, settled, long_met, long_or_other, nothing_held, plain_word, rows_after, short_or_plain, subcommand_met}
use Rattle.clap.specs.Walk.{subcommand_or_other, to_positional, walk, walk_from, walked, walked_from, word_met}
use Rattle.clap.specs.Lexer.{long_of, short_of}
use Rattle.clap.specs.Simple.{entered, label_of, names_of}
use Rattle.clap.specs.Faults.{check_fault, defaults_fault, entered_fault, fault_of, level_fault, settle_fault, other_fault, turn_fault, walk_fault, word_fault}
use Rattle.clap.proofs.SimpleLemmas.{is_nil}
use Rattle.clap.proofs.WalkLemmas.{both}
use Rattle.s66_command.specs.{IsTaken, IsNameOf, Calls, Subcommand, gives_conflict, s66_app, subcommand_name}
use Rattle.s66_command.proofs.Faults.{first-none, full, second-none}

-- A NAME OF A LIST

abbrev IsNamed : Names → Text → Type 0
IsNamed [] name = ⊥
IsNamed (s ∷ rest) name = (name ≡ s.0) ⊎ IsNamed rest name

abbrev IsNamedBy : Names → Option Text → Type 0
IsNamedBy names None = Unit {0}
IsNamedBy names (Some name) = IsNamed names name

named-more : (s : Text × List Text) (names : Names) (met : Option Text) → IsNamedBy names met → IsNamedBy (s ∷ names) met
named-more s names None is = tt
named-more s names (Some name) is = inr is

named-head : (b : Bool) (s : Text × List Text) (rest : Names) (found : Option (Text × List Text)) → IsNamedBy rest (option_map (λ s. s.0) found) →
    IsNamedBy (s ∷ rest) (option_map (λ s. s.0) (cond b (Some s) found))
named-head true s rest found is = inl refl
named-head false s rest found is = named-more s rest (option_map (λ s. s.0) found) is

named-in : (p : Text × List Text → Bool) (names : Names) → IsNamedBy names (option_map (λ s. s.0) (find p names))
named-in p [] = tt
named-in p (s ∷ rest) = named-head (p s) s rest (find p rest) (named-in p rest)

named-longer : (names : Names) (last : Text × List Text) (name : Text) → IsNamed names name → IsNamed (names ++ last ∷ []) name
named-longer [] last name is = absurd is
named-longer (s ∷ rest) last name (inl e) = inl e
named-longer (s ∷ rest) last name (inr is) = inr (named-longer rest last name is)

but-last : (names : Names) (last : Text × List Text) (name : Text) → IsNamed (names ++ last ∷ []) name → (name ≡ last.0 → ⊥) → IsNamed names name
but-last [] last name (inl e) other = absurd (other e)
but-last [] last name (inr none) other = absurd none
but-last (s ∷ rest) last name (inl e) other = inl e
but-last (s ∷ rest) last name (inr is) other = inr (but-last rest last name is other)

-- of commands without further names, the one of that name
abbrev IsAt : List Shape → Text → Type 0
IsAt shapes name = (s : Shape) × (s.name ≡ name) × (find (λ t. answers_to name (label_of t)) shapes ≡ Some s)

only-name : (s : Shape) (name : Text) (b : Bool) (aliases : List Text) → bytes_eq s.name name ≡ b → aliases ≡ [] →
    (b || list_any (λ alias. bytes_eq alias name) aliases) ≡ true → s.name ≡ name
only-name s name true aliases same none here = (bytes_eq-Decides s.name name).0 same
only-name s name false aliases same none here =
    absurd (true≢false (sym here ∙ ap (list_any (λ alias. bytes_eq alias name)) none))

name-answers : (s : Shape) (name : Text) → name ≡ s.name → answers_to name (label_of s) ≡ true
name-answers s name e = ap (λ b. b || list_any (λ alias. bytes_eq alias name) s.aliases) ((bytes_eq-Decides s.name name).1 (sym e))

at-head : (b : Bool) (s : Shape) (rest : List Shape) (name : Text) → answers_to name (label_of s) ≡ b → is_empty s.aliases ≡ true →
    (name ≡ s.name) ⊎ IsNamed (map label_of rest) name → (IsNamed (map label_of rest) name → IsAt rest name) →
    (t : Shape) × (t.name ≡ name) × (cond b (Some s) (find (λ t. answers_to name (label_of t)) rest) ≡ Some t)
at-head true s rest name here alone is more = (s, only-name s name (bytes_eq s.name name) s.aliases refl (is_nil s.aliases alone) here, refl)
at-head false s rest name here alone (inl e) more = absurd (true≢false (sym (name-answers s name e) ∙ here))
at-head false s rest name here alone (inr is) more = more is

at-name : (shapes : List Shape) → list_all (λ s. is_empty s.aliases) shapes ≡ true → (name : Text) → IsNamed (map label_of shapes) name → IsAt shapes name
at-name [] alone name is = absurd is
at-name (s ∷ rest) alone name is =
    let parts = both (is_empty s.aliases) _ alone in
    at-head (answers_to name (label_of s)) s rest name refl parts.0 is (at-name rest parts.1 name)

-- ONLY A SUBCOMMAND'S NAME STOPS A WALK

abbrev Goes : Step → Type 0
Goes (next waiting) = Unit {0}
Goes (trailing position) = Unit {0}
Goes value = Unit {0}
Goes (subcommand name) = ⊥

plain-goes : (c : List Rule) (waiting : Waiting) (word : Text) (h : Held) → Goes (plain_word c waiting word h).1
plain-goes c idle word h = tt
plain-goes c (option id) word h = tt
plain-goes c positional word h = tt

flag-goes : (c : List Rule) (waiting : Waiting) (word : Text) (h : Held) (o : Outcome) → Goes (after_flag c waiting word h o).1
flag-goes c waiting word h done = tt
flag-goes c waiting word h (waits id) = tt
flag-goes c waiting word h plain = plain-goes c waiting word h
flag-goes c waiting word h refused = plain-goes c waiting word h

short-goes : (c : List Rule) (waiting : Waiting) (word : Text) (flags : Option Text) (h : Held) → Goes (short_or_plain c waiting word flags h).1
short-goes c waiting word (Some flags) h = flag-goes c waiting word (bundle c flags h).0 (bundle c flags h).1
short-goes c waiting word None h = plain-goes c waiting word h

long-goes : (c : List Rule) (waiting : Waiting) (word : Text) (found : Option (Text × Option Text)) (h : Held) → Goes (long_or_other c waiting word found h).1
long-goes c waiting word (Some p) h = flag-goes c waiting word (long_met c (arg_by_long c p.0) p.1 h).0 (long_met c (arg_by_long c p.0) p.1 h).1
long-goes c waiting word None h = short-goes c waiting word (short_of word) h

-- A WALK WITHOUT A FAULT STOPS AT A SUBCOMMAND

abbrev top : Shape
top = (built s66_app).top

abbrev names : Names
names = names_of (built s66_app)

-- a walk that stops does so at a subcommand of the program's own, and not at `help`
abbrev IsStop : Option (Text × List Text) → Type 0
IsStop None = Unit {0}
IsStop (Some p) = IsNamed (map label_of s66_app.subs) p.0

positional-stop : (c : List Rule) (a : Option Rule) (word : Text) (w : Walk) (h : Held) → w.stopped ≡ None → IsStop (to_positional c a word w h).stopped
positional-stop c None word w h none = subst IsStop (sym none) tt
positional-stop c (Some a) word w h none = tt

step-stop : (c : List Rule) (word : Text) (w : Walk) (h : Held) (s : Step) → Goes s → w.stopped ≡ None → IsStop (after_step c word w h s).stopped
step-stop c word w h (next waiting) goes none = subst IsStop (sym none) tt
step-stop c word w h (trailing position) goes none = subst IsStop (sym none) tt
step-stop c word w h (subcommand name) goes none = absurd goes
step-stop c word w h value goes none = positional-stop c (arg_by_index c w.position) word w h none

known : (waiting : Waiting) (word : Text) → IsNamedBy names (subcommand_met names waiting word)
known idle word = named-in (answers_to word) names
known (option id) word = tt
known positional word = tt

dashes-goes : (b : Bool) (c : List Rule) (waiting : Waiting) (position : ℕ) (word : Text) (h : Held) →
    Goes (cond b (h, trailing position) (long_or_other c waiting word (long_of word) h)).1
dashes-goes true c waiting position word h = tt
dashes-goes false c waiting position word h = long-goes c waiting word (long_of word) h

not-help : (name : Text) (word : Text) (h : Held) → other_fault top (Some name) word h ≡ [] → name ≡ codes "help" → ⊥
not-help name word h none e = full _ _ (subst (λ n. other_fault top (Some n) word h ≡ []) e none)

met-stop : (met : Option Text) (w : Walk) (word : Text) → IsNamedBy names met → other_fault top met word w.held ≡ [] → w.stopped ≡ None →
    IsStop (after_step top.rules word w (subcommand_or_other top.rules met w.waiting w.position word w.held).0 (subcommand_or_other top.rules met w.waiting w.position word w.held).1).stopped
met-stop None w word is none go =
    step-stop top.rules word w _ _ (dashes-goes (bytes_eq word (45 ∷ 45 ∷ [])) top.rules w.waiting w.position word w.held) go
met-stop (Some name) w word is none go = but-last (map label_of s66_app.subs) (codes "help", []) name is (not-help name word w.held none)

trailing-stop : (t : Bool) (w : Walk) (word : Text) → word_fault top names t w.waiting word w.held ≡ [] → w.stopped ≡ None →
    IsStop (after_step top.rules word w (word_met top.rules names t w.waiting w.position word w.held).0 (word_met top.rules names t w.waiting w.position word w.held).1).stopped
trailing-stop true w word none go = positional-stop top.rules (arg_by_index top.rules w.position) word w w.held go
trailing-stop false w word none go = met-stop (subcommand_met names w.waiting word) w word (known w.waiting word) none go

stopped-at : (stop : Option (Text × List Text)) (w : Walk) (word : Text) → w.stopped ≡ stop → IsStop stop → turn_fault top names w word ≡ [] →
    IsStop (walked_from top.rules names stop w word).stopped
stopped-at (Some p) w word is stops none = stops
stopped-at None w word is stops none =
    let going = subst (λ (s : Option (Text × List Text)). cond (is_some s) [] (turn_fault top names (record w { stopped = None }) word) ≡ []) is none in
    trailing-stop w.is_trailing w word (first-none _ _ going) is

walked-stop : (w : Walk) (word : Text) → IsStop w.stopped → turn_fault top names w word ≡ [] → IsStop (walked top.rules names w word).stopped
unfolding walked
walked-stop w word stops none = stopped-at w.stopped w word refl stops none

walk-stop : (words : List Text) (w : Walk) → IsStop w.stopped → walk_fault top names w words ≡ [] → IsStop (fold (walked top.rules names) w words).stopped
unfolding walk_fault
walk-stop [] w stops none = stops
walk-stop (word ∷ rest) w stops none = walk-stop rest (walked top.rules names w word) (walked-stop w word stops (first-none _ _ none)) (second-none _ _ none)

-- A PARSE WITHOUT A FAULT ENTERS A SUBCOMMAND

-- the subcommand of that name
abbrev subcommand_at : Text → Option Shape
subcommand_at name = find (λ s. answers_to name (label_of s)) (built s66_app).subs

-- the subcommand is one of the program's, with its matches on some words that have no fault
abbrev pub IsEntered : Option (Text × List Row) → Type 0
IsEntered met = (s : Shape) × (rest : List Text) × (met ≡ Some (s.name, rows_after s.rules [] rest))
    × (subcommand_at s.name ≡ Some s) × IsNamed (map label_of s66_app.subs) s.name × (level_fault s [] nothing_held rest false [] ≡ [])

entered-at : (stop : Option (Text × List Text)) (rows : List Row) → IsStop stop → entered_fault (built s66_app) stop ≡ [] →
    check_fault top rows (is_some (entered (built s66_app) stop)) ≡ [] → IsEntered (entered (built s66_app) stop)
entered-at None rows stops below none = absurd (full _ _ none)
entered-at (Some (name, rest)) rows stops below none =
    let at = at-name (built s66_app).subs refl name (named-longer (map label_of s66_app.subs) (codes "help", []) name stops) in
    let is-name = at.1 in (
      at.0,
      rest,
      ap (option_map (λ s. (s.name, rows_after s.rules [] rest))) at.2,
      subst (λ n. subcommand_at n ≡ Some at.0) (sym is-name) at.2,
      subst (IsNamed (map label_of s66_app.subs)) (sym is-name) stops,
      sym (ap (λ o. option_map_or (λ s. level_fault s [] nothing_held rest false []) o []) at.2) ∙ below,
    )

pub named : (words : List Text) → fault_of s66_app words ≡ [] → IsEntered (subcommand_of s66_app words)
named words none =
    let words-after = drop 1 words in
    let end = walk top.rules names nothing_held words-after in
    let stop = walk-stop words-after (walk_from nothing_held) tt (first-none _ _ none) in
    let after-walk = second-none (walk_fault top names (walk_from nothing_held) words-after) _ none in
    entered-at end.stopped (finished top.rules end.held) stop (first-none (entered_fault (built s66_app) end.stopped) _ after-walk)
    (second-none (defaults_fault (settled top.rules end.held).rows top.rules) _
    (second-none (settle_fault top.rules top.args_override_self end.held) _
    (second-none (entered_fault (built s66_app) end.stopped) _ after-walk)))

-- WHAT CLAP ANSWERED

pub taken : (m : ArgMatches) (a : App) (words : List Text) → a ≡ s66_app → (is_simple_and_free a ≡ true → fault_of a words ≡ []) → HasMatchesOf a words m → IsTaken m words
taken m a words is kinds matches = (
  subst (λ (b : App). is_simple_and_free b ≡ true → fault_of b words ≡ []) is kinds refl,
  (subst (λ (b : App). HasMatchesOf b words m) is matches refl).1,
)

name-at : {Z : Type 0} (met : Option (Box SubCommand Z)) → option_map (λ b. (out-SubCommand (box_value b)).name.now) met ≡ option_map (λ s. s.0) (subcommand_rows met)
name-at None = refl
name-at (Some b) = refl

-- the name that clap gives is the one that the words name
name-is : (m : ArgMatches) (words : List Text) → IsTaken m words → subcommand_name_of m ≡ subcommand_name words
name-is m words is = name-at (out-ArgMatches m).subcommand ∙ ap (option_map (λ s. s.0)) is.1

-- the words call the subcommand whose name clap gives
pub calls : (m : ArgMatches) (words : List Text) (name : Text) → IsTaken m words → Some name ≡ subcommand_name_of m → gives_conflict words ≡ false → Calls words name
calls m words name is gives none = (is.0, none, sym (name-is m words is) ∙ sym gives)

-- clap gives a name, which is a subcommand's
abbrev IsKnown : Option Text → Type 0
IsKnown None = ⊥
IsKnown (Some name) = IsNamed (map label_of s66_app.subs) name

pub name-known : (m : ArgMatches) (words : List Text) (given : Option Text) → IsTaken m words → given ≡ subcommand_name_of m → IsKnown given
name-known m words given is gives =
    let met = named words is.0 in
    subst IsKnown (sym (gives ∙ name-is m words is ∙ ap (option_map (λ s. s.0)) met.2)) met.4

-- a subcommand of that name is found
found-head : (b : Bool) (s : Subcommand) (rest : List Subcommand) (name : Text) → bytes_eq s.name name ≡ b → IsNameOf (s ∷ rest) name →
    (IsNameOf rest name → find (λ (s : Subcommand). bytes_eq s.name name) rest ≡ None → ⊥) → cond b (Some s) (find (λ (s : Subcommand). bytes_eq s.name name) rest) ≡ None → ⊥
found-head true s rest name here is more none = true≢false (ap is_some none)
found-head false s rest name here (inl e) more none = true≢false (sym ((bytes_eq-Decides s.name name).1 (sym e)) ∙ here)
found-head false s rest name here (inr is) more none = more is none

pub found-named : (all : List Subcommand) (name : Text) → IsNameOf all name → find (λ (s : Subcommand). bytes_eq s.name name) all ≡ None → ⊥
found-named [] name is none = is
found-named (s ∷ rest) name is none = found-head (bytes_eq s.name name) s rest name refl is (found-named rest name) none
