-- The program's command line, an option or a subcommand at a time.
use Rattle.std.proofs.Common.{refl, sym, ◌≡◌, ◌∙◌, ◌+◌, ◌<◌, ◌++◌, ℕ, ap, ap₂, Bool, cond, true, false, ◌||◌, List, [], ◌∷◌, Option, Some, option_map, add-one, find, fold, get_or, length, map, take}
use Rattle.std.proofs.Common.{Bor, take-suc}
use Rattle.std.proofs.lemmas.List.Sums.{fold-append}
use Rattle.clap.specs.Words.{AddsArg, AddsSubcommand, App, Rule, rule_of, with_rule, with_subcommand}
use Rattle.clap.specs.declared.builder.arg.Arg.{Arg}
use Rattle.clap.specs.declared.builder.command.Command.{Command}
use Rattle.clap.specs.declared.builder.command.Command.TheViews.{out-Command}
use Rattle.clap.specs.Simple.{app_of_fields}
use Rattle.s66_command.specs.{Value, Work, Plain, Search, IsCommandOf, Text, options_by, with_options}
use Rattle.s66_command.specs.declared.subcommand.Work.TheVariants.{Check}

pub with-arg : (a : App) (r : Rule) (c new : Command) (arg : Arg) → IsCommandOf a c → rule_of arg ≡ r → arg.global ≡ false → AddsArg c arg new →
    IsCommandOf (with_rule a r) new
with-arg a r c new arg is rule local adds = (adds.shape local ∙ ap₂ with_rule is.0 rule, adds.globals ∙ ap₂ (λ x y. x || y) is.1 local)

pub with-subcommand : (a b : App) (c sub new : Command) → IsCommandOf a c → IsCommandOf b sub → AddsSubcommand c sub new →
    IsCommandOf (with_subcommand a b.top) new
with-subcommand a b c sub new is is-sub adds =
    (adds.shape is-sub.1 ∙ ap₂ with_subcommand is.0 (ap (λ (x : App). x.top) is-sub.0), adds.globals ∙ ap₂ (λ x y. x || y) is.1 is-sub.1)

-- what follows in the help under another heading changes no command line
pub with-heading : (a : App) (c new : Command) (heading : Option (Bor Text)) → out-Command new ≡ record (out-Command c) { current_help_heading = heading } → IsCommandOf a c →
    IsCommandOf a new
with-heading a c new heading same is = (ap app_of_fields same ∙ is.0, ap (λ fields. fields.has_globals) same ∙ is.1)

-- ONE MORE ROW

module _ {A B C : Type 0} (f : C → B → C) (g : A → B) where
  fold-map : (c : C) (xs : List A) → fold f c (map g xs) ≡ fold (λ c x. f c (g x)) c xs
  fold-map c [] = refl
  fold-map c (x ∷ xs) = fold-map (f c (g x)) xs

  fold-take : (c : C) (xs : List A) (j : ℕ) (d : A) → j < length xs → fold (λ c x. f c (g x)) c (take (j + 1) xs) ≡ f (fold (λ c x. f c (g x)) c (take j xs)) (g (get_or xs j d))
  fold-take c xs j d lt = rw (add-one, take-suc xs j d lt) (fold-append (λ c x. f c (g x)) c (take j xs) (get_or xs j d ∷ []))

  -- one more is folded in
  pub fold-one : (c : C) (xs : List A) (j : ℕ) (d : A) → j < length xs → fold f c (map g (take (j + 1) xs)) ≡ f (fold f c (map g (take j xs))) (g (get_or xs j d))
  fold-one c xs j d lt = fold-map c (take (j + 1) xs) ∙ fold-take c xs j d lt ∙ ap (λ so_far. f so_far (g (get_or xs j d))) (sym (fold-map c (take j xs)))

-- THE OPTIONS OF A SUBCOMMAND

-- options added in turn are those of both lists
pub with-more : (a : App) (first more : List (Text × Value)) → with_options a (first ++ more) ≡ with_options (with_options a first) more
with-more a first more = fold-append _ a first more

pub with-search : (a : App) (first own last : List (Text × Value)) → with_options a (first ++ (own ++ last)) ≡ with_options (with_options (with_options a first) own) last
with-search a first own last = with-more a first (own ++ last) ∙ with-more (with_options a first) own last

pub own-alone : (w : Work) (own : List (Text × Value)) → (w ≡ Search → ⊥) → own ≡ options_by w own
own-alone Search own other = absurd (other refl)
own-alone Check own other = refl
own-alone Plain own other = refl

-- A ROW BY ITS NAME

find-map : {A B : Type 0} (f : A → B) (test : B → Bool) (xs : List A) → option_map f (find (λ x. test (f x)) xs) ≡ find test (map f xs)
find-map f test [] = refl
find-map f test (x ∷ xs) = by (test (f x)) (find-map f test xs)
  where
    by : (b : Bool) → option_map f (find (λ x. test (f x)) xs) ≡ find test (map f xs) → option_map f (cond b (Some x) (find (λ x. test (f x)) xs)) ≡ cond b (Some (f x)) (find test (map f xs))
    by true more = refl
    by false more = more

pub found-in : {A B : Type 0} (f : A → B) (test : B → Bool) (xs : List A) (found : Option A) → found ≡ find (λ x. test (f x)) xs → option_map f found ≡ find test (map f xs)
found-in f test xs found is = ap (option_map f) is ∙ find-map f test xs
