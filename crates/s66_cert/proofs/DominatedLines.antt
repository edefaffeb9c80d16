-- Which leaves a document has, and those that are allowed while it is read.
use Rattle.std.proofs.Common.{◌≡◌, ◌⊎◌, inl, inr, ◌&&◌, Bool, true, false, not, List, [], ◌∷◌, ◌++◌, Option, None, Some, is_some, refl, sym, ◌∙◌, ℕ, arith}
use Rattle.std.proofs.lemmas.Bool.{and_parts, and_from}
use Rattle.s66_isa.specs.{every, some_of, BLOCK_LIMIT}
use Rattle.s66_model.specs.{Rule, NoneNamed, ClampedStanding, Tree, Vertex, AtTerminal, AtSplit, flat, Ending, Bounding, Dominated, Factual, has_dominated_line}
use Rattle.s66_model.proofs.OnceCovered.{and_true}
use Rattle.s66_model.proofs.PushedBoth.{and_false}
use Rattle.s66_moments.specs.{FactStep}
use Rattle.s66_cert.specs.{names_nodes, is_factual, has_dominated, AreFacts, HasItsLeaves, is_allowed, first_facts}

-- LISTS

pub every-parts : {X : Type 0} (test : X → Bool) (xs ys : List X) → every test (xs ++ ys) ≡ true → (every test xs ≡ true) × (every test ys ≡ true)
every-parts test [] ys h = (refl, h)
every-parts test (x ∷ xs) ys h =
    let both = and_parts (test x) (every test (xs ++ ys)) h in
    let rest = every-parts test xs ys both.1 in
    (and_from (test x) (every test xs) both.0 rest.0, rest.1)

-- LINES

module _ (dominated factual : Bool) where
  -- each is allowed

  dominated-allowed : (vertices : List (Vertex Ending)) → every (is_allowed dominated factual) vertices ≡ true → has_dominated_line vertices ≡ true → dominated ≡ true
  dominated-allowed [] all has = absurd (cc)
  dominated-allowed (AtTerminal (Bounding leaf) ∷ vertices) all has = dominated-allowed vertices all has
  dominated-allowed (AtTerminal (Dominated name) ∷ vertices) all has = (and_parts dominated (every (is_allowed dominated factual) vertices) all).0
  dominated-allowed (AtTerminal (Factual leaf) ∷ vertices) all has = dominated-allowed vertices (and_parts factual (every (is_allowed dominated factual) vertices) all).1 has
  dominated-allowed (AtSplit numbers ∷ vertices) all has = dominated-allowed vertices all has

  factual-allowed : (vertices : List (Vertex Ending)) → every (is_allowed dominated factual) vertices ≡ true → some_of is_factual vertices ≡ true → factual ≡ true
  factual-allowed [] all has = absurd (cc)
  factual-allowed (AtTerminal (Bounding leaf) ∷ vertices) all has = factual-allowed vertices all has
  factual-allowed (AtTerminal (Dominated name) ∷ vertices) all has = factual-allowed vertices (and_parts dominated (every (is_allowed dominated factual) vertices) all).1 has
  factual-allowed (AtTerminal (Factual leaf) ∷ vertices) all has = (and_parts factual (every (is_allowed dominated factual) vertices) all).0
  factual-allowed (AtSplit numbers ∷ vertices) all has = factual-allowed vertices all has

  all-allowed : (vertices : List (Vertex Ending)) → (has_dominated_line vertices ≡ true → dominated ≡ true) → (some_of is_factual vertices ≡ true → factual ≡ true) → every (is_allowed dominated factual) vertices ≡ true
  all-allowed [] named known = refl
  all-allowed (AtTerminal (Bounding leaf) ∷ vertices) named known = all-allowed vertices named known
  all-allowed (AtTerminal (Dominated name) ∷ vertices) named known = and_from dominated (every (is_allowed dominated factual) vertices) (named refl) (all-allowed vertices (λ has. named refl) known)
  all-allowed (AtTerminal (Factual leaf) ∷ vertices) named known = and_from factual (every (is_allowed dominated factual) vertices) (known refl) (all-allowed vertices named (λ has. known refl))
  all-allowed (AtSplit numbers ∷ vertices) named known = all-allowed vertices named known

-- a leaf is dominated exactly if nodes are named: none is missing
not-wanting : (names has : Bool) → names ≡ has → (names && not has) ≡ false
not-wanting true has e = rw (← e) refl
not-wanting false has e = refl

names-exactly : (names has : Bool) → (has ≡ true → names ≡ true) → (names && not has) ≡ false → names ≡ has
names-exactly true true allowed none = refl
names-exactly true false allowed none = absurd (cc)
names-exactly false true allowed none = allowed refl
names-exactly false false allowed none = refl

none-true : (b : Bool) → (b ≡ true → false ≡ true) → b ≡ false
none-true true h = sym (h refl)
none-true false h = refl

-- WHAT A DOCUMENT HAS

-- the lines are those of a document with such fact lines by this rule
abbrev pub AreAllowed : Rule → Option (List FactStep) → List (Vertex Ending) → Type 0
AreAllowed rule facts vertices = every (is_allowed (names_nodes rule && not (is_some facts)) (is_some facts)) vertices ≡ true

pub leaves-allowed : (rule : Rule) (facts : Option (List FactStep)) (tree : Tree Ending) → HasItsLeaves rule facts tree → AreAllowed rule facts (flat tree)
leaves-allowed rule None tree (named, none) =
    all-allowed (names_nodes rule && true) false (flat tree) (λ has. and_true (names_nodes rule) ∙ named ∙ has) (λ has. sym none ∙ has)
leaves-allowed rule (Some steps) tree none =
    all-allowed (names_nodes rule && false) true (flat tree) (λ has. absurd (let clash = sym none ∙ has in (cc))) (λ has. refl)

pub leaves-wanting : (rule : Rule) (facts : Option (List FactStep)) (tree : Tree Ending) → HasItsLeaves rule facts tree → (names_nodes rule && not (is_some facts) && not (has_dominated tree)) ≡ false
leaves-wanting rule None tree (named, none) = not-wanting (names_nodes rule && true) (has_dominated tree) (and_true (names_nodes rule) ∙ named)
leaves-wanting rule (Some steps) tree none = rw (and_false (names_nodes rule)) refl

-- without fact lines there is none of their leaves
no-factual : (dominated : Bool) (vertices : List (Vertex Ending)) → every (is_allowed dominated false) vertices ≡ true → some_of is_factual vertices ≡ false
no-factual dominated vertices all = none-true (some_of is_factual vertices) (factual-allowed dominated false vertices all)

-- and with them no leaf is dominated
no-dominated : (rule : Rule) (factual : Bool) (vertices : List (Vertex Ending)) → every (is_allowed (names_nodes rule && false) factual) vertices ≡ true → has_dominated_line vertices ≡ false
no-dominated rule factual vertices all = none-true (has_dominated_line vertices) (λ has. sym (and_false (names_nodes rule)) ∙ dominated-allowed (names_nodes rule && false) factual vertices all has)

pub leaves-whole : (rule : Rule) (facts : Option (List FactStep)) (tree : Tree Ending) → AreAllowed rule facts (flat tree) → (names_nodes rule && not (is_some facts) && not (has_dominated tree)) ≡ false → HasItsLeaves rule facts tree
leaves-whole rule None tree all none =
    let named = names-exactly (names_nodes rule && true) (has_dominated tree) (dominated-allowed (names_nodes rule && true) false (flat tree) all) none in
    (sym (and_true (names_nodes rule)) ∙ named, no-factual (names_nodes rule && true) (flat tree) all)
leaves-whole rule (Some steps) tree all none = no-dominated rule true (flat tree) all

-- whatever is missing, by its rule or by none
pub leaves-open : (rule : Rule) (facts : Option (List FactStep)) (tree : Tree Ending) → AreFacts BLOCK_LIMIT rule facts → AreAllowed rule facts (flat tree) →
    (AreFacts BLOCK_LIMIT rule facts × HasItsLeaves rule facts tree) ⊎ (AreFacts BLOCK_LIMIT NoneNamed facts × HasItsLeaves NoneNamed facts tree)
leaves-open rule None tree are all = by (has_dominated tree) refl
  where
    by : (has : Bool) → has_dominated tree ≡ has → (AreFacts BLOCK_LIMIT rule None × HasItsLeaves rule None tree) ⊎ (AreFacts BLOCK_LIMIT NoneNamed None × HasItsLeaves NoneNamed None tree)
    by true e = inl (are, (sym (and_true (names_nodes rule)) ∙ dominated-allowed (names_nodes rule && true) false (flat tree) all e ∙ sym e, no-factual (names_nodes rule && true) (flat tree) all))
    by false e = inr (tt, (sym e, no-factual (names_nodes rule && true) (flat tree) all))
leaves-open rule (Some steps) tree are all = inl (are, no-dominated rule true (flat tree) all)

pub facts-fit : (limit : ℕ) (rule : Rule) (facts : Option (List FactStep)) → AreFacts limit rule facts → is_some facts ≡ true → rule ≡ ClampedStanding
facts-fit limit rule None are some = absurd (cc)
facts-fit limit rule (Some steps) are some = are.0

-- if none is dominated by no rule, the lines are allowed by any
pub leaves-any : (limit : ℕ) (rule : Rule) (facts : Option (List FactStep)) (tree : Tree Ending) → AreFacts limit NoneNamed facts → HasItsLeaves NoneNamed facts tree →
    (is_some facts ≡ true → rule ≡ ClampedStanding) × AreAllowed rule facts (flat tree)
leaves-any limit rule None tree are (named, none) =
    (λ some. absurd (cc), all-allowed (names_nodes rule && true) false (flat tree) (λ has. absurd (let clash = named ∙ has in (cc))) (λ has. sym none ∙ has))
leaves-any limit rule (Some steps) tree are none = absurd (let clash = are.0 in (cc))

-- FACT LINES THAT ARE READ

pub first-some : (facts : Bool) → is_some (first_facts facts) ≡ facts
first-some true = refl
first-some false = refl

pub first-fit : (rule : Rule) (facts : Bool) → (facts ≡ true → rule ≡ ClampedStanding) → AreFacts BLOCK_LIMIT rule (first_facts facts)
first-fit rule true is = (is refl, omega arith, tt)
first-fit rule false is = tt
