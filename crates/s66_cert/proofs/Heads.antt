-- The version at the head of a document, and what the document has.
use Rattle.std.proofs.Common.{◌≡◌, ◌⊎◌, inl, inr, ◌&&◌, ◌||◌, Bool, true, false, not, List, [], ◌∷◌, ◌++◌, Option, None, Some, is_some, refl, sym, ap, ◌∙◌, ℕ, arith, subst}
use Rattle.s66_isa.specs.{every, some_of, BLOCK_LIMIT}
use Rattle.s66_model.specs.{Rule, NoneNamed, WrittenEarlier, ClampedStanding, Tree, flat, Ending}
use Rattle.s66_moments.specs.{FactStep, is_of_supposition}
use Rattle.s66_cert.specs.{Version, BoundsAlone, EarlierNodes, StandingNodes, FactLines, Suppositions, has_suppositions, version, version_rule, has_facts, may_suppose, AreFacts, HasItsLeaves}
use Rattle.s66_cert.specs.{LacksSupposition, MayHead, AreOfVersion, first_facts, is_step_of}
use Rattle.s66_cert.proofs.DominatedLines.{AreAllowed, leaves-allowed, leaves-any, facts-fit, first-some, first-fit}

-- A VERSION UNDER WHICH FACT LINES WERE READ

-- it is their own, if no supposition is missing
pub version-is : (v : Version) (rule : Rule) (facts : Option (List FactStep)) → AreOfVersion v rule facts → (may_suppose v && not (has_suppositions facts)) ≡ false → version facts rule ≡ v
version-is BoundsAlone rule None is none = ap (version None) is.ruled
version-is EarlierNodes rule None is none = ap (version None) is.ruled
version-is StandingNodes rule None is none = ap (version None) is.ruled
version-is FactLines rule None is none = absurd (let clash = is.some in (cc))
version-is Suppositions rule None is none = absurd (let clash = is.some in (cc))
version-is BoundsAlone rule (Some steps) is none = absurd (let clash = is.some in (cc))
version-is EarlierNodes rule (Some steps) is none = absurd (let clash = is.some in (cc))
version-is StandingNodes rule (Some steps) is none = absurd (let clash = is.some in (cc))
version-is FactLines rule (Some steps) is none = by (some_of is_of_supposition steps) refl
  where
    by : (has : Bool) → some_of is_of_supposition steps ≡ has → version (Some steps) rule ≡ FactLines
    by true e = absurd (let clash = is.supposed e in (cc))
    by false e = rw e refl
version-is Suppositions rule (Some steps) is none = by (some_of is_of_supposition steps) refl
  where
    by : (has : Bool) → some_of is_of_supposition steps ≡ has → version (Some steps) rule ≡ Suppositions
    by true e = rw e refl
    by false e = absurd (let clash = ap not (sym e) ∙ none in (cc))

lacking : (v : Version) (rule : Rule) (facts : Option (List FactStep)) → AreOfVersion v rule facts → (may_suppose v && not (has_suppositions facts)) ≡ true → LacksSupposition (version facts rule) v
lacking BoundsAlone rule facts is lacks = absurd (cc)
lacking EarlierNodes rule facts is lacks = absurd (cc)
lacking StandingNodes rule facts is lacks = absurd (cc)
lacking FactLines rule facts is lacks = absurd (cc)
lacking Suppositions rule None is lacks = absurd (let clash = is.some in (cc))
lacking Suppositions rule (Some steps) is lacks = by (some_of is_of_supposition steps) refl
  where
    by : (has : Bool) → some_of is_of_supposition steps ≡ has → LacksSupposition (version (Some steps) rule) Suppositions
    by true e = absurd (let clash = ap not (sym e) ∙ lacks in (cc))
    by false e = (rw e refl, refl)

-- in any case it may be at their head
pub head-own : (v : Version) (rule : Rule) (facts : Option (List FactStep)) → AreOfVersion v rule facts → MayHead (version facts rule) v
head-own v rule facts is = by (may_suppose v && not (has_suppositions facts)) refl
  where
    by : (lacks : Bool) → (may_suppose v && not (has_suppositions facts)) ≡ lacks → MayHead (version facts rule) v
    by true e = inr (inr (lacking v rule facts is e))
    by false e = inl (sym (version-is v rule facts is e))

-- and without fact lines at the head of a document without dominated leaves
pub head-plain : (v : Version) (rule : Rule) (facts : Option (List FactStep)) → AreOfVersion v rule facts → AreFacts BLOCK_LIMIT NoneNamed facts → MayHead (version facts NoneNamed) v
head-plain BoundsAlone rule None is are = inl refl
head-plain EarlierNodes rule None is are = inr (inl (refl, inl refl))
head-plain StandingNodes rule None is are = inr (inl (refl, inr refl))
head-plain FactLines rule None is are = absurd (let clash = is.some in (cc))
head-plain Suppositions rule None is are = absurd (let clash = is.some in (cc))
head-plain v rule (Some steps) is are = absurd (let clash = are.0 in (cc))

-- WHAT IS READ UNDER A VERSION

pub headed-fit : (v : Version) → AreOfVersion v (version_rule v) (first_facts (has_facts v))
headed-fit BoundsAlone = record { ruled = refl; some = refl; fit = tt; supposed = λ has. absurd (cc) }
headed-fit EarlierNodes = record { ruled = refl; some = refl; fit = tt; supposed = λ has. absurd (cc) }
headed-fit StandingNodes = record { ruled = refl; some = refl; fit = tt; supposed = λ has. absurd (cc) }
headed-fit FactLines = record { ruled = refl; some = refl; fit = (refl, omega arith, tt); supposed = λ has. absurd (cc) }
headed-fit Suppositions = record { ruled = refl; some = refl; fit = (refl, omega arith, tt); supposed = λ has. absurd (cc) }

first-supposed : (b : Bool) → has_suppositions (first_facts b) ≡ true → ⊥
first-supposed true has = (cc)
first-supposed false has = (cc)

-- fact lines are read anew
pub anew-fit : (v : Version) (rule : Rule) (facts : Option (List FactStep)) → AreOfVersion v rule facts → AreOfVersion v rule (first_facts (is_some facts))
anew-fit v rule facts is = record {
  ruled = is.ruled;
  some = first-some (is_some facts) ∙ is.some;
  fit = first-fit rule (is_some facts) (facts-fit BLOCK_LIMIT rule facts is.fit);
  supposed = λ has. absurd (first-supposed (is_some facts) has);
}

-- with one line more that may come
pub supposed-more : (may : Bool) (steps : List FactStep) (step : FactStep) → (some_of is_of_supposition steps ≡ true → may ≡ true) → (may || not (is_of_supposition step)) ≡ true → some_of is_of_supposition (steps ++ step ∷ []) ≡ true → may ≡ true
supposed-more true steps step known is has = refl
supposed-more false [] step known is has = by (is_of_supposition step) is has
  where
    by : (b : Bool) → not b ≡ true → (b || false) ≡ true → false ≡ true
    by true is has = absurd (cc)
    by false is has = has
supposed-more false (other ∷ steps) step known is has = by (is_of_supposition other) known has (λ known has. supposed-more false steps step known is has)
  where
    by : (b : Bool) → ((b || some_of is_of_supposition steps) ≡ true → false ≡ true) → (b || some_of is_of_supposition (steps ++ step ∷ [])) ≡ true →
        ((some_of is_of_supposition steps ≡ true → false ≡ true) → some_of is_of_supposition (steps ++ step ∷ []) ≡ true → false ≡ true) → false ≡ true
    by true known has more = known refl
    by false known has more = more known has

-- each line may come
pub steps-allowed : (v : Version) (steps : List FactStep) → (some_of is_of_supposition steps ≡ true → may_suppose v ≡ true) → every (is_step_of v) steps ≡ true
steps-allowed v steps known = by (may_suppose v) steps known
  where
    by : (may : Bool) (steps : List FactStep) → (some_of is_of_supposition steps ≡ true → may ≡ true) → every (λ step. may || not (is_of_supposition step)) steps ≡ true
    by true [] known = refl
    by true (step ∷ steps) known = by true steps (λ has. refl)
    by false [] known = refl
    by false (step ∷ steps) known = next (is_of_supposition step) known (λ has. by false steps has)
      where
        next : (b : Bool) → ((b || some_of is_of_supposition steps) ≡ true → false ≡ true) → ((some_of is_of_supposition steps ≡ true → false ≡ true) → every (λ step. false || not (is_of_supposition step)) steps ≡ true) →
            (not b && every (λ step. false || not (is_of_supposition step)) steps) ≡ true
        next true known more = absurd (let clash = known refl in (cc))
        next false known more = more known

-- WHAT MAY BE READ UNDER A VERSION

-- the lines of a document under the version at its head
pub record AreReadUnder (v : Version) (facts : Option (List FactStep)) (tree : Tree Ending) : Type 0 where
  pub some : is_some facts ≡ has_facts v
  pub supposed : has_suppositions facts ≡ true → may_suppose v ≡ true
  pub leaves : AreAllowed (version_rule v) facts (flat tree)

-- a document's own version
pub own-rule : (limit : ℕ) (rule : Rule) (facts : Option (List FactStep)) → AreFacts limit rule facts → version_rule (version facts rule) ≡ rule
own-rule limit NoneNamed None are = refl
own-rule limit WrittenEarlier None are = refl
own-rule limit ClampedStanding None are = refl
own-rule limit rule (Some steps) are = by (some_of is_of_supposition steps) refl
  where
    by : (has : Bool) → some_of is_of_supposition steps ≡ has → version_rule (version (Some steps) rule) ≡ rule
    by true e = rw e (sym are.0)
    by false e = rw e (sym are.0)

own-some : (rule : Rule) (facts : Option (List FactStep)) → is_some facts ≡ has_facts (version facts rule)
own-some NoneNamed None = refl
own-some WrittenEarlier None = refl
own-some ClampedStanding None = refl
own-some rule (Some steps) = by (some_of is_of_supposition steps) refl
  where
    by : (has : Bool) → some_of is_of_supposition steps ≡ has → true ≡ has_facts (version (Some steps) rule)
    by true e = rw e refl
    by false e = rw e refl

own-supposed : (rule : Rule) (facts : Option (List FactStep)) → may_suppose (version facts rule) ≡ has_suppositions facts
own-supposed NoneNamed None = refl
own-supposed WrittenEarlier None = refl
own-supposed ClampedStanding None = refl
own-supposed rule (Some steps) = by (some_of is_of_supposition steps) refl
  where
    by : (has : Bool) → some_of is_of_supposition steps ≡ has → may_suppose (version (Some steps) rule) ≡ has_suppositions (Some steps)
    by true e = rw e refl
    by false e = rw e refl

pub own-wanted : (rule : Rule) (facts : Option (List FactStep)) → (may_suppose (version facts rule) && not (has_suppositions facts)) ≡ false
own-wanted rule facts = rw (own-supposed rule facts) (by (has_suppositions facts))
  where
    by : (b : Bool) → (b && not b) ≡ false
    by true = refl
    by false = refl

pub read-own : (limit : ℕ) (rule : Rule) (facts : Option (List FactStep)) (tree : Tree Ending) → AreFacts limit rule facts → HasItsLeaves rule facts tree → AreReadUnder (version facts rule) facts tree
read-own limit rule facts tree are leaves = record {
  some = own-some rule facts;
  supposed = λ has. own-supposed rule facts ∙ has;
  leaves = subst (λ (r : Rule). AreAllowed r facts (flat tree)) (sym (own-rule limit rule facts are)) (leaves-allowed rule facts tree leaves);
}

-- without dominated leaves and fact lines
read-plain : (limit : ℕ) (v : Version) (rule : Rule) (facts : Option (List FactStep)) (tree : Tree Ending) → version facts rule ≡ BoundsAlone → (v ≡ EarlierNodes) ⊎ (v ≡ StandingNodes) → HasItsLeaves rule facts tree → AreReadUnder v facts tree
read-plain limit v NoneNamed None tree own (inl e) leaves = record { some = rw e refl; supposed = λ has. absurd (cc); leaves = (leaves-any limit (version_rule v) None tree tt leaves).1 }
read-plain limit v NoneNamed None tree own (inr e) leaves = record { some = rw e refl; supposed = λ has. absurd (cc); leaves = (leaves-any limit (version_rule v) None tree tt leaves).1 }
read-plain limit v WrittenEarlier None tree own lacks leaves = absurd (cc)
read-plain limit v ClampedStanding None tree own lacks leaves = absurd (cc)
read-plain limit v rule (Some steps) tree own lacks leaves = absurd (by (some_of is_of_supposition steps) refl)
  where
    by : (has : Bool) → some_of is_of_supposition steps ≡ has → ⊥
    by true e =
        let same : version (Some steps) rule ≡ Suppositions = rw e refl in
        let clash = sym same ∙ own in
        (cc)
    by false e =
        let same : version (Some steps) rule ≡ FactLines = rw e refl in
        let clash = sym same ∙ own in
        (cc)

-- without suppositions
read-facts : (limit : ℕ) (rule : Rule) (facts : Option (List FactStep)) (tree : Tree Ending) → version facts rule ≡ FactLines → AreFacts limit rule facts → HasItsLeaves rule facts tree → AreReadUnder Suppositions facts tree
read-facts limit NoneNamed None tree own are leaves = absurd (cc)
read-facts limit WrittenEarlier None tree own are leaves = absurd (cc)
read-facts limit ClampedStanding None tree own are leaves = absurd (cc)
read-facts limit rule (Some steps) tree own are leaves = record {
  some = refl;
  supposed = λ has. refl;
  leaves = subst (λ (r : Rule). AreAllowed r (Some steps) (flat tree)) are.0 (leaves-allowed rule (Some steps) tree leaves);
}

pub read-under : (limit : ℕ) (v : Version) (rule : Rule) (facts : Option (List FactStep)) (tree : Tree Ending) → AreFacts limit rule facts → HasItsLeaves rule facts tree → MayHead (version facts rule) v → AreReadUnder v facts tree
read-under limit v rule facts tree are leaves (inl own) = subst (λ (u : Version). AreReadUnder u facts tree) (sym own) (read-own limit rule facts tree are leaves)
read-under limit v rule facts tree are leaves (inr (inl (own, lacks))) = read-plain limit v rule facts tree own lacks leaves
read-under limit v rule facts tree are leaves (inr (inr (own, lacks))) = subst (λ (u : Version). AreReadUnder u facts tree) (sym lacks) (read-facts limit rule facts tree own are leaves)
