-- The longest paths to or from an instruction's moments (`Times`) are the same if each of the five is.
use Rattle.std.specs.Option.{option_eq}
use Rattle.std.proofs.Common.{ℕ, ◌≡◌, ◌&&◌, Bool, true, true≢false, refl, sym, ap, eqb, ◌∙◌, Option, Some, None, eqb-true, eq-eqb}
use Rattle.std.proofs.lemmas.Bool.{and_parts}
use Rattle.s66_facts.specs.{Times}

abbrev same : Option ℕ → Option ℕ → Bool
same o p = option_eq eqb o p

abbrev pub all_same : Times → Times → Bool
all_same s t =
    same s.issue t.issue && (same s.start t.start && (same s.free t.free && (same s.first t.first && same s.second t.second)))

option-same : (o p : Option ℕ) → same o p ≡ true → o ≡ p
option-same None None is = refl
option-same (Some p) (Some q) is = ap Some (eqb-true p q is)
option-same _ _ is = absurd (true≢false (sym is))

option-self : (o : Option ℕ) → same o o ≡ true
option-self None = refl
option-self (Some p) = eq-eqb p p refl

pub times-same : (s t : Times) → all_same s t ≡ true → s ≡ t
times-same s t is =
    let (issue, rest) = and_parts (same s.issue t.issue) (same s.start t.start && (same s.free t.free && (same s.first t.first && same s.second t.second))) is in
    let (start, rest2) = and_parts (same s.start t.start) (same s.free t.free && (same s.first t.first && same s.second t.second)) rest in
    let (free, rest3) = and_parts (same s.free t.free) (same s.first t.first && same s.second t.second) rest2 in
    let (first, second) = and_parts (same s.first t.first) (same s.second t.second) rest3 in
    ap (λ o. of o s.start s.free s.first s.second) (option-same s.issue t.issue issue)
    ∙ (ap (λ o. of t.issue o s.free s.first s.second) (option-same s.start t.start start)
    ∙ (ap (λ o. of t.issue t.start o s.first s.second) (option-same s.free t.free free)
    ∙ (ap (λ o. of t.issue t.start t.free o s.second) (option-same s.first t.first first)
    ∙ ap (λ o. of t.issue t.start t.free t.first o) (option-same s.second t.second second))))
  where
    of : Option ℕ → Option ℕ → Option ℕ → Option ℕ → Option ℕ → Times
    of issue start free first second = record { issue = issue; start = start; free = free; first = first; second = second }

pub times-self : (s : Times) → all_same s s ≡ true
times-self s = rw (option-self s.issue, option-self s.start, option-self s.free, option-self s.first, option-self s.second) refl
