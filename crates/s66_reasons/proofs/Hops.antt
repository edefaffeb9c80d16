-- The next arc of a longest path is found number by number, and its rows come before those of the arcs after it.
use Rattle.std.specs.Option.{option_or}
use Rattle.std.proofs.Common.{ℕ, suc, ◌≡◌, ◌∙◌, ◌+◌, ◌-◌, ◌<◌, true, false, true≢false, List, [], ◌∷◌, ◌++◌, Option, None, Some, ap, append_assoc, arith, refl, sym, is_some, append-nil}
use Rattle.std.proofs.lemmas.Grind.{flat_map-append}
use Rattle.s66_isa.specs.{rising}
use Rattle.s66_isa.proofs.Lists.{rising-next}
use Rattle.s66_moments.specs.{Moment, moments_among, moments_of}
use Rattle.s66_cert.specs.{Document}
use Rattle.s66_checker.specs.{problem_of}
use Rattle.s66_reasons.specs.{Hop, row_text, rows_text, first_hop, hop_and, hop_rows, hop_to, hops_from, next_hop, path_rows}

-- THE FIRST OF SEVERAL

or-assoc : (o p q : Option Hop) → option_or (option_or o p) q ≡ option_or o (option_or p q)
or-assoc None p q = refl
or-assoc (Some hop) p q = refl

first-some : (o p : Option Hop) → is_some o ≡ true → o ≡ option_or o p
first-some None p h = absurd (true≢false (sym h))
first-some (Some hop) p h = refl

first-none : (o p : Option Hop) → is_some o ≡ false → p ≡ option_or o p
first-none None p h = refl
first-none (Some hop) p h = absurd (true≢false h)

pub or-some : (result o p : Option Hop) → result ≡ o → is_some result ≡ true → result ≡ option_or o p
or-some result o p is some = first-some result p some ∙ ap (λ (q : Option Hop). option_or q p) is

pub or-nothing : (result o p : Option Hop) → result ≡ o → is_some result ≡ false → p ≡ option_or o p
or-nothing result o p is none = first-none result p none ∙ ap (λ (q : Option Hop). option_or q p) is

first-append : (d : Document) (left : ℕ) (e : Moment) (fs gs : List Moment) → first_hop d left e (fs ++ gs) ≡ option_or (first_hop d left e fs) (first_hop d left e gs)
first-append d left e [] gs = refl
first-append d left e (f ∷ fs) gs =
    ap (λ (o : Option Hop). option_or (hop_to d left e f) o) (first-append d left e fs gs)
    ∙ sym (or-assoc (hop_to d left e f) (first_hop d left e fs) (first_hop d left e gs))

-- of the moments of the numbers from p + 1 to count
abbrev pub hop_past : Document → (left : ℕ) → Moment → (count p : ℕ) → Option Hop
hop_past d left e count p = first_hop d left e (moments_among (problem_of d) (rising (count - p) (p + 1)))

pub past-more : (d : Document) (left : ℕ) (e : Moment) (count p : ℕ) → p < count →
    hop_past d left e count p ≡ option_or (first_hop d left e (moments_of (problem_of d) (p + 1))) (hop_past d left e count (p + 1))
past-more d left e count p within =
    ap (λ ns. first_hop d left e (moments_among (problem_of d) ns)) (rising-next count p within)
    ∙ first-append d left e (moments_of (problem_of d) (p + 1)) (moments_among (problem_of d) (rising (count - (p + 1)) (p + 1 + 1)))

-- THE ROWS OF ARCS

-- those of the next arc
hops-more : (d : Document) (number left k : ℕ) (e : Moment) (hop : Hop) (old new : List ℕ) → next_hop d left e ≡ Some hop →
    new ≡ old ++ rows_text (hop_rows d (number + hop.wait) e hop) →
    new ++ rows_text (path_rows d (number + hop.wait) hop.to (hops_from d k (left - hop.wait) hop.to)) ≡ old ++ rows_text (path_rows d number e (hops_from d (suc k) left e))
hops-more d number left k e hop old new next pushed =
    let after : Hop → List Hop = λ (h : Hop). hops_from d k (left - h.wait) h.to in
    let row = hop_rows d (number + hop.wait) e hop in
    let rest = path_rows d (number + hop.wait) hop.to (after hop) in
    ap (λ xs. xs ++ rows_text rest) pushed ∙ append_assoc old (rows_text row) (rows_text rest)
    ∙ ap (λ xs. old ++ xs) (sym (flat_map-append row_text row rest))
    ∙ ap (λ (o : Option Hop). old ++ rows_text (path_rows d number e (hop_and o after))) (sym next)

-- there is none
hops-none : (d : Document) (number left k : ℕ) (e : Moment) (old : List ℕ) → next_hop d left e ≡ None →
    old ≡ old ++ rows_text (path_rows d number e (hops_from d (suc k) left e))
hops-none d number left k e old next =
    let after : Hop → List Hop = λ (h : Hop). hops_from d k (left - h.wait) h.to in
    sym (append-nil old) ∙ ap (λ (o : Option Hop). old ++ rows_text (path_rows d number e (hop_and o after))) (sym next)

-- after some of at most so many
pub hops-at : (d : Document) (most step number left : ℕ) (e : Moment) (hop : Hop) (old new : List ℕ) → step < most → next_hop d left e ≡ Some hop →
    new ≡ old ++ rows_text (hop_rows d (number + hop.wait) e hop) →
    new ++ rows_text (path_rows d (number + hop.wait) hop.to (hops_from d (most - (step + 1)) (left - hop.wait) hop.to))
    ≡ old ++ rows_text (path_rows d number e (hops_from d (most - step) left e))
hops-at d most step number left e hop old new within next pushed =
    let more : suc (most - (step + 1)) ≡ most - step = omega (arith, within) in
    hops-more d number left (most - (step + 1)) e hop old new next pushed
    ∙ ap (λ k. old ++ rows_text (path_rows d number e (hops_from d k left e))) more

pub none-at : (d : Document) (most step number left : ℕ) (e : Moment) (old : List ℕ) → step < most → next_hop d left e ≡ None →
    old ≡ old ++ rows_text (path_rows d number e (hops_from d (most - step) left e))
none-at d most step number left e old within next =
    let more : suc (most - (step + 1)) ≡ most - step = omega (arith, within) in
    hops-none d number left (most - (step + 1)) e old next
    ∙ ap (λ k. old ++ rows_text (path_rows d number e (hops_from d k left e))) more
