-- Where the trees of lines end, and the way from a line to its child of a number.
use Rattle.std.proofs.Common.{◌≡◌, ◌⊎◌, inl, inr, ℕ, zero, suc, ◌+◌, ◌<◌, ◌≤◌, List, [], ◌∷◌, length, drop, get_or, set, None, Some, refl, sym, ap, ◌∙◌, subst, arith, eq-eqb, ne_eqb, length-set}
use Rattle.std.proofs.Common.{get_or-set_same, get_or-set_other, length-drop}
use Rattle.std.proofs.lemmas.Bool.{cases_lt, cases_eq}
use Rattle.std.proofs.lemmas.List.{drop_all, get_or_default, get_or_past}
use Rattle.s66_model.specs.{Siblings, NoMore, Unsplit, Split, Vertex, AtTerminal, AtSplit, Ending, sibling_at, node_named, first_siblings, later_siblings, forest}
use Rattle.s66_cert.specs.{tree_of_lines, trees_from, IsEnd, AreTreeEnds, end_behind, sibling_count, tree_at, IsChildAt}

-- TREES BEHIND OTHERS

later-none : (ns : List ℕ) → later_siblings {M = Ending} ns NoMore ≡ NoMore
later-none [] = refl
later-none (n ∷ ns) = refl

later-next : (n : ℕ) (ns : List ℕ) (siblings : Siblings Ending) → later_siblings (n ∷ ns) siblings ≡ later_siblings ns (later_siblings (0 ∷ []) siblings)
later-next n ns NoMore = sym (later-none ns)
later-next n ns (Unsplit ending siblings) = refl
later-next n ns (Split numbers sub siblings) = refl

module _ (first : ℕ) (ends : List ℕ) (vertices : List (Vertex Ending)) (are : AreTreeEnds first ends vertices) where
  -- a jump from a line, and from after the last
  jump-from : (place : ℕ) → first ≤ place → place < length vertices → IsEnd vertices place (get_or ends place place)
  jump-from place le lt = subst (IsEnd vertices place) (get_or_default ends place 0 place (omega (arith, lt, are.count))) (are.each place le lt)

  no-jump : (place : ℕ) → length vertices ≤ place → get_or ends place place ≡ place
  no-jump place past = get_or_past ends place place (omega (arith, past, are.count))

  jumped : (place : ℕ) (ns : List ℕ) → first ≤ place → trees_from vertices (end_behind ends (length ns) place) ≡ later_siblings ns (trees_from vertices place)
  jumped place [] le = refl
  jumped place (n ∷ ns) le = by (λ p from. jumped p ns from) (cases_lt place (length vertices))
    where
      by : ((p : ℕ) → first ≤ p → trees_from vertices (end_behind ends (length ns) p) ≡ later_siblings ns (trees_from vertices p)) → (place < length vertices) ⊎ (length vertices ≤ place) → trees_from vertices (end_behind ends (length ns) (get_or ends place place)) ≡ later_siblings (n ∷ ns) (trees_from vertices place)
      by later (inl lt) =
          let is = jump-from place le lt in
          later (get_or ends place place) (omega (arith, le, is.behind)) ∙ ap (later_siblings ns) is.others ∙ sym (later-next n ns (trees_from vertices place))
      by later (inr past) =
          let none : drop place vertices ≡ [] = drop_all place vertices past in
          ap (λ p. trees_from vertices (end_behind ends (length ns) p)) (no-jump place past) ∙ later place le ∙ rw none (later-none ns)

  pub jumped-within : (n place : ℕ) → first ≤ place → place ≤ length vertices → (place ≤ end_behind ends n place) × (end_behind ends n place ≤ length vertices)
  jumped-within zero place le within = (omega arith, within)
  jumped-within (suc n) place le within = by (λ p from fits. jumped-within n p from fits) (cases_lt place (length vertices))
    where
      by : ((p : ℕ) → first ≤ p → p ≤ length vertices → (p ≤ end_behind ends n p) × (end_behind ends n p ≤ length vertices)) → (place < length vertices) ⊎ (length vertices ≤ place) → (place ≤ end_behind ends n (get_or ends place place)) × (end_behind ends n (get_or ends place place) ≤ length vertices)
      by later (inl lt) =
          let is = jump-from place le lt in
          let rest = later (get_or ends place place) (omega (arith, le, is.behind)) is.within in
          (omega (arith, rest.0, is.behind), rest.1)
      by later (inr past) = rw (no-jump place past) (later place le within)

-- what is read of the ends
pub end-read : (ends : List ℕ) (vertices : List (Vertex Ending)) (place end : ℕ) → AreTreeEnds 0 ends vertices → place < length vertices → end ≡ get_or ends place end → IsEnd vertices place end
end-read ends vertices place end are lt read =
    subst (IsEnd vertices place) (sym (read ∙ get_or_default ends place end 0 (omega (arith, lt, are.count)))) (are.each place (omega arith) lt)

-- FROM THE LAST LINE TO THE FIRST

-- the end of a line's tree, by the ends of those after it
pub end-here : (place : ℕ) (ends : List ℕ) (vertices : List (Vertex Ending)) (vertex : Vertex Ending) → AreTreeEnds (place + 1) ends vertices → place < length vertices → drop place vertices ≡ vertex ∷ drop (place + 1) vertices →
    IsEnd vertices place (end_behind ends (sibling_count vertex) (place + 1))
end-here place ends vertices (AtTerminal ending) are lt next = record {
  behind = omega arith;
  within = omega (arith, lt);
  others = rw next refl;
}
end-here place ends vertices (AtSplit numbers) are lt next =
    let bounds = jumped-within (place + 1) ends vertices are (length numbers) (place + 1) (omega arith) (omega (arith, lt)) in
    record {
      behind = omega (arith, bounds.0);
      within = bounds.1;
      others = jumped (place + 1) ends vertices are (place + 1) numbers (omega arith) ∙ rw next refl;
    }

pub ends-more : (place end : ℕ) (ends : List ℕ) (vertices : List (Vertex Ending)) → AreTreeEnds (place + 1) ends vertices → place < length vertices → IsEnd vertices place end → AreTreeEnds place (set ends place end) vertices
ends-more place end ends vertices are lt is = record {
  count = length-set ends place end ∙ are.count;
  each = λ p le within. by p le within (cases_eq p place);
}
  where
    by : (p : ℕ) → place ≤ p → p < length vertices → (p ≡ place) ⊎ (p ≡ place → ⊥) → IsEnd vertices p (get_or (set ends place end) p 0)
    by p le within (inl same) = rw (same, get_or-set_same ends place end 0 (omega (arith, lt, are.count))) is
    by p le within (inr other) = rw (get_or-set_other ends place p end 0 other) (are.each p (omega (arith, le, other)) within)

-- FROM A LINE TO ITS CHILDREN

-- past the children of other numbers: the rest of the numbers, and where the next child is
abbrev pub IsOnTheWay : List (Vertex Ending) → ℕ → ℕ → List ℕ → ℕ → Type 0
IsOnTheWay vertices place number numbers sibling =
    (path : List ℕ) → sibling_at numbers (first_siblings numbers (trees_from vertices sibling)) (number ∷ path) ≡ node_named [] (tree_at vertices place) (number ∷ path)

sibling-found : (m number : ℕ) (ms path : List ℕ) (vertices : List (Vertex Ending)) → 0 < length vertices → m ≡ number → sibling_at (m ∷ ms) (first_siblings (m ∷ ms) (forest vertices)) (number ∷ path) ≡ node_named [] (tree_of_lines vertices) path
sibling-found m number ms path [] some e = absurd (omega (arith, some))
sibling-found m number ms path (AtTerminal ending ∷ vertices) some e = rw (eq-eqb m number e) refl
sibling-found m number ms path (AtSplit numbers ∷ vertices) some e = rw (eq-eqb m number e) refl

sibling-later : (m number : ℕ) (ms path : List ℕ) (siblings : Siblings Ending) → (m ≡ number → ⊥) → sibling_at (m ∷ ms) (first_siblings (m ∷ ms) siblings) (number ∷ path) ≡ sibling_at ms (first_siblings ms (later_siblings (0 ∷ []) siblings)) (number ∷ path)
sibling-later m number [] path NoMore other = refl
sibling-later m number (n ∷ ms) path NoMore other = refl
sibling-later m number ms path (Unsplit ending siblings) other = rw (ne_eqb m number other) refl
sibling-later m number ms path (Split numbers sub siblings) other = rw (ne_eqb m number other) refl

some-left : (vertices : List (Vertex Ending)) (sibling : ℕ) → sibling < length vertices → 0 < length (drop sibling vertices)
some-left vertices sibling lt = omega (arith, lt, length-drop sibling vertices)

module _ (vertices : List (Vertex Ending)) (place number : ℕ) where
  pub way-found : (m sibling : ℕ) (ms : List ℕ) → sibling < length vertices → m ≡ number → IsOnTheWay vertices place number (m ∷ ms) sibling → IsChildAt vertices place number (Some sibling)
  way-found m sibling ms lt e way = (lt, λ path. sym (way path) ∙ sibling-found m number ms path (drop sibling vertices) (some-left vertices sibling lt) e)

  pub way-past : (m sibling : ℕ) (ms : List ℕ) → length vertices ≤ sibling → IsOnTheWay vertices place number (m ∷ ms) sibling → IsChildAt vertices place number None
  way-past m sibling ms past way = λ path. sym (way path) ∙ ap (λ (l : List (Vertex Ending)). sibling_at (m ∷ ms) (first_siblings (m ∷ ms) (forest l)) (number ∷ path)) (drop_all sibling vertices past)

  pub way-later : (m sibling end : ℕ) (ms : List ℕ) → IsEnd vertices sibling end → (m ≡ number → ⊥) → IsOnTheWay vertices place number (m ∷ ms) sibling → IsOnTheWay vertices place number ms end
  way-later m sibling end ms is other way = λ path.
      ap (λ (siblings : Siblings Ending). sibling_at ms (first_siblings ms siblings) (number ∷ path)) is.others ∙ sym (sibling-later m number ms path (trees_from vertices sibling) other) ∙ way path

  pub way-none : (sibling : ℕ) → IsOnTheWay vertices place number [] sibling → IsChildAt vertices place number None
  way-none sibling way = λ path. sym (way path)
