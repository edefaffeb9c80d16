-- The lines of a tree with their prefixes, and the way from a line down to the one at a place (`line_at`).
use Rattle.std.proofs.Common.{◌≡◌, ℕ, zero, suc, ◌+◌, ◌-◌, ◌<◌, ◌≤◌, List, [], ◌∷◌, ◌++◌, length, drop, slice_get, None, Some, refl, sym, ap, ◌∙◌, arith, length-append, length-drop}
use Rattle.std.proofs.lemmas.List.{drop_all}
use Rattle.s66_isa.specs.{BLOCK_LIMIT}
use Rattle.s66_model.specs.{Tree, Alone, Parted, Siblings, NoMore, Unsplit, Split, Vertex, AtTerminal, AtSplit, flat_siblings, Ending, first_siblings, later_siblings, forest}
use Rattle.s66_model.proofs.Forests.{flat-forest}
use Rattle.s66_cert.specs.{siblings_placed, tree_placed, tree_of_lines, trees_from, IsEnd, tree_at, placed_at, IsBelow, IsLineAt}

-- WHAT IS AT A PLACE OF TWO LISTS

at-front : {X : Type 0} (xs ys : List X) (k : ℕ) → k < length xs → slice_get (xs ++ ys) k ≡ slice_get xs k
at-front [] ys k lt = absurd (omega (arith, lt))
at-front (x ∷ xs) ys zero lt = refl
at-front (x ∷ xs) ys (suc k) lt = at-front xs ys k (omega (arith, lt))

at-rest : {X : Type 0} (xs ys : List X) (k j : ℕ) → j ≡ length xs + k → slice_get (xs ++ ys) j ≡ slice_get ys k
at-rest [] ys k j e = let same : j ≡ k = omega (arith, e) in ap (slice_get ys) same
at-rest (x ∷ xs) ys k zero e = absurd (omega (arith, e))
at-rest (x ∷ xs) ys k (suc j) e = at-rest xs ys k j (omega (arith, e))

-- EACH SPLIT HAS AT MOST AS MANY CHILDREN AS NUMBERS

abbrev AreFew : List ℕ → Siblings Ending → Type 0
AreFew [] NoMore = Unit {0}
AreFew [] (Unsplit ending siblings) = ⊥
AreFew [] (Split numbers sub siblings) = ⊥
AreFew (n ∷ ns) NoMore = Unit {0}
AreFew (n ∷ ns) (Unsplit ending siblings) = AreFew ns siblings
AreFew (n ∷ ns) (Split numbers sub siblings) = AreFew numbers sub × AreFew ns siblings

-- below each of these trees
abbrev HaveFew : Siblings Ending → Type 0
HaveFew NoMore = Unit {0}
HaveFew (Unsplit ending siblings) = HaveFew siblings
HaveFew (Split numbers sub siblings) = AreFew numbers sub × HaveFew siblings

first-few : (ns : List ℕ) (siblings : Siblings Ending) → HaveFew siblings → AreFew ns (first_siblings ns siblings)
first-few [] siblings h = tt
first-few (n ∷ ns) NoMore h = tt
first-few (n ∷ ns) (Unsplit ending siblings) h = first-few ns siblings h
first-few (n ∷ ns) (Split numbers sub siblings) h = (h.0, first-few ns siblings h.1)

later-few : (ns : List ℕ) (siblings : Siblings Ending) → HaveFew siblings → HaveFew (later_siblings ns siblings)
later-few [] siblings h = h
later-few (n ∷ ns) NoMore h = tt
later-few (n ∷ ns) (Unsplit ending siblings) h = later-few ns siblings h
later-few (n ∷ ns) (Split numbers sub siblings) h = later-few ns siblings h.1

forest-few : (vertices : List (Vertex Ending)) → HaveFew (forest vertices)
forest-few [] = tt
forest-few (AtTerminal ending ∷ vertices) = forest-few vertices
forest-few (AtSplit numbers ∷ vertices) = (first-few numbers (forest vertices) (forest-few vertices), later-few numbers (forest vertices) (forest-few vertices))

placed-count : (prefix ns : List ℕ) (siblings : Siblings Ending) → AreFew ns siblings → length (siblings_placed prefix ns siblings) ≡ length (flat_siblings siblings)
placed-count prefix [] NoMore h = refl
placed-count prefix [] (Unsplit ending siblings) h = absurd h
placed-count prefix [] (Split numbers sub siblings) h = absurd h
placed-count prefix (n ∷ ns) NoMore h = refl
placed-count prefix (n ∷ ns) (Unsplit ending siblings) h = omega (arith, placed-count prefix ns siblings h)
placed-count prefix (n ∷ ns) (Split numbers sub siblings) h =
    omega (
      arith,
      length-append (siblings_placed (prefix ++ n ∷ []) numbers sub) (siblings_placed prefix ns siblings),
      length-append (flat_siblings sub) (flat_siblings siblings),
      placed-count (prefix ++ n ∷ []) numbers sub h.0,
      placed-count prefix ns siblings h.1,
    )

-- THE FIRST TREE OF SOME, AND THOSE BEHIND IT

abbrev IsFirst : List (Vertex Ending) → Siblings Ending → (prefix : List ℕ) (m : ℕ) (ms : List ℕ) → Type 0
IsFirst vertices behind prefix m ms =
    (siblings_placed prefix (m ∷ ms) (first_siblings (m ∷ ms) (forest vertices)) ≡ tree_placed (prefix ++ m ∷ []) (tree_of_lines vertices) ++ siblings_placed prefix ms (first_siblings ms behind))
    × (length (tree_placed (prefix ++ m ∷ []) (tree_of_lines vertices)) + length (flat_siblings behind) ≡ length vertices)

first-parts : (vertices : List (Vertex Ending)) (behind : Siblings Ending) (prefix : List ℕ) (m : ℕ) (ms : List ℕ) → 0 < length vertices → behind ≡ later_siblings (0 ∷ []) (forest vertices) → IsFirst vertices behind prefix m ms
first-parts [] behind prefix m ms some same = absurd (omega (arith, some))
first-parts (AtTerminal ending ∷ vertices) behind prefix m ms some same =
    let count = ap (λ (siblings : Siblings Ending). length (flat_siblings siblings)) same in
    (rw same refl, omega (arith, count, ap length (flat-forest vertices)))
first-parts (AtSplit numbers ∷ vertices) behind prefix m ms some same =
    let sub : Siblings Ending = first_siblings numbers (forest vertices) in
    let count = ap (λ (siblings : Siblings Ending). length (flat_siblings siblings)) same in
    let few = placed-count (prefix ++ m ∷ []) numbers sub (first-few numbers (forest vertices) (forest-few vertices)) in
    let whole = ap length (flat-forest (AtSplit numbers ∷ vertices)) in
    (rw same refl, omega (arith, count, few, whole, length-append (flat_siblings sub) (flat_siblings (later_siblings numbers (forest vertices)))))

-- by where it ends
at-end : (vertices : List (Vertex Ending)) (sibling end : ℕ) (prefix : List ℕ) (m : ℕ) (ms : List ℕ) → sibling < length vertices → IsEnd vertices sibling end →
    (siblings_placed prefix (m ∷ ms) (first_siblings (m ∷ ms) (trees_from vertices sibling)) ≡ tree_placed (prefix ++ m ∷ []) (tree_at vertices sibling) ++ siblings_placed prefix ms (first_siblings ms (trees_from vertices end)))
    × (length (tree_placed (prefix ++ m ∷ []) (tree_at vertices sibling)) ≡ end - sibling)
at-end vertices sibling end prefix m ms lt is =
    let parts = first-parts (drop sibling vertices) (trees_from vertices end) prefix m ms (omega (arith, lt, length-drop sibling vertices)) is.others in
    let behind = ap length (flat-forest (drop end vertices)) in
    (parts.0, omega (arith, parts.1, behind, length-drop sibling vertices, length-drop end vertices, is.behind, is.within))

-- DOWN TO A PLACE

-- past the children whose trees end before it: the rest of the numbers, and where the next child is
pub record IsOnTheWay (vertices : List (Vertex Ending)) (here place : ℕ) (numbers : List ℕ) (sibling : ℕ) : Type 0 where
  pub below : here < sibling
  pub before : sibling ≤ place
  pub rest : (prefix : List ℕ) → slice_get (siblings_placed prefix numbers (first_siblings numbers (trees_from vertices sibling))) (place - sibling) ≡ placed_at vertices here place prefix

module _ (vertices : List (Vertex Ending)) (here place m sibling : ℕ) (ms : List ℕ) (way : IsOnTheWay vertices here place (m ∷ ms) sibling) where
  pub way-past : length vertices ≤ sibling → IsBelow vertices here place None
  way-past past prefix =
      sym (way.rest prefix) ∙ ap (λ (lines : List (Vertex Ending)). slice_get (siblings_placed prefix (m ∷ ms) (first_siblings (m ∷ ms) (forest lines))) (place - sibling)) (drop_all sibling vertices past)

  pub way-found : (end : ℕ) → sibling < length vertices → IsEnd vertices sibling end → place < end → IsBelow vertices here place (Some (m, sibling))
  way-found end lt is inside = (
    way.below,
    way.before,
    lt,
    λ prefix. (let parts = at-end vertices sibling end prefix m ms lt is in
        let within : place - sibling < length (tree_placed (prefix ++ m ∷ []) (tree_at vertices sibling)) = omega (arith, parts.1, inside, way.before) in
        sym (way.rest prefix) ∙ ap (λ lines. slice_get lines (place - sibling)) parts.0
        ∙ at-front (tree_placed (prefix ++ m ∷ []) (tree_at vertices sibling)) (siblings_placed prefix ms (first_siblings ms (trees_from vertices end))) (place - sibling) within),
  )

  pub way-later : (end : ℕ) → sibling < length vertices → IsEnd vertices sibling end → end ≤ place → IsOnTheWay vertices here place ms end
  way-later end lt is past = record {
    below = omega (arith, way.below, is.behind);
    before = past;
    rest = λ prefix.
        let parts = at-end vertices sibling end prefix m ms lt is in
        let tree = tree_placed (prefix ++ m ∷ []) (tree_at vertices sibling) in
        let others = siblings_placed prefix ms (first_siblings ms (trees_from vertices end)) in
        let sum : place - sibling ≡ length tree + (place - end) = omega (arith, parts.1, is.behind, past) in
        sym (at-rest tree others (place - end) (place - sibling) sum) ∙ ap (λ lines. slice_get lines (place - sibling)) (sym parts.0) ∙ way.rest prefix;
  }

-- the line itself
pub line-here : (vertices : List (Vertex Ending)) (here place : ℕ) (prefix : List ℕ) (vertex : Vertex Ending) → here ≡ place → drop here vertices ≡ vertex ∷ drop (here + 1) vertices → placed_at vertices here place prefix ≡ Some (prefix, vertex)
line-here vertices here place prefix (AtTerminal ending) same next = let none : place - here ≡ 0 = omega (arith, same) in rw (none, next) refl
line-here vertices here place prefix (AtSplit numbers) same next = let none : place - here ≡ 0 = omega (arith, same) in rw (none, next) refl

-- NO PREFIX IS SHORTER THAN THAT OF ITS TREE

abbrev AreLong : ℕ → List (List ℕ × Vertex Ending) → Type 0
AreLong low lines = (k : ℕ) (line : List ℕ × Vertex Ending) → slice_get lines k ≡ Some line → low ≤ length line.0

none-long : (low : ℕ) → AreLong low []
none-long low k line is = absurd (cc)

long-cons : (low : ℕ) (x : List ℕ × Vertex Ending) (xs : List (List ℕ × Vertex Ending)) → low ≤ length x.0 → AreLong low xs → AreLong low (x ∷ xs)
long-cons low x xs le are zero line is = let same : x ≡ line = cc in omega (arith, le, ap (λ (l : List ℕ × Vertex Ending). length l.0) same)
long-cons low x xs le are (suc k) line is = are k line is

long-append : (low : ℕ) (xs ys : List (List ℕ × Vertex Ending)) → AreLong low xs → AreLong low ys → AreLong low (xs ++ ys)
long-append low [] ys are others = others
long-append low (x ∷ xs) ys are others =
    long-cons low x (xs ++ ys) (are 0 x refl) (long-append low xs ys (λ k line is. are (suc k) line is) others)

siblings-long : (prefix ns : List ℕ) (low : ℕ) (siblings : Siblings Ending) → low ≤ length prefix → AreLong low (siblings_placed prefix ns siblings)
siblings-long prefix [] low siblings le = none-long low
siblings-long prefix (n ∷ ns) low NoMore le = none-long low
siblings-long prefix (n ∷ ns) low (Unsplit ending siblings) le =
    long-cons low (prefix ++ n ∷ [], AtTerminal ending) (siblings_placed prefix ns siblings) (omega (arith, le, length-append prefix (n ∷ []))) (siblings-long prefix ns low siblings le)
siblings-long prefix (n ∷ ns) low (Split numbers sub siblings) le =
    let longer : low ≤ length (prefix ++ n ∷ []) = omega (arith, le, length-append prefix (n ∷ [])) in
    long-cons low (prefix ++ n ∷ [], AtSplit numbers) (siblings_placed (prefix ++ n ∷ []) numbers sub ++ siblings_placed prefix ns siblings) longer
    (long-append low (siblings_placed (prefix ++ n ∷ []) numbers sub) (siblings_placed prefix ns siblings) (siblings-long (prefix ++ n ∷ []) numbers low sub longer) (siblings-long prefix ns low siblings le))

tree-long : (prefix : List ℕ) (tree : Tree Ending) → AreLong (length prefix) (tree_placed prefix tree)
tree-long prefix (Alone ending) = long-cons (length prefix) (prefix, AtTerminal ending) [] (omega arith) (none-long (length prefix))
tree-long prefix (Parted numbers siblings) = long-cons (length prefix) (prefix, AtSplit numbers) (siblings_placed prefix numbers siblings) (omega arith) (siblings-long prefix numbers (length prefix) siblings (omega arith))

-- ALL THE WAY

module _ (vertices : List (Vertex Ending)) (place : ℕ) where
  -- on the way to the place, with this path from the root
  pub record IsUnder (here : ℕ) (path : List ℕ) : Type 0 where
    pub within : here < length vertices
    pub before : here ≤ place
    pub same : placed_at vertices here place path ≡ slice_get (tree_placed [] (tree_of_lines vertices)) place

  pub under-root : 0 < length vertices → IsUnder 0 []
  under-root some =
      let all : place - 0 ≡ place = omega arith in
      record { within = some; before = omega arith; same = ap (slice_get (tree_placed [] (tree_of_lines vertices))) all }

  pub under-next : (here number child : ℕ) (path : List ℕ) → IsUnder here path → IsBelow vertices here place (Some (number, child)) → IsUnder child (path ++ number ∷ [])
  under-next here number child path under is = record { within = is.2; before = is.1; same = sym (is.3 path) ∙ under.same }

  pub under-none : (here : ℕ) (path rest : List ℕ) → IsUnder here path → IsBelow vertices here place None → IsLineAt (tree_of_lines vertices) place None rest
  under-none here path rest under none line is = absurd (let clash = sym (none path) ∙ under.same ∙ is in (cc))

  pub under-full : (here number child : ℕ) (path rest : List ℕ) → IsUnder here path → IsBelow vertices here place (Some (number, child)) → BLOCK_LIMIT ≤ length path → IsLineAt (tree_of_lines vertices) place None rest
  under-full here number child path rest under is full line at =
      let next = under-next here number child path under is in
      omega (arith, full, length-append path (number ∷ []), tree-long (path ++ number ∷ []) (tree_at vertices child) (place - child) line (next.same ∙ at))

  pub under-here : (here : ℕ) (path : List ℕ) (vertex : Vertex Ending) → IsUnder here path → place ≤ here → drop here vertices ≡ vertex ∷ drop (here + 1) vertices → IsLineAt (tree_of_lines vertices) place (Some vertex) path
  under-here here path vertex under past next = sym under.same ∙ line-here vertices here place path vertex (omega (arith, past, under.before)) next
