-- One turn of a walk over the tree that is made, by what is then still to come.
use Rattle.std.proofs.Common.{ℕ, ◌+◌, ◌-◌, ◌*◌, ◌≤◌, ◌<◌, ◌≡◌, ◌==◌, ◌⊎◌, true, false, get_or, reverse, List, [], ◌∷◌, ◌++◌, length, map, refl, sym, ap, arith, inl, inr, ◌∙◌, length-append, subst}
use Rattle.std.proofs.Common.{Option, None, eqb-true, length-take}
use Rattle.std.proofs.lemmas.List.{reverse-append}
use Rattle.s66_isa.specs.{BLOCK_LIMIT, Among, weigh, numbers_in}
use Rattle.s66_isa.proofs.Lists.{weigh-append, among-front, among-rest}
use Rattle.s66_isa.proofs.Sets.{numbers_in-few}
use Rattle.s66_model.specs.{Rule, WrittenEarlier, Problem, IsBeginning, is_ready, ready, Tree, Alone, Parted, Vertex, AtTerminal, AtSplit, TreeHolds, flat, splits, split_at, tree_values, Terminal}
use Rattle.s66_model.specs.{Frontier, Passed, whole_at}
use Rattle.s66_model.proofs.Remaining.{step-begins, ready-among}
use Rattle.s66_time.proofs.LongestBeginning.{beginning-few}
use Rattle.s66_node.specs.{WholeOrder, front, TreeGrows, tree_prefixes, OpenSplit, Span, AreOpen, FramesStand, IsDue, IsLeft, IsKnown, IsLeast, IsBeingMade, GrowsFor, AreOfSplits, NameSplits, lefts}
use Rattle.s66_node.proofs.Nodes.{get_or-front, get_or-last}
use Rattle.s66_node.proofs.Frontiers.{spent-split, spent-terminal}
use Rattle.s66_node.proofs.Leasts.{among-either}
use Rattle.s66_node.proofs.Growing.{front-push, grows-root, grows-up, grows-terminal, grows-split, grows-done, tree-holds, splits-count}

pub not-empty : {X : Type 0} (xs : List X) → (length xs == 0) ≡ false → 0 < length xs
not-empty [] h = absurd cc
not-empty (x ∷ xs) h = omega arith

pub is-empty : {X : Type 0} (xs : List X) → (length xs == 0) ≡ true → xs ≡ []
is-empty [] h = refl
is-empty (x ∷ xs) h = absurd (omega (arith, eqb-true (length (x ∷ xs)) 0 h))

pub none-empty : {X : Type 0} (xs : List X) → ¬ (0 < length xs) → xs ≡ []
none-empty [] h = refl
none-empty (x ∷ xs) h = absurd (h (omega arith))

lefts-push : (frames : List OpenSplit) (f : OpenSplit) → lefts (frames ++ f ∷ []) ≡ numbers_in f.left ∷ lefts frames
lefts-push frames f = ap (map (λ (g : OpenSplit). numbers_in g.left)) (reverse-append frames (f ∷ []))

length-front : (xs : List ℕ) → length xs ≤ length (front xs) + 1
length-front xs = omega (arith, length-take (length xs - 1) xs)

-- with no frame it is nowhere
nowhere : (rule : Rule) (b : Problem) (best : Span) (root at : List ℕ) (lines : List (Vertex Terminal)) (prefixes found cuts : List (List ℕ)) → GrowsFor rule b best root (front at) [] lines prefixes found cuts → GrowsFor rule b best root at [] lines prefixes found cuts
nowhere rule b best root at lines prefixes found cuts g [] h = g [] tt
nowhere rule b best root at lines prefixes found cuts g (siblings ∷ rests) h = absurd h

-- frames stand while more nodes are made
frames-more : (made : List (List ℕ)) (more at : List ℕ) (frames : List OpenSplit) → FramesStand made at frames → FramesStand (made ++ more ∷ []) at frames
frames-more made more at [] h = tt
frames-more made more at (f ∷ frames) h =
    (omega (arith, h.0, length-append made (more ∷ [])), get_or-front made more f.node [] h.0 ∙ h.1, frames-more made more (front at) frames h.2)

-- WHAT MAY BE NAMED

-- a prefix that is split may be named, beside what might be before
names-split : (rule : Rule) (cuts names more : List (List ℕ)) (now : List ℕ) → AreOfSplits rule cuts names → ((name : List ℕ) → Among name more → (name ≡ now) ⊎ Among name names) → AreOfSplits rule (cuts ++ now ∷ []) more
names-split rule cuts names more now are new by name among =
    elim (new name among) [
      | inl is ↦ among-rest name cuts (now ∷ []) (inl is)
      | inr before ↦ among-front name cuts (now ∷ []) (are by name before)
    ]

-- its line names nothing
lines-split : (rule : Rule) (cuts : List (List ℕ)) (now numbers : List ℕ) (lines : List (Vertex Terminal)) → NameSplits rule cuts lines → NameSplits rule (cuts ++ now ∷ []) (lines ++ AtSplit numbers ∷ [])
lines-split rule cuts now numbers lines have by name among =
    among-either (AtTerminal (Passed name)) lines (AtSplit numbers ∷ []) (Among name (cuts ++ now ∷ []))
    (λ before. among-front name cuts (now ∷ []) (have by name before))
    (λ here. elim here [ inl is ↦ absurd cc | inr none ↦ absurd none ]) among

-- the line of one that isn't split names what may be named
lines-terminal : (rule : Rule) (cuts names : List (List ℕ)) (terminal : Terminal) (lines : List (Vertex Terminal)) → AreOfSplits rule cuts names → IsKnown rule names terminal → NameSplits rule cuts lines → NameSplits rule cuts (lines ++ AtTerminal terminal ∷ [])
lines-terminal rule cuts names terminal lines are known have by name among =
    among-either (AtTerminal (Passed name)) lines (AtTerminal terminal ∷ []) (Among name cuts) (have by name)
    (λ here. elim here [ inl is ↦ are by name (known by name (let e : terminal ≡ Passed name = cc in e)) | inr none ↦ absurd none ]) among

parted : (name : List ℕ) (tree : Tree Terminal) → 1 ≤ splits tree → ¬ (tree ≡ Alone (Passed name))
parted name (Alone terminal) some is = absurd (omega (arith, some))
parted name (Parted numbers siblings) some is = cc

module _ (rule : Rule) (b : Problem) (best : Span) (allowance : ℕ) (root : List ℕ) where
  pub walk-root : (frame : OpenSplit) (before names : List (List ℕ)) → (rule ≡ WrittenEarlier → before ≡ []) → ((name : List ℕ) → Among name names → (name ≡ root) ⊎ Among name before) → 1 ≤ allowance → IsBeginning b.block root → IsDue b best.high root → frame.node ≡ 0 → numbers_in frame.left ≡ ready b.block root → IsBeingMade rule b best allowance root root (frame ∷ []) (AtSplit (ready b.block root) ∷ []) (root ∷ []) 1 None names
  walk-root frame before names empty new le begins due first is =
      let stand : AreOpen b.block root (ready b.block root ∷ []) = (begins, (λ n among. ready-among b.block root n among), tt) in
      let grown = grows-root b.block (IsDue b best.high) (IsLeft rule b best) whole_at root due in
      record {
        standing = subst (λ ns. AreOpen b.block root (ns ∷ [])) (sym is) stand;
        made = (omega (arith, first), ap (λ i. get_or (root ∷ []) i []) first, tt);
        depth = omega arith;
        within = le;
        some = omega arith;
        spent = λ among. absurd (elim among [ inl is ↦ absurd cc | inr none ↦ none ]);
        grows = ([], root ∷ [], subst (λ ns. GrowsFor rule b best root root (ns ∷ []) (AtSplit (ready b.block root) ∷ []) (root ∷ []) [] (root ∷ [])) (sym is) grown, refl, refl, names-split rule [] before names root (λ by name among. absurd (subst (Among name) (empty by) among)) new, lines-split rule [] root (ready b.block root) [] (λ by name none. absurd none));
      }

  module _ (at : List ℕ) (old fs : List OpenSplit) (f : OpenSplit) (lines : List (Vertex Terminal)) (prefixes : List (List ℕ)) (count : ℕ) (least : Option WholeOrder) (names : List (List ℕ)) (walk : IsBeingMade rule b best allowance root at old lines prefixes count least names) (popped : old ≡ fs ++ f ∷ []) where
    stands : AreOpen b.block at (numbers_in f.left ∷ lefts fs)
    stands = subst (AreOpen b.block at) (ap lefts popped ∙ lefts-push fs f) walk.standing

    made : FramesStand prefixes at (f ∷ reverse fs)
    made = subst (FramesStand prefixes at) (ap reverse popped ∙ reverse-append fs (f ∷ [])) walk.made

    -- the node of the top frame is that of the prefix
    pub frame-within : f.node < length prefixes
    frame-within = made.0

    pub frame-over : get_or prefixes f.node [] ≡ at
    frame-over = made.1

    deep : length root + length fs ≤ length at
    deep = omega (arith, walk.depth, ap length popped, length-append fs (f ∷ []))

    -- what goes on is ready
    pub next-ready : (n : ℕ) (ns : List ℕ) → numbers_in f.left ≡ n ∷ ns → is_ready b.block at n ≡ true
    next-ready n ns is = stands.1 n (subst (Among n) (sym is) (inl refl))

    next-begins : (n : ℕ) (ns : List ℕ) → numbers_in f.left ≡ n ∷ ns → IsBeginning b.block (at ++ n ∷ [])
    next-begins n ns is = step-begins b.block at n stands.0 (next-ready n ns is)

    -- there is room for a frame
    pub next-few : (n : ℕ) (ns : List ℕ) → numbers_in f.left ≡ n ∷ ns → length at < length b.block
    next-few n ns is = omega (arith, beginning-few b.block (at ++ n ∷ []) (next-begins n ns is), length-append at (n ∷ []))

    pub next-room : length fs ≤ length at
    next-room = omega (arith, deep)

    module _ (n : ℕ) (f2 : OpenSplit) (is : numbers_in f.left ≡ n ∷ numbers_in f2.left) (same_node : f2.node ≡ f.node) where
      still : AreOpen b.block at (lefts (fs ++ f2 ∷ []))
      still =
          subst (AreOpen b.block at) (sym (lefts-push fs f2)) (stands.0, (λ m among. stands.1 m (subst (Among m) (sym is) (inr among))), stands.2)

      still-made : FramesStand (prefixes ++ (at ++ n ∷ []) ∷ []) at (f2 ∷ reverse fs)
      still-made =
          subst (λ i. (i < length (prefixes ++ (at ++ n ∷ []) ∷ [])) × (get_or (prefixes ++ (at ++ n ∷ []) ∷ []) i [] ≡ at) × FramesStand (prefixes ++ (at ++ n ∷ []) ∷ []) (front at) (reverse fs)) (sym same_node)
          (frames-more prefixes (at ++ n ∷ []) at (f ∷ reverse fs) made)

      was : (found cuts : List (List ℕ)) → GrowsFor rule b best root at (lefts old) lines prefixes found cuts → GrowsFor rule b best root at ((n ∷ numbers_in f2.left) ∷ lefts fs) lines prefixes found cuts
      was found cuts g =
          let e : lefts old ≡ (n ∷ numbers_in f2.left) ∷ lefts fs = ap lefts popped ∙ (lefts-push fs f ∙ ap (λ ns. ns ∷ lefts fs) is) in
          subst (λ x. GrowsFor rule b best root at x lines prefixes found cuts) e g

      -- a child that isn't split
      pub walk-terminal : (new : List OpenSplit) (more : List (Vertex Terminal)) (prefixes2 : List (List ℕ)) (least2 : Option WholeOrder) (names2 : List (List ℕ)) (terminal : Terminal) (back : List ℕ) → (rule ≡ WrittenEarlier → names2 ≡ names) → IsKnown rule names terminal → new ≡ fs ++ f2 ∷ [] → back ≡ at → IsLeft rule b best (at ++ n ∷ []) terminal → more ≡ lines ++ AtTerminal terminal ∷ [] → prefixes2 ≡ prefixes ++ (at ++ n ∷ []) ∷ [] → ((found : List (List ℕ)) → IsLeast b found least → IsLeast b (found ++ whole_at (at ++ n ∷ []) terminal) least2) → (terminal ≡ Frontier → ¬ (count < allowance)) → IsBeingMade rule b best allowance root back new more prefixes2 count least2 names2
      walk-terminal new more prefixes2 least2 names2 terminal back same known pushed back_is holds lines_are prefixes_are lower left =
          let here = at ++ n ∷ [] in
          let (found, cuts, g, count_is, l, are, have) = walk.grows in
          let g2 = grows-terminal b.block (IsDue b best.high) (IsLeft rule b best) whole_at root at n (numbers_in f2.left) (lefts fs) (record { vertices = lines; prefixes = prefixes; found = found; cuts = cuts }) terminal holds (was found cuts g) in
          let g3 = subst (λ x. GrowsFor rule b best root at x (lines ++ AtTerminal terminal ∷ []) (prefixes ++ here ∷ []) (found ++ whole_at here terminal) cuts) (sym (lefts-push fs f2)) g2 in
          rw (back_is, pushed, lines_are, prefixes_are)
          (record {
            standing = still;
            made = subst (FramesStand (prefixes ++ here ∷ []) at) (sym (reverse-append fs (f2 ∷ []))) still-made;
            depth = omega (arith, deep, length-append fs (f2 ∷ []));
            within = walk.within;
            some = walk.some;
            spent = spent-terminal allowance count lines walk.spent terminal walk.within left;
            grows = (found ++ whole_at here terminal, cuts, g3, count_is, lower found l, (λ by name among. are by name (subst (Among name) (same by) among)), lines-terminal rule cuts names terminal lines are known have);
          })

      -- a child that is split
      pub walk-split : (f3 : OpenSplit) (new : List OpenSplit) (more : List (Vertex Terminal)) (prefixes2 : List (List ℕ)) (names2 : List (List ℕ)) (now : List ℕ) → ((name : List ℕ) → Among name names2 → (name ≡ at ++ n ∷ []) ⊎ Among name names) → new ≡ (fs ++ f2 ∷ []) ++ f3 ∷ [] → now ≡ at ++ n ∷ [] → IsDue b best.high (at ++ n ∷ []) → numbers_in f3.left ≡ ready b.block (at ++ n ∷ []) → f3.node ≡ length prefixes → more ≡ lines ++ AtSplit (ready b.block (at ++ n ∷ [])) ∷ [] → prefixes2 ≡ prefixes ++ (at ++ n ∷ []) ∷ [] → count < allowance → IsBeingMade rule b best allowance root now new more prefixes2 (count + 1) least names2
      walk-split f3 new more prefixes2 names2 now fresh pushed next due numbers_are last lines_are prefixes_are lt =
          let here = at ++ n ∷ [] in
          let (found, cuts, g, count_is, l, are, have) = walk.grows in
          let g1 = grows-split b.block (IsDue b best.high) (IsLeft rule b best) whole_at root at n (numbers_in f2.left) (ready b.block here) (lefts fs) (record { vertices = lines; prefixes = prefixes; found = found; cuts = cuts }) due refl (was found cuts g) in
          let frames_are : lefts ((fs ++ f2 ∷ []) ++ f3 ∷ []) ≡ ready b.block here ∷ (numbers_in f2.left ∷ lefts fs) = lefts-push (fs ++ f2 ∷ []) f3 ∙ (ap (λ ns. ns ∷ lefts (fs ++ f2 ∷ [])) numbers_are ∙ ap (λ ns. ready b.block here ∷ ns) (lefts-push fs f2)) in
          let back : AreOpen b.block (front here) (numbers_in f2.left ∷ lefts fs) = subst (λ x. AreOpen b.block x (numbers_in f2.left ∷ lefts fs)) (sym (front-push at n)) (subst (AreOpen b.block at) (lefts-push fs f2) still) in
          let stand : AreOpen b.block here (ready b.block here ∷ (numbers_in f2.left ∷ lefts fs)) = (next-begins n (numbers_in f2.left) is, (λ m among. ready-among b.block here m among), back) in
          let all = prefixes ++ here ∷ [] in
          let under : FramesStand all (front here) (f2 ∷ reverse fs) = subst (λ x. FramesStand all x (f2 ∷ reverse fs)) (sym (front-push at n)) still-made in
          let top : FramesStand all here (f3 ∷ (f2 ∷ reverse fs)) = (omega (arith, last, length-append prefixes (here ∷ [])), ap (λ i. get_or all i []) last ∙ get_or-last prefixes here [], under) in
          let turned : reverse ((fs ++ f2 ∷ []) ++ f3 ∷ []) ≡ f3 ∷ (f2 ∷ reverse fs) = reverse-append (fs ++ f2 ∷ []) (f3 ∷ []) ∙ ap (λ gs. f3 ∷ gs) (reverse-append fs (f2 ∷ [])) in
          rw (next, pushed, lines_are, prefixes_are)
          (record {
            standing = subst (AreOpen b.block here) (sym frames_are) stand;
            made = subst (FramesStand all here) (sym turned) top;
            depth = omega (arith, deep, length-append (fs ++ f2 ∷ []) (f3 ∷ []), length-append fs (f2 ∷ []), length-append at (n ∷ []));
            within = omega (arith, lt);
            some = omega arith;
            spent = spent-split allowance count lines walk.spent (ready b.block here) lt;
            grows = (found, cuts ++ here ∷ [], subst (λ x. GrowsFor rule b best root here x (lines ++ AtSplit (ready b.block here) ∷ []) all found (cuts ++ here ∷ [])) (sym frames_are) g1, omega (arith, count_is, length-append cuts (here ∷ [])), l, names-split rule cuts names names2 here are fresh, lines-split rule cuts here (ready b.block here) lines have);
          })

    -- no child is left, and the walk goes up, or ends
    ups : numbers_in f.left ≡ [] → (found cuts : List (List ℕ)) → GrowsFor rule b best root at (lefts old) lines prefixes found cuts → GrowsFor rule b best root (front at) (lefts fs) lines prefixes found cuts
    ups is found cuts g =
        let e : lefts old ≡ [] ∷ lefts fs = ap lefts popped ∙ (lefts-push fs f ∙ ap (λ ns. ns ∷ lefts fs) is) in
        grows-up b.block (IsDue b best.high) (IsLeft rule b best) whole_at root at (lefts fs) (record { vertices = lines; prefixes = prefixes; found = found; cuts = cuts }) (subst (λ x. GrowsFor rule b best root at x lines prefixes found cuts) e g)

    pub walk-up : (back : List ℕ) → numbers_in f.left ≡ [] → 0 < length fs → back ≡ front at → IsBeingMade rule b best allowance root back fs lines prefixes count least names
    walk-up back is some up =
        let (found, cuts, g, count_is, l, are, have) = walk.grows in
        rw up
        (record {
          standing = stands.2;
          made = made.2;
          depth = omega (arith, deep, length-front at);
          within = walk.within;
          some = walk.some;
          spent = walk.spent;
          grows = (found, cuts, ups is found cuts g, count_is, l, are, have);
        })

    pub walk-last : numbers_in f.left ≡ [] → fs ≡ [] → IsBeingMade rule b best allowance root at fs lines prefixes count least names
    walk-last is none =
        let (found, cuts, g, count_is, l, are, have) = walk.grows in
        let g2 : GrowsFor rule b best root (front at) [] lines prefixes found cuts = subst (λ (x : List OpenSplit). GrowsFor rule b best root (front at) (lefts x) lines prefixes found cuts) none (ups is found cuts g) in
        rw none
        (record {
          standing = tt;
          made = tt;
          depth = omega (arith, deep);
          within = walk.within;
          some = walk.some;
          spent = walk.spent;
          grows = (found, cuts, nowhere rule b best root at lines prefixes found cuts g2, count_is, l, are, have);
        })

  pub walk-done : (at : List ℕ) (frames : List OpenSplit) (lines : List (Vertex Terminal)) (prefixes : List (List ℕ)) (count : ℕ) (least : Option WholeOrder) (names : List (List ℕ)) → frames ≡ [] → IsBeingMade rule b best allowance root at frames lines prefixes count least names →
      (tree : Tree Terminal) × TreeGrows b.block (IsDue b best.high) (IsLeft rule b best) root tree × (flat tree ≡ lines) × (tree_prefixes root tree ≡ prefixes) × (splits tree ≡ count) × IsLeast b (tree_values whole_at root tree) least × ((name : List ℕ) → ¬ (tree ≡ Alone (Passed name))) × NameSplits rule (split_at root tree) (flat tree)
  walk-done at frames lines prefixes count least names none walk =
      let (found, cuts, g, count_is, l, are, have) = walk.grows in
      let g2 : GrowsFor rule b best root at [] lines prefixes found cuts = subst (λ (x : List OpenSplit). GrowsFor rule b best root at (lefts x) lines prefixes found cuts) none g in
      let (tree, grows, lines_are, found_are, cuts_are, prefixes_are) = grows-done b.block (IsDue b best.high) (IsLeft rule b best) whole_at root at (record { vertices = lines; prefixes = prefixes; found = found; cuts = cuts }) g2 in
      let holds : TreeHolds b.block (IsLeft rule b best) root tree = tree-holds b.block (IsDue b best.high) (IsLeft rule b best) (λ at due. due.0) root tree grows in
      let splits_are : splits tree ≡ count = sym (splits-count b.block (IsLeft rule b best) root tree holds) ∙ (ap length cuts_are ∙ count_is) in (
        tree,
        grows,
        lines_are,
        prefixes_are,
        splits_are,
        subst (λ x. IsLeast b x least) (sym found_are) l,
        (λ name. parted name tree (omega (arith, walk.some, splits_are))),
        rw (cuts_are, lines_are) have,
      )

-- WHAT IS LEFT TO DO falls at each turn: each number of a frame, the frame itself, and splits

abbrev pub work : List OpenSplit → ℕ
work frames = weigh (λ (f : OpenSplit). 1 + length (numbers_in f.left)) frames

work-push : (frames : List OpenSplit) (f : OpenSplit) → work (frames ++ f ∷ []) ≡ work frames + (1 + length (numbers_in f.left))
work-push frames f = omega (arith, weigh-append (λ (x : OpenSplit). 1 + length (numbers_in x.left)) frames (f ∷ []))

pub work-terminal : (k : ℕ) (old new fs : List OpenSplit) (f f2 : OpenSplit) (n : ℕ) → old ≡ fs ++ f ∷ [] → new ≡ fs ++ f2 ∷ [] → numbers_in f.left ≡ n ∷ numbers_in f2.left → k + work new < k + work old
work-terminal k old new fs f f2 n popped pushed is =
    omega (arith, ap work popped, ap work pushed, work-push fs f, work-push fs f2, ap length is)

pub work-split : (allowance count : ℕ) (old mid new fs : List OpenSplit) (f f2 f3 : OpenSplit) (n : ℕ) → count < allowance → old ≡ fs ++ f ∷ [] → mid ≡ fs ++ f2 ∷ [] → new ≡ mid ++ f3 ∷ [] → numbers_in f.left ≡ n ∷ numbers_in f2.left → (allowance - (count + 1)) * (BLOCK_LIMIT + 2) + work new < (allowance - count) * (BLOCK_LIMIT + 2) + work old
work-split allowance count old mid new fs f f2 f3 n lt popped put pushed is =
    omega (arith, lt, ap work popped, ap work put, ap work pushed, work-push fs f, work-push fs f2, work-push mid f3, ap length is, numbers_in-few f3.left)

pub work-up : (k : ℕ) (old fs : List OpenSplit) (f : OpenSplit) → old ≡ fs ++ f ∷ [] → k + work fs < k + work old
work-up k old fs f popped = omega (arith, ap work popped, work-push fs f)
