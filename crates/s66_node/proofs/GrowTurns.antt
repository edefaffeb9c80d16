-- One turn of `grow`: what it makes of the walk, of the nodes and of the splits to come keeps what is promised of the tree.
use Rattle.std.proofs.Common.{ℕ, ◌+◌, ◌≤◌, ◌<◌, ◌≡◌, ◌⊎◌, ◌++◌, ◌∷◌, [], List, Option, None, true, get_or, length, length-append, map, inl, inr, refl, sym, ap, ◌∙◌, subst, arith}
use Rattle.s66_isa.specs.{Among, numbers_in}
use Rattle.s66_model.specs.{Rule, NoneNamed, WrittenEarlier, Problem, IsBeginning, is_ready, Tree, Alone, Vertex, AtTerminal, Terminal, Frontier, Passed}
use Rattle.s66_node.specs.{front, Grown, OpenSplit, Unsplit, Node, WholeOrder, Named, named, node_lines, prefixes_over, AreNodes, Span, span, IsDue, IsFound, IsOpen, IsLeast, IsGrown, IsEmpty}
use Rattle.s66_node.specs.{IsUnsplitPut, IsSplitPut, IsBeingMade, names_of, grown_lines, grown_prefixes, terminal_by}
use Rattle.s66_node.specs.declared.node.State.TheVariants as state
use Rattle.s66_node.proofs.Frontiers.{spent-terminal}
use Rattle.s66_node.proofs.Nodes.{length-prefixes_over}
use Rattle.s66_node.proofs.Pushing.{found-wider, found-open, root-nodes, root-prefixes, root-lines, terminal-pushed, split-node, split-pushed}
use Rattle.s66_node.proofs.Terminals.{left-any, left-unnamed}
use Rattle.s66_node.proofs.WalkTurns.{next-ready, next-few, next-room, frame-within, frame-over, walk-root, walk-terminal, walk-split, walk-up, walk-last, walk-done}

-- a tree over the root is being made by this best time, which may still fall
pub record IsGrowing (rule : Rule) (b : Problem) (high allowance : ℕ) (root at : List ℕ) (frames : List OpenSplit) (grown : Grown) (best : ℕ) (names : List (List ℕ)) : Type 0 where
  pub nodes : AreNodes b (names_of grown) root grown.nodes.items
  pub walk : (low : ℕ) → low ≤ best → IsBeingMade rule b (span high low) allowance root at frames (grown_lines b root grown) (grown_prefixes root grown) grown.splits grown.least names

module _ (rule : Rule) (b : Problem) where
  -- the root isn't split
  pub root-unsplit : (best : Span) (allowance : ℕ) (root : List ℕ) (old new : Grown) (u : Unsplit) → IsEmpty old → IsUnsplitPut b root old 0 0 u new → IsFound NoneNamed b best root [] u → (IsOpen u → ¬ (0 < allowance)) → IsGrown rule b best allowance root new (Alone (terminal_by b root u))
  root-unsplit best allowance root old new u empty put found left =
      let terminal = terminal_by b root u in
      let unnamed : (name : List ℕ) → terminal ≡ Passed name → ⊥ = λ name is. left-unnamed b best root terminal name found.left is in
      let none : new.splits ≡ 0 = put.splits ∙ empty.splits in
      record {
        grows = left-any rule b best root terminal found.left;
        nodes = root-nodes NoneNamed b best root [] u old.nodes.items new.nodes.items old.dominances.items new.dominances.items (length root) empty.nodes refl put.short found put.node;
        prefixes = root-prefixes NoneNamed b best root [] u old.nodes.items new.nodes.items old.dominances.items new.dominances.items (length root) empty.nodes refl put.short found put.node;
        lines = root-lines NoneNamed b best root [] u old.nodes.items new.nodes.items old.dominances.items new.dominances.items (length root) empty.nodes refl put.short found put.node;
        splits = sym none;
        least = put.least NoneNamed best [] [] found (subst (IsLeast b []) (sym empty.least) refl);
        within = omega (arith, none);
        spent = subst (λ k. Among (AtTerminal Frontier) (AtTerminal terminal ∷ []) → k ≡ allowance) (sym none)
            (spent-terminal allowance 0 [] (λ none. absurd none) terminal (omega arith) (λ is lt. left (found-open b root u is) lt));
        passed = λ name is. unnamed name (let e : terminal ≡ Passed name = cc in e);
        names = λ by name among. absurd (elim among [ inl is ↦ unnamed name (let e : terminal ≡ Passed name = cc in e) | inr none ↦ none ]);
      }

module _ (rule : Rule) (b : Problem) (high allowance : ℕ) (root : List ℕ) where
  remade : (best : Span) (at : List ℕ) (frames others : List OpenSplit) (lines more : List (Vertex Terminal)) (prefixes further : List (List ℕ)) (count now : ℕ) (least lower : Option WholeOrder) (names : List (List ℕ))
      → others ≡ frames → more ≡ lines → further ≡ prefixes → now ≡ count → lower ≡ least
      → IsBeingMade rule b best allowance root at frames lines prefixes count least names → IsBeingMade rule b best allowance root at others more further now lower names
  remade best at frames others lines more prefixes further count now least lower names f l p c k h = rw (f, l, p, c, k) h

  -- the root is split
  pub root-split : (old new : Grown) (frame : OpenSplit) (frames : List OpenSplit) (best : ℕ) (before names : List (List ℕ)) → IsEmpty old → IsSplitPut b root old 0 0 new frame → frames ≡ frame ∷ []
      → (rule ≡ WrittenEarlier → before ≡ []) → ((name : List ℕ) → Among name names → (name ≡ root) ⊎ Among name before) → 1 ≤ allowance → IsBeginning b.block root → IsDue b high root
      → IsGrowing rule b high allowance root root frames new best names
  root-split old new frame frames best before names empty put only unknown kept some begins due =
      let node : Node = record { parent = 0; value = 0; number = 0; depth = length root; made = state.Split; state = state.Split } in
      let nodes : new.nodes.items ≡ node ∷ [] = put.node ∙ ap (λ (xs : List Node). xs ++ node ∷ []) empty.nodes in
      record {
        nodes = subst (AreNodes b (names_of new) root) (sym nodes) (split-node b (names_of new) root node refl put.short refl refl, tt);
        walk = λ low le.
            remade (span high low) root (frame ∷ []) frames _ (grown_lines b root new) (root ∷ []) (grown_prefixes root new) 1 new.splits None new.least names only
            (ap (λ (xs : List Node). node_lines b (names_of new) (prefixes_over root xs) xs) nodes) (ap (prefixes_over root) nodes) (omega (arith, put.splits, empty.splits)) (put.least ∙ empty.least)
            (walk-root rule b (span high low) allowance root frame before names unknown kept some begins due (put.place ∙ ap (λ (xs : List Node). length xs) empty.nodes) put.left);
      }

  -- the top frame is taken off, with the walk at its prefix
  module _ (at : List ℕ) (old fs : List OpenSplit) (f : OpenSplit) (grown : Grown) (best : ℕ) (names : List (List ℕ)) (h : IsGrowing rule b high allowance root at old grown best names) (popped : old ≡ fs ++ f ∷ []) where
    walk : IsBeingMade rule b (span high 0) allowance root at old (grown_lines b root grown) (grown_prefixes root grown) grown.splits grown.least names
    walk = h.walk 0 (omega arith)

    pub child-ready : (n : ℕ) (ns : List ℕ) → numbers_in f.left ≡ n ∷ ns → is_ready b.block at n ≡ true
    child-ready = next-ready rule b (span high 0) allowance root at old fs f (grown_lines b root grown) (grown_prefixes root grown) grown.splits grown.least names walk popped

    pub child-few : (n : ℕ) (ns : List ℕ) → numbers_in f.left ≡ n ∷ ns → length at < length b.block
    child-few = next-few rule b (span high 0) allowance root at old fs f (grown_lines b root grown) (grown_prefixes root grown) grown.splits grown.least names walk popped

    pub frames-few : length fs ≤ length at
    frames-few = next-room rule b (span high 0) allowance root at old fs f (grown_lines b root grown) (grown_prefixes root grown) grown.splits grown.least names walk popped

    within : f.node < length (grown_prefixes root grown)
    within = frame-within rule b (span high 0) allowance root at old fs f (grown_lines b root grown) (grown_prefixes root grown) grown.splits grown.least names walk popped

    over : get_or (grown_prefixes root grown) f.node [] ≡ at
    over = frame-over rule b (span high 0) allowance root at old fs f (grown_lines b root grown) (grown_prefixes root grown) grown.splits grown.least names walk popped

    module _ (n : ℕ) (f2 : OpenSplit) (is : numbers_in f.left ≡ n ∷ numbers_in f2.left) (same_node : f2.node ≡ f.node) (new : Grown) (now : ℕ) (falls : now ≤ best) (below : best ≤ high) (names2 : List (List ℕ)) (frames : List OpenSplit) (here : List ℕ) where
      -- a child isn't split
      pub child-unsplit : (u : Unsplit) → IsUnsplitPut b (at ++ n ∷ []) grown f.node n u new → IsFound rule b (span best now) (at ++ n ∷ []) names u → (rule ≡ WrittenEarlier → names2 ≡ names) → (IsOpen u → ¬ (grown.splits < allowance))
          → frames ≡ fs ++ f2 ∷ [] → here ≡ at → IsGrowing rule b high allowance root here frames new now names2
      child-unsplit u put found same left framed back =
          let child = at ++ n ∷ [] in
          let wide : (low : ℕ) → low ≤ now → IsFound rule b (span high low) child names u = λ low le. found-wider rule b best now high low child names u below le found in
          let pushed = terminal-pushed rule b (span high now) root at n names u grown.nodes.items new.nodes.items grown.dominances.items new.dominances.items f.node (length child) refl put.short h.nodes within over (wide now (omega arith)) put.node in
          record {
            nodes = pushed.stand;
            walk = λ low le.
                let found_low = wide low le in
                subst (λ k. IsBeingMade rule b (span high low) allowance root here frames (grown_lines b root new) (grown_prefixes root new) k new.least names2) (sym put.splits)
                (walk-terminal rule b (span high low) allowance root at old fs f (grown_lines b root grown) (grown_prefixes root grown) grown.splits grown.least names (h.walk low (omega (arith, le, falls))) popped n f2 is same_node
                frames (grown_lines b root new) (grown_prefixes root new) new.least names2 (terminal_by b child u) here same found_low.knows framed back found_low.left pushed.lines pushed.prefixes
                (λ orders lesser. put.least rule (span best now) names orders found lesser) (λ is lt. left (found-open b child u is) lt));
          }

      -- a child is split
      pub child-split : (f3 : OpenSplit) → IsSplitPut b (at ++ n ∷ []) grown f.node n new f3 → IsDue b now (at ++ n ∷ []) → ((name : List ℕ) → Among name names2 → (name ≡ at ++ n ∷ []) ⊎ Among name names) → grown.splits < allowance
          → frames ≡ (fs ++ f2 ∷ []) ++ f3 ∷ [] → here ≡ at ++ n ∷ [] → IsGrowing rule b high allowance root here frames new now names2
      child-split f3 put due kept lt framed next =
          let child = at ++ n ∷ [] in
          let called : names_of new ≡ names_of grown = ap (map named) put.dominances in
          let pushed = split-pushed b root at n grown.nodes.items new.nodes.items (names_of grown) f.node (length child) refl put.short h.nodes within over put.node in
          let lines = ap (λ (ns : List Named). node_lines b ns (grown_prefixes root new) new.nodes.items) called ∙ pushed.lines in
          let last : f3.node ≡ length (grown_prefixes root grown) = omega (arith, put.place, length-prefixes_over root grown.nodes.items) in
          record {
            nodes = subst (λ (ns : List Named). AreNodes b ns root new.nodes.items) (sym called) pushed.stand;
            walk = λ low le.
                remade (span high low) here frames frames (grown_lines b root new) (grown_lines b root new) (grown_prefixes root new) (grown_prefixes root new) (grown.splits + 1) new.splits grown.least new.least names2 refl refl refl put.splits put.least
                (walk-split rule b (span high low) allowance root at old fs f (grown_lines b root grown) (grown_prefixes root grown) grown.splits grown.least names (h.walk low (omega (arith, le, falls))) popped n f2 is same_node
                f3 frames (grown_lines b root new) (grown_prefixes root new) names2 here kept framed next (due.0, omega (arith, due.1, falls, below)) put.left last lines pushed.prefixes lt);
          }

    -- no child is left, and the walk goes up, or ends
    pub goes-up : (back : List ℕ) → numbers_in f.left ≡ [] → 0 < length fs → back ≡ front at → IsGrowing rule b high allowance root back fs grown best names
    goes-up back is some up = record {
      nodes = h.nodes;
      walk = λ low le. walk-up rule b (span high low) allowance root at old fs f (grown_lines b root grown) (grown_prefixes root grown) grown.splits grown.least names (h.walk low le) popped back is some up;
    }

    pub ends : numbers_in f.left ≡ [] → fs ≡ [] → IsGrowing rule b high allowance root at fs grown best names
    ends is none = record {
      nodes = h.nodes;
      walk = λ low le. walk-last rule b (span high low) allowance root at old fs f (grown_lines b root grown) (grown_prefixes root grown) grown.splits grown.least names (h.walk low le) popped is none;
    }

    -- with a frame below it the prefix isn't empty
    pub deep-enough : 0 < length fs → 0 < length at
    deep-enough some = omega (arith, walk.depth, ap (λ (xs : List OpenSplit). length xs) popped, length-append fs (f ∷ []), some)

  pub is-grown : (at : List ℕ) (frames : List OpenSplit) (grown : Grown) (best low : ℕ) (names : List (List ℕ)) → IsGrowing rule b high allowance root at frames grown best names → low ≤ best → frames ≡ []
      → (tree : Tree Terminal) × IsGrown rule b (span high low) allowance root grown tree
  is-grown at frames grown best low names h le none =
      let walk = h.walk low le in
      let (tree, grows, lines, prefixes, splits, least, passed, called) = walk-done rule b (span high low) allowance root at frames (grown_lines b root grown) (grown_prefixes root grown) grown.splits grown.least names none walk in
      (tree, record { grows = grows; nodes = h.nodes; prefixes = prefixes; lines = lines; splits = splits; least = least; within = walk.within; spent = λ among. walk.spent (subst (Among (AtTerminal Frontier)) lines among); passed = passed; names = called })
