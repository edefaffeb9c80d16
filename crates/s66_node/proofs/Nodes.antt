-- A list of nodes with one more: its prefix, its line of the tree, and what holds of it.
use Rattle.std.proofs.Common.{ℕ, zero, suc, ◌+◌, ◌<◌, ◌≡◌, List, [], ◌∷◌, ◌++◌, length, get_or, refl, sym, ap, arith, ◌∙◌, length-append, subst}
use Rattle.s66_model.specs.{Problem, Vertex, Terminal}
use Rattle.s66_node.specs.{Node, State, prefixes_from, prefixes_over, node_line, Named, no_named, named_at, node_lines, IsNode, NodesFrom, AreNodes}
use Rattle.s66_node.specs.declared.node.State.TheVariants as state

-- LISTS

pub get_or-front : {X : Type 0} (xs : List X) (y : X) (i : ℕ) (d : X) → i < length xs → get_or (xs ++ y ∷ []) i d ≡ get_or xs i d
get_or-front [] y i d lt = absurd (omega arith)
get_or-front (x ∷ xs) y zero d lt = refl
get_or-front (x ∷ xs) y (suc i) d lt = get_or-front xs y i d (omega arith)

pub get_or-last : {X : Type 0} (xs : List X) (y d : X) → get_or (xs ++ y ∷ []) (length xs) d ≡ y
get_or-last [] y d = refl
get_or-last (x ∷ xs) y d = get_or-last xs y d

-- in a longer list too
get_or-longer : {X : Type 0} (xs more : List X) (i : ℕ) (d : X) → i < length xs → get_or (xs ++ more) i d ≡ get_or xs i d
get_or-longer [] more i d lt = absurd (omega arith)
get_or-longer (x ∷ xs) more zero d lt = refl
get_or-longer (x ∷ xs) more (suc i) d lt = get_or-longer xs more i d (omega arith)

-- PREFIXES

pub prefixes_from-push : (made : List (List ℕ)) (xs : List Node) (x : Node) → prefixes_from made (xs ++ x ∷ []) ≡ prefixes_from made xs ++ (get_or (prefixes_from made xs) x.parent [] ++ x.number ∷ []) ∷ []
prefixes_from-push made [] x = refl
prefixes_from-push made (y ∷ xs) x = prefixes_from-push (made ++ (get_or made y.parent [] ++ y.number ∷ []) ∷ []) xs x

pub length-prefixes_from : (made : List (List ℕ)) (xs : List Node) → length (prefixes_from made xs) ≡ length made + length xs
length-prefixes_from made [] = omega arith
length-prefixes_from made (x ∷ xs) =
    omega (arith, length-prefixes_from (made ++ (get_or made x.parent [] ++ x.number ∷ []) ∷ []) xs, length-append made ((get_or made x.parent [] ++ x.number ∷ []) ∷ []))

pub length-prefixes_over : (root : List ℕ) (xs : List Node) → length (prefixes_over root xs) ≡ length xs
length-prefixes_over root [] = refl
length-prefixes_over root (x ∷ xs) = omega (arith, length-prefixes_from (root ∷ []) xs)

prefixes_over-push : (root : List ℕ) (xs : List Node) (x : Node) → 0 < length xs → prefixes_over root (xs ++ x ∷ []) ≡ prefixes_over root xs ++ (get_or (prefixes_over root xs) x.parent [] ++ x.number ∷ []) ∷ []
prefixes_over-push root [] x some = absurd (omega arith)
prefixes_over-push root (y ∷ xs) x some = prefixes_from-push (root ∷ []) xs x

-- LINES

lines-push : (b : Problem) (names : List Named) (ats : List (List ℕ)) (xs : List Node) (at : List ℕ) (x : Node) → length ats ≡ length xs → node_lines b names (ats ++ at ∷ []) (xs ++ x ∷ []) ≡ node_lines b names ats xs ++ node_line b (named_at names x.value).name at x.state ∷ []
lines-push b names [] [] at x same = refl
lines-push b names [] (y ∷ xs) at x same = absurd (omega (arith, same))
lines-push b names (a ∷ ats) [] at x same = absurd (omega (arith, same))
lines-push b names (a ∷ ats) (y ∷ xs) at x same = ap (λ (ks : List (Vertex Terminal)). node_line b (named_at names y.value).name a y.state ∷ ks) (lines-push b names ats xs at x (omega (arith, same)))

pub length-lines : (b : Problem) (names : List Named) (ats : List (List ℕ)) (xs : List Node) → length ats ≡ length xs → length (node_lines b names ats xs) ≡ length xs
length-lines b names [] [] same = refl
length-lines b names [] (x ∷ xs) same = absurd (omega (arith, same))
length-lines b names (at ∷ ats) [] same = absurd (omega (arith, same))
length-lines b names (at ∷ ats) (x ∷ xs) same = omega (arith, length-lines b names ats xs (omega (arith, same)))

-- MORE NAMES

module _ (b : Problem) (names more : List Named) where
  still-node : (at : List ℕ) (x : Node) → IsNode b names at x → IsNode b (names ++ more) at x
  still-node at x h =
      record {
        depth = h.depth;
        short = h.short;
        made = h.made;
        floor = h.floor;
        within = λ is. omega (arith, h.within is, length-append names more);
        named = λ is. ap (λ (d : Named). d.floor) (get_or-longer names more x.value no_named (h.within is)) ∙ h.named is;
      }

  still-nodes : (made : List (List ℕ)) (xs : List Node) → NodesFrom b names made xs → NodesFrom b (names ++ more) made xs
  still-nodes made [] h = tt
  still-nodes made (x ∷ xs) h = (h.0, still-node (get_or made x.parent [] ++ x.number ∷ []) x h.1, still-nodes (made ++ (get_or made x.parent [] ++ x.number ∷ []) ∷ []) xs h.2)

  still-line : (at : List ℕ) (x : Node) → (x.state ≡ state.Dominated → x.value < length names) → node_line b (named_at (names ++ more) x.value).name at x.state ≡ node_line b (named_at names x.value).name at x.state
  still-line at x within = by x.state within
    where
      by : (s : State) → (s ≡ state.Dominated → x.value < length names) → node_line b (named_at (names ++ more) x.value).name at s ≡ node_line b (named_at names x.value).name at s
      by state.Open h = refl
      by state.Out h = refl
      by state.Closed h = refl
      by state.Split h = refl
      by state.Dominated h = ap (λ (d : Named). node_line b d.name at state.Dominated) (get_or-longer names more x.value no_named (h refl))

  still-lines_from : (made ats : List (List ℕ)) (xs : List Node) → NodesFrom b names made xs → node_lines b (names ++ more) ats xs ≡ node_lines b names ats xs
  still-lines_from made [] xs h = refl
  still-lines_from made (at ∷ ats) [] h = refl
  still-lines_from made (at ∷ ats) (x ∷ xs) h =
      rw (still-line at x h.1.within, still-lines_from (made ++ (get_or made x.parent [] ++ x.number ∷ []) ∷ []) ats xs h.2) refl

  still-lines : (root : List ℕ) (ats : List (List ℕ)) (xs : List Node) → AreNodes b names root xs → node_lines b (names ++ more) ats xs ≡ node_lines b names ats xs
  still-lines root ats [] h = absurd h
  still-lines root [] (x ∷ xs) h = refl
  still-lines root (at ∷ ats) (x ∷ xs) h = rw (still-line at x h.0.within, still-lines_from (root ∷ []) ats xs h.1) refl

-- ONE NODE MORE

nodes_from-push : (b : Problem) (names : List Named) (made : List (List ℕ)) (xs : List Node) (x : Node) → NodesFrom b names made xs → x.parent < length (prefixes_from made xs) → IsNode b names (get_or (prefixes_from made xs) x.parent [] ++ x.number ∷ []) x → NodesFrom b names made (xs ++ x ∷ [])
nodes_from-push b names made [] x h lt is = (lt, is, tt)
nodes_from-push b names made (y ∷ xs) x h lt is = (h.0, h.1, nodes_from-push b names (made ++ (get_or made y.parent [] ++ y.number ∷ []) ∷ []) xs x h.2 lt is)

-- with its prefix and its line
pub record ArePushed (b : Problem) (root : List ℕ) (names all : List Named) (nodes new : List Node) (at : List ℕ) (line : Vertex Terminal) : Type 0 where
  pub stand : AreNodes b all root new
  pub prefixes : prefixes_over root new ≡ prefixes_over root nodes ++ at ∷ []
  pub lines : node_lines b all (prefixes_over root new) new ≡ node_lines b names (prefixes_over root nodes) nodes ++ line ∷ []

module _ (b : Problem) (root : List ℕ) (names more all : List Named) (nodes new : List Node) (x : Node) (at : List ℕ) (h : AreNodes b names root nodes) (called : all ≡ names ++ more) (put : new ≡ nodes ++ x ∷ []) (within : x.parent < length (prefixes_over root nodes)) (path : get_or (prefixes_over root nodes) x.parent [] ++ x.number ∷ [] ≡ at) (is : IsNode b all at x) where
  some : 0 < length nodes
  some = omega (arith, within, length-prefixes_over root nodes)

  more_prefixes : prefixes_over root new ≡ prefixes_over root nodes ++ at ∷ []
  more_prefixes = ap (prefixes_over root) put ∙ (prefixes_over-push root nodes x some ∙ ap (λ a. prefixes_over root nodes ++ a ∷ []) path)

  more_nodes : (xs : List Node) → AreNodes b names root xs → x.parent < length (prefixes_over root xs) → IsNode b (names ++ more) (get_or (prefixes_over root xs) x.parent [] ++ x.number ∷ []) x → AreNodes b (names ++ more) root (xs ++ x ∷ [])
  more_nodes [] are lt of = absurd are
  more_nodes (y ∷ xs) are lt of = (still-node b names more root y are.0, nodes_from-push b (names ++ more) (root ∷ []) xs x (still-nodes b names more (root ∷ []) xs are.1) lt of)

  pub are-pushed : ArePushed b root names all nodes new at (node_line b (named_at all x.value).name at x.state)
  are-pushed =
      record {
        stand = rw (put, called) (more_nodes nodes h within (subst (λ a. IsNode b (names ++ more) a x) (sym path) (subst (λ ns. IsNode b ns at x) called is)));
        prefixes = more_prefixes;
        lines =
            rw (more_prefixes, put, called)
            (lines-push b (names ++ more) (prefixes_over root nodes) nodes at x (length-prefixes_over root nodes)
            ∙ ap (λ (ks : List (Vertex Terminal)). ks ++ node_line b (named_at (names ++ more) x.value).name at x.state ∷ []) (still-lines b names more root (prefixes_over root nodes) nodes h));
      }
