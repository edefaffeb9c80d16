-- What the nodes of one tree state at a prefix that has a node, and the lines that are appended there.
use Rattle.std.proofs.Common.{ℕ, zero, suc, ◌+◌, ◌≤◌, ◌<◌, ◌≡◌, ◌≢◌, Bool, true, false, cond, List, [], ◌∷◌, ◌++◌, length, get_or, refl, sym, ap, arith, inl, inr, subst, length-append, append_assoc}
use Rattle.std.proofs.Common.{◌∙◌, lt-ltb, ltb-true, le-ltb}
use Rattle.s66_isa.specs.{tally, Among}
use Rattle.s66_isa.proofs.Lists.{cases_le}
use Rattle.s66_model.specs.{Problem, is_ready, ready, IsBeginning, IsIncomplete, floor, AtTerminal, AtSplit, flat, children, later, Bounding, Dominated, stands_at, is_cut_at, IsTable, is_split_at}
use Rattle.s66_model.specs.{state_ending, ending_at, node_tree}
use Rattle.s66_model.specs.LedgerRuns as model
use Rattle.s66_model.proofs.VertexLines.{lines-unsplit, lines-split, lines-tree, lines-both}
use Rattle.s66_model.proofs.Beginnings.{beginning-front}
use Rattle.s66_model.proofs.LegalOrders.{GoesOn-append}
use Rattle.s66_model.proofs.NodeTrees.{some-passes, passes-some, is-same, uncut-stands, cut-counts, split-part, one-node, ending-is}
use Rattle.s66_model.proofs.OneTree.{same-is}
use Rattle.s66_line.proofs.OperationLaw.{among-at}
use Rattle.s66_node.specs.{front, Node, State}
use Rattle.s66_node.specs.declared.node.State.TheVariants as state
use Rattle.s66_node.proofs.Growing.{front-push}
use Rattle.s66_ledger.specs.{AreOneTree, StandsAt, lines_from, ledger_from, parent_of, IsChild, HasChild, stored_at, no_stored, nodes_of, prefixes, name_at, seen_state}
use Rattle.s66_ledger.proofs.NodePrefixes.{parent_at, prefix-at, prefix-none, name-node}
use Rattle.s66_ledger.proofs.SeenNodes.{at-nodes, length-nodes}
use Rattle.s66_ledger.proofs.ParentPaths.{push-same}

-- PLACES

place-of : {X : Type 0} (xs : List X) (x d : X) → Among x xs → (i : ℕ) × (i < length xs) × (get_or xs i d ≡ x)
place-of [] x d among = absurd among
place-of (y ∷ xs) x d (inl e) = (0, omega arith, sym e)
place-of (y ∷ xs) x d (inr later) =
    let (i, within, is) = place-of xs x d later in
    (suc i, omega (arith, within), is)

-- what at most one passes, passes at one place
one-place : {X : Type 0} (test : X → Bool) (xs : List X) (d : X) (i j : ℕ) → tally test xs ≤ 1 → i < length xs → j < length xs → test (get_or xs i d) ≡ true → test (get_or xs j d) ≡ true → i ≡ j
one-place test [] d i j few lt lt2 is is2 = absurd (omega (arith, lt))
one-place test (x ∷ xs) d zero zero few lt lt2 is is2 = refl
one-place test (x ∷ xs) d zero (suc j) few lt lt2 is is2 =
    absurd (omega (arith, few, ap (λ t. cond {A = ℕ} t 1 0) is, passes-some test (get_or xs j d) xs (among-at xs j d (omega (arith, lt2))) is2))
one-place test (x ∷ xs) d (suc i) zero few lt lt2 is is2 =
    absurd (omega (arith, few, ap (λ t. cond {A = ℕ} t 1 0) is2, passes-some test (get_or xs i d) xs (among-at xs i d (omega (arith, lt))) is))
one-place test (x ∷ xs) d (suc i) (suc j) few lt lt2 is is2 =
    ap (λ k. suc k) (one-place test xs d i j (omega (arith, few)) (omega (arith, lt)) (omega (arith, lt2)) is is2)

tally-few : {X : Type 0} (test : X → Bool) (xs : List X) → tally test xs ≤ length xs
tally-few test [] = omega arith
tally-few test (x ∷ xs) = omega (arith, tally-few test xs, most (test x))
  where
    most : (t : Bool) → cond {A = ℕ} t 1 0 ≤ 1
    most true = omega arith
    most false = omega arith

uncut : (b : Problem) (name at : List ℕ) (s : State) → s ≢ state.Split → model.is_cut_state (seen_state b name at s) ≡ false
uncut b name at state.Open other = refl
uncut b name at state.Out other = refl
uncut b name at state.Closed other = refl
uncut b name at state.Split other = absurd (other refl)
uncut b name at state.Dominated other = refl

-- what a state as code stores it has in the tree
plain-ending : (b : Problem) (name at : List ℕ) (s : State) → s ≢ state.Dominated → state_ending b at (seen_state b name at s) ≡ Bounding (floor b at)
plain-ending b name at state.Open other = refl
plain-ending b name at state.Out other = refl
plain-ending b name at state.Closed other = refl
plain-ending b name at state.Split other = refl
plain-ending b name at state.Dominated other = absurd (other refl)

parent-before : (xs : List Node) (j : ℕ) → 0 < j → parent_of xs j < j
parent-before xs j some =
    elim (cases_le j (stored_at xs j).parent) [
      | inl le ↦ rw (le-ltb (stored_at xs j).parent j le) some
      | inr lt ↦ rw (lt-ltb (stored_at xs j).parent j lt) lt
    ]

parent_at-most : (i p : ℕ) → parent_at i p ≤ i
parent_at-most i p =
    elim (cases_le i p) [
      | inl le ↦ rw (le-ltb p i le) (omega arith)
      | inr lt ↦ rw (lt-ltb p i lt) (omega (arith, lt))
    ]

-- THE NODES OF ONE TREE

module _ (b : Problem) (xs : List Node) (tree : AreOneTree b xs) where
  abbrev seen : List model.Node
  seen = nodes_of b xs

  abbrev standing : List ℕ → ℕ
  standing at = tally (stands_at at) seen

  abbrev cuts : List ℕ → ℕ
  cuts at = tally (is_cut_at at) seen

  abbrev ledger : model.Ledger
  ledger = ledger_from b xs tree.best 0 [] 0

  pub some-node : 0 < length xs
  some-node = omega (arith, tree.table.root, tally-few (stands_at []) seen, length-nodes b xs)

  abbrev seen_at : List ℕ → ℕ → model.Node
  seen_at at i = record { prefix = at; state = seen_state b (name_at xs i) at (stored_at xs i).state }

  stands-seen : (i : ℕ) (at : List ℕ) → StandsAt xs i at → model.node_at seen i ≡ seen_at at i
  stands-seen i at stands = at-nodes b xs i stands.within ∙ ap (λ p. seen_at p i) stands.over

  stands-among : (i : ℕ) (at : List ℕ) → StandsAt xs i at → Among (seen_at at i) seen
  stands-among i at stands =
      subst (λ (node : model.Node). Among node seen) (stands-seen i at stands) (among-at seen i model.no_node (omega (arith, stands.within, length-nodes b xs)))

  stands-begins : (i : ℕ) (at : List ℕ) → StandsAt xs i at → IsBeginning b.block at
  stands-begins i at stands = tree.begins (seen_at at i) (stands-among i at stands)

  pub split-here : (i : ℕ) (at : List ℕ) → StandsAt xs i at → (stored_at xs i).state ≡ state.Split → is_split_at seen at ≡ true
  split-here i at stands is =
      lt-ltb 0 (cuts at) (cut-counts (seen_at at i) seen (stands-among i at stands) (ap (seen_state b (name_at xs i) at) is))

  pub unsplit-here : (i : ℕ) (at : List ℕ) → StandsAt xs i at → (stored_at xs i).state ≢ state.Split → is_split_at seen at ≡ false
  unsplit-here i at stands other =
      let less = uncut-stands (seen_at at i) seen (stands-among i at stands) (uncut b (name_at xs i) at (stored_at xs i).state other) in
      le-ltb 0 (cuts at) (omega (arith, less, one-node b ledger tree.table tree.begins at (stands-begins i at stands)))

  -- each that isn't split or dominated has its floor
  pub floor-here : (i : ℕ) (at : List ℕ) → StandsAt xs i at → (stored_at xs i).state ≢ state.Dominated → ending_at b seen at ≡ Bounding (floor b at)
  floor-here i at stands other =
      ending-is b ledger tree.table tree.begins (seen_at at i) (stands-among i at stands) ∙ plain-ending b (name_at xs i) at (stored_at xs i).state other

  -- one that is dominated has its name
  pub name-here : (i : ℕ) (at : List ℕ) → StandsAt xs i at → (stored_at xs i).state ≡ state.Dominated → ending_at b seen at ≡ Dominated (name_at xs i)
  name-here i at stands is =
      ending-is b ledger tree.table tree.begins (seen_at at i) (stands-among i at stands) ∙ ap (λ s. state_ending b at (seen_state b (name_at xs i) at s)) is

  -- which is a node's
  pub name-short : (i : ℕ) → i < length xs → length (name_at xs i) ≤ length b.block
  name-short i lt =
      let v = parent_at i (stored_at xs i).value in
      let above : StandsAt xs v (get_or (prefixes xs) v []) = record { within = omega (arith, lt, parent_at-most i (stored_at xs i).value); over = refl } in
      let (rest, legal) = beginning-front b.block (get_or (prefixes xs) v []) (stands-begins v (get_or (prefixes xs) v []) above) in
      omega (arith, legal.whole, length-append (get_or (prefixes xs) v []) rest, ap length (name-node xs i some-node))

  pub split-incomplete : (at : List ℕ) → is_split_at seen at ≡ true → IsIncomplete b.block at
  split-incomplete at is = (split-part b ledger tree.table tree.begins at is).0

  -- a node's parent is split, and its last number was ready there
  pub parent-split : (i n : ℕ) (above : List ℕ) → StandsAt xs i (above ++ n ∷ []) → is_split_at seen above ≡ true
  parent-split i n above stands =
      let at : List ℕ = above ++ n ∷ [] in
      let now : is_ready b.block above n ≡ true = (GoesOn-append b.block [] above (n ∷ []) (stands-begins i at stands)).1.0 in
      let it : 0 < standing at = passes-some (stands_at at) (seen_at at i) seen (stands-among i at stands) (is-same at) in
      lt-ltb 0 (cuts above) (omega (arith, it, tree.table.children above n now))

  pub has-child : (i n : ℕ) (at : List ℕ) → StandsAt xs i at → is_split_at seen at ≡ true → is_ready b.block at n ≡ true → HasChild xs i n
  has-child i n at stands is now =
      let it : 0 < standing (at ++ n ∷ []) = omega (arith, ltb-true 0 (cuts at) is, tree.table.children at n now) in
      let (node, among, passes) = some-passes (stands_at (at ++ n ∷ [])) seen it in
      let (j, within, here) = place-of seen node model.no_node among in
      let within2 : j < length xs = omega (arith, within, length-nodes b xs) in
      let over : get_or (prefixes xs) j [] ≡ at ++ n ∷ [] =
      sym (ap (λ (x : model.Node). x.prefix) (at-nodes b xs j within2)) ∙ (ap (λ (x : model.Node). x.prefix) here ∙ same-is node.prefix (at ++ n ∷ []) passes) in
      let some : 0 < j = elim (cases_le j 0) [
        | inl first ↦ absurd (none-first j first over)
        | inr lt ↦ lt
      ] in
      let last : get_or (prefixes xs) j [] ≡ get_or (prefixes xs) (parent_of xs j) [] ++ (stored_at xs j).number ∷ [] = prefix-at xs j no_stored some within2 in
      let (above, number) = push-same (get_or (prefixes xs) (parent_of xs j) []) at (stored_at xs j).number n (sym last ∙ over) in
      record { child = j; is = record { some = some; within = within2; parent = parent-is j within2 some above; number = number } }
    where
      none-first : (j : ℕ) → j ≤ 0 → get_or (prefixes xs) j [] ≡ at ++ n ∷ [] → ⊥
      none-first j first over =
          let zeroth : j ≡ 0 = omega (arith, first) in
          let empty : at ++ n ∷ [] ≡ [] = sym over ∙ (ap (λ k. get_or (prefixes xs) k []) zeroth ∙ prefix-none xs some-node) in
          absurd (omega (arith, ap length empty, length-append at (n ∷ [])))

      parent-is : (j : ℕ) → j < length xs → 0 < j → get_or (prefixes xs) (parent_of xs j) [] ≡ at → parent_of xs j ≡ i
      parent-is j within some above =
          let p = parent_of xs j in
          let lower : p < length xs = omega (arith, within, parent-before xs j some) in
          let one : standing at ≤ 1 = one-node b ledger tree.table tree.begins at (stands-begins i at stands) in
          let parent : StandsAt xs p at = record { within = lower; over = above } in
          one-place (stands_at at) seen model.no_node p i one (omega (arith, lower, length-nodes b xs)) (omega (arith, stands.within, length-nodes b xs))
          (ap (stands_at at) (stands-seen p at parent) ∙ is-same at) (ap (stands_at at) (stands-seen i at stands) ∙ is-same at)

-- a child's prefix
pub child-stands : (xs : List Node) (i n j : ℕ) (at : List ℕ) → StandsAt xs i at → IsChild xs i n j → StandsAt xs j (at ++ n ∷ [])
child-stands xs i n j at stands child = record {
  within = child.within;
  over =
      prefix-at xs j no_stored child.some child.within
      ∙ (ap (λ p. get_or (prefixes xs) p [] ++ (stored_at xs j).number ∷ []) child.parent
      ∙ (ap (λ above. above ++ (stored_at xs j).number ∷ []) stands.over
      ∙ ap (λ m. at ++ m ∷ []) child.number));
}

-- up to a parent, back by the last number
pub up-stands : (xs : List Node) (i p n : ℕ) (at up : List ℕ) → StandsAt xs i at → p < i → get_or (prefixes xs) i [] ≡ get_or (prefixes xs) p [] ++ n ∷ [] → up ≡ front at → (at ≡ up ++ n ∷ []) × StandsAt xs p up
up-stands xs i p n at up stands lt last is =
    let above = get_or (prefixes xs) p [] in
    let whole : at ≡ above ++ n ∷ [] = sym stands.over ∙ last in
    let same : up ≡ above = is ∙ (ap front whole ∙ front-push above n) in
    (whole ∙ ap (λ x. x ++ n ∷ []) (sym same), record { within = omega (arith, lt, stands.within); over = sym same })

-- the root's prefix is empty
pub root-stands : (xs : List Node) (i : ℕ) (at : List ℕ) → StandsAt xs i at → i ≡ 0 → at ≡ []
root-stands xs i at stands first =
    sym stands.over ∙ (ap (λ k. get_or (prefixes xs) k []) first ∙ prefix-none xs (omega (arith, stands.within)))

-- A LINE, AND THEN THOSE OF THE PREFIXES TO COME

module _ (b : Problem) (xs : List Node) (tree : AreOneTree b xs) (i : ℕ) (at : List ℕ) (stands : StandsAt xs i at) (to : List (List ℕ)) where
  abbrev cut_there : List ℕ → Bool
  cut_there = is_split_at (nodes_of b xs)

  pub split-line : (numbers : List ℕ) → (stored_at xs i).state ≡ state.Split → numbers ≡ ready b.block at → to ≡ children at numbers ++ later b.block [] at →
      lines_from b xs (at ∷ later b.block [] at) ≡ AtSplit numbers ∷ lines_from b xs to
  split-line numbers split all next =
      let is : cut_there at ≡ true = split-here b xs tree i at stands split in
      let part : length at ≤ length b.block = omega (arith, split-incomplete b xs tree at is) in
      ap (λ vertices. vertices ++ lines_from b xs (later b.block [] at)) (lines-split b.block cut_there (ending_at b (nodes_of b xs)) at is part)
      ∙ (ap (λ ns. AtSplit ns ∷ (lines_from b xs (children at ns) ++ lines_from b xs (later b.block [] at))) (sym all)
      ∙ ap (λ vertices. AtSplit numbers ∷ vertices) (sym (lines-both b.block cut_there (ending_at b (nodes_of b xs)) (children at numbers) (later b.block [] at)) ∙ ap (lines_from b xs) (sym next)))

  pub terminal-line : (stored_at xs i).state ≢ state.Split → to ≡ later b.block [] at →
      lines_from b xs (at ∷ later b.block [] at) ≡ AtTerminal (ending_at b (nodes_of b xs) at) ∷ lines_from b xs to
  terminal-line other next =
      ap (λ vertices. vertices ++ lines_from b xs (later b.block [] at)) (lines-unsplit b.block cut_there (ending_at b (nodes_of b xs)) at (unsplit-here b xs tree i at stands other))
      ∙ ap (λ ats. AtTerminal (ending_at b (nodes_of b xs) at) ∷ lines_from b xs ats) (sym next)

-- if it is appended, these follow
pub line-appended : {K : Type 0} (old new : List K) (k : K) (all rest : List K) → new ≡ old ++ k ∷ [] → all ≡ k ∷ rest → new ++ rest ≡ old ++ all
line-appended old new k all rest pushed is = ap (λ xs. xs ++ rest) pushed ∙ (append_assoc old (k ∷ []) rest ∙ ap (λ xs. old ++ xs) (sym is))

pub one-longer : {K : Type 0} (old new : List K) (k : K) → new ≡ old ++ k ∷ [] → length new ≡ length old + 1
one-longer {K = K} old new k pushed = omega (arith, ap (λ (xs : List K). length xs) pushed, length-append old (k ∷ []))

pub fewer-left : {K : Type 0} (old new all rest : List K) → length new ≡ length old + 1 → new ++ rest ≡ old ++ all → length rest < length all
fewer-left {K = K} old new all rest one same =
    omega (arith, one, ap (λ (xs : List K). length xs) same, length-append new rest, length-append old all)

-- THE FIRST LINE

pub one-tree : (b : Problem) (xs : List Node) (best : List ℕ) (spent : ℕ) → IsTable b (ledger_from b xs best 0 [] spent) → ((node : model.Node) → Among node (nodes_of b xs) → IsBeginning b.block node.prefix) → AreOneTree b xs
one-tree b xs best spent table begins = record {
  best = best;
  table = record { root = table.root; children = table.children; others = table.others; splits = table.splits; best = table.best };
  begins = begins;
}

pub root-there : (b : Problem) (xs : List Node) → AreOneTree b xs → StandsAt xs 0 []
root-there b xs tree = record { within = some-node b xs tree; over = prefix-none xs (some-node b xs tree) }

pub lines-whole : (b : Problem) (xs : List Node) → lines_from b xs ([] ∷ []) ≡ flat (node_tree b (nodes_of b xs))
lines-whole b xs = sym (lines-tree b.block (is_split_at (nodes_of b xs)) (ending_at b (nodes_of b xs)))
