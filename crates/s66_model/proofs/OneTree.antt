-- The nodes of a ledger stay those of one tree, however the steps fall, and its best order stays the source order or is faster.
use Rattle.std.proofs.Common.{ℕ, zero, suc, ◌+◌, ◌<◌, ◌≡◌, ◌≢◌, ◌⊎◌, Bool, true, false, true≢false, cond, ◌&&◌, List, [], ◌∷◌, ◌++◌, length, refl, sym, ap, arith, inl, inr, eqb, ◌∙◌, subst, set, Some}
use Rattle.std.proofs.Common.{None, eqb-true}
use Rattle.std.proofs.lemmas.Bool.{and_left, and_right, and_parts, cases_Bool}
use Rattle.s66_isa.specs.{tally, Among, numbers}
use Rattle.s66_isa.proofs.Lists.{tally-append, tally-set, tally-none, tally-same}
use Rattle.s66_model.specs.{Rule, Problem, total_of, is_ready, ready, IsBeginning, IsIncomplete, Siblings, NoMore, Unsplit, Split, Tree, Alone, Parted, SiblingsHold, TreeHolds, Terminal}
use Rattle.s66_model.specs.{TerminalHolds, IsPiece, source_time, Ledger, Node, State, Open, Out, Cut, is_cut, is_cut_state, node_at, no_node, with_state, state_of, root_state, sibling_nodes}
use Rattle.s66_model.specs.{new_nodes, best_time, after_move, after_graft, opening, IsOut, Event, Grant, Claim, Graft, Offer, Back, Retire, Reply, Granted, Claimed, Taken, NotOut, OtherPrefix}
use Rattle.s66_model.specs.{OverAllowance, Lower, NotLower, OtherBlock, Returned, Retired, Moves, Run, NodesHold, same_numbers, stands_at, is_cut_at, IsTable}
use Rattle.s66_model.proofs.LegalOrders.{GoesOn-append, ready-parts}
use Rattle.s66_model.proofs.OnceCovered.{and_true, rising-once, cut_none}
use Rattle.s66_model.proofs.LedgerRuns.{history-covers}

-- LISTS OF NUMBERS

and_assoc : (a c d : Bool) → (a && (c && d)) ≡ ((a && c) && d)
and_assoc true c d = refl
and_assoc false c d = refl

nil_push : (ys : List ℕ) (n : ℕ) → same_numbers [] (ys ++ n ∷ []) ≡ false
nil_push [] n = refl
nil_push (y ∷ ys) n = refl

push_nil : (xs : List ℕ) (m : ℕ) → same_numbers (xs ++ m ∷ []) [] ≡ false
push_nil [] m = refl
push_nil (x ∷ xs) m = refl

same-push : (xs ys : List ℕ) (m n : ℕ) → same_numbers (xs ++ m ∷ []) (ys ++ n ∷ []) ≡ (same_numbers xs ys && eqb m n)
same-push [] [] m n = and_true (eqb m n)
same-push [] (y ∷ ys) m n = and_right (eqb m y) (same_numbers [] (ys ++ n ∷ [])) (nil_push ys n)
same-push (x ∷ xs) [] m n = and_right (eqb x n) (same_numbers (xs ++ m ∷ []) []) (push_nil xs m)
same-push (x ∷ xs) (y ∷ ys) m n = ap (λ b. eqb x y && b) (same-push xs ys m n) ∙ and_assoc (eqb x y) (same_numbers xs ys) (eqb m n)

pub same-is : (ns ms : List ℕ) → same_numbers ns ms ≡ true → ns ≡ ms
same-is [] [] h = refl
same-is [] (m ∷ ms) h = absurd (true≢false (sym h))
same-is (n ∷ ns) [] h = absurd (true≢false (sym h))
same-is (n ∷ ns) (m ∷ ms) h =
    let both = and_parts (eqb n m) (same_numbers ns ms) h in
    rw (eqb-true n m both.0, same-is ns ms both.1) refl

-- CHILDREN

module _ (b : Problem) (at : List ℕ) (m : ℕ) (now : is_ready b.block at m ≡ true) where
  ready-same_by : (prefix : List ℕ) (t : Bool) → (t ≡ true → at ≡ prefix) → tally (λ n. t && eqb n m) (ready b.block prefix) ≡ cond t 1 0
  ready-same_by prefix true e =
      let is : is_ready b.block prefix m ≡ true = subst (λ x. is_ready b.block x m ≡ true) (e refl) now in
      let parts = ready-parts b.block prefix m is in
      rising-once (is_ready b.block prefix) m (length b.block) 1 is parts.0 (omega (arith, parts.1))
  ready-same_by prefix false e = tally-none (λ n. false) (λ n. refl) (ready b.block prefix)

  -- of what is ready after the prefix, m comes after at if at is the prefix
  ready-same : (prefix : List ℕ) → tally (λ n. same_numbers (prefix ++ n ∷ []) (at ++ m ∷ [])) (ready b.block prefix) ≡ cond (same_numbers prefix at) 1 0
  ready-same prefix =
      tally-same (λ n. same_numbers (prefix ++ n ∷ []) (at ++ m ∷ [])) (λ n. same_numbers prefix at && eqb n m) (λ n. same-push prefix at n m) (ready b.block prefix)
      ∙ ready-same_by prefix (same_numbers prefix at) (λ e. sym (same-is prefix at e))

  siblings-table : (best : ℕ) (Q : List ℕ → Terminal → Type 0) (siblings : Siblings Terminal) (prefix ns : List ℕ) → SiblingsHold b.block Q prefix ns siblings → tally (stands_at (at ++ m ∷ [])) (sibling_nodes b best prefix ns siblings) ≡ tally (is_cut_at at) (sibling_nodes b best prefix ns siblings) + tally (λ n. same_numbers (prefix ++ n ∷ []) (at ++ m ∷ [])) ns
  siblings-table best Q NoMore prefix [] holds = refl
  siblings-table best Q NoMore prefix (n ∷ ns) holds = absurd holds
  siblings-table best Q (Unsplit terminal siblings) prefix [] holds = absurd holds
  siblings-table best Q (Unsplit terminal siblings) prefix (n ∷ ns) holds =
      rw (cut_none b best (prefix ++ n ∷ []) terminal) (omega (arith, siblings-table best Q siblings prefix ns holds.1))
  siblings-table best Q (Split numbers sub siblings) prefix [] holds = absurd holds
  siblings-table best Q (Split numbers sub siblings) prefix (n ∷ ns) holds =
      let here = prefix ++ n ∷ [] in
      let one : tally (λ k. same_numbers (here ++ k ∷ []) (at ++ m ∷ [])) numbers ≡ cond (same_numbers here at) 1 0 = rw holds.1 (ready-same here) in
      omega (arith, one, siblings-table best Q sub here numbers holds.2, siblings-table best Q siblings prefix ns holds.3, tally-append (stands_at (at ++ m ∷ [])) (sibling_nodes b best here numbers sub) (sibling_nodes b best prefix ns siblings), tally-append (is_cut_at at) (sibling_nodes b best here numbers sub) (sibling_nodes b best prefix ns siblings))

  new-table : (best : ℕ) (Q : List ℕ → Terminal → Type 0) (prefix : List ℕ) (tree : Tree Terminal) → TreeHolds b.block Q prefix tree → tally (stands_at (at ++ m ∷ [])) (new_nodes b best prefix tree) ≡ tally (is_cut_at at) (new_nodes b best prefix tree) + cond (is_cut_at at (record { prefix = prefix; state = root_state b best prefix tree })) 1 0
  new-table best Q prefix (Alone terminal) holds = rw (cut_none b best prefix terminal) refl
  new-table best Q prefix (Parted numbers siblings) holds =
      let one : tally (λ k. same_numbers (prefix ++ k ∷ []) (at ++ m ∷ [])) numbers ≡ cond (same_numbers prefix at) 1 0 = rw holds.1 (ready-same prefix) in
      omega (arith, one, siblings-table best Q siblings prefix numbers holds.2)

  graft-children : (best : ℕ) (Q : List ℕ → Terminal → Type 0) (nodes : List Node) (i : ℕ) (tree : Tree Terminal) → i < length nodes → (node_at nodes i).state ≡ Out → TreeHolds b.block Q (node_at nodes i).prefix tree → tally (stands_at (at ++ m ∷ [])) nodes ≡ tally (is_cut_at at) nodes → tally (stands_at (at ++ m ∷ [])) (with_state nodes i (root_state b best (node_at nodes i).prefix tree) ++ new_nodes b best (node_at nodes i).prefix tree) ≡ tally (is_cut_at at) (with_state nodes i (root_state b best (node_at nodes i).prefix tree) ++ new_nodes b best (node_at nodes i).prefix tree)
  graft-children best Q nodes i tree lt out piece h =
      let prefix = (node_at nodes i).prefix in
      let y : Node = record { prefix = prefix; state = root_state b best prefix tree } in
      let was : is_cut_at at (node_at nodes i) ≡ false = and_left (is_cut (node_at nodes i)) (same_numbers prefix at) (ap is_cut_state out) in
      omega (arith, h, tally-append (stands_at (at ++ m ∷ [])) (set nodes i y) (new_nodes b best prefix tree), tally-append (is_cut_at at) (set nodes i y) (new_nodes b best prefix tree), tally-set (stands_at (at ++ m ∷ [])) nodes i y no_node lt, tally-set (is_cut_at at) nodes i y no_node lt, ap (λ t. cond {A = ℕ} t 1 0) was, new-table best Q prefix tree piece)

-- THE ROOT

siblings-no_root : (b : Problem) (best : ℕ) (siblings : Siblings Terminal) (prefix ns : List ℕ) → tally (stands_at []) (sibling_nodes b best prefix ns siblings) ≡ 0
siblings-no_root b best siblings prefix [] = refl
siblings-no_root b best NoMore prefix (n ∷ ns) = refl
siblings-no_root b best (Unsplit terminal siblings) prefix (n ∷ ns) = rw (push_nil prefix n) (omega (arith, siblings-no_root b best siblings prefix ns))
siblings-no_root b best (Split numbers sub siblings) prefix (n ∷ ns) =
    rw (push_nil prefix n)
    (omega (arith, tally-append (stands_at []) (sibling_nodes b best (prefix ++ n ∷ []) numbers sub) (sibling_nodes b best prefix ns siblings), siblings-no_root b best sub (prefix ++ n ∷ []) numbers, siblings-no_root b best siblings prefix ns))

new-no_root : (b : Problem) (best : ℕ) (prefix : List ℕ) (tree : Tree Terminal) → tally (stands_at []) (new_nodes b best prefix tree) ≡ 0
new-no_root b best prefix (Alone terminal) = refl
new-no_root b best prefix (Parted numbers siblings) = siblings-no_root b best siblings prefix numbers

state-stands : (at : List ℕ) (nodes : List Node) (i : ℕ) (state : State) → i < length nodes → tally (stands_at at) (with_state nodes i state) ≡ tally (stands_at at) nodes
state-stands at nodes i state lt =
    omega (arith, tally-set (stands_at at) nodes i (record { prefix = (node_at nodes i).prefix; state = state }) no_node lt)

-- SPLITS STAND AT INCOMPLETE PREFIXES

abbrev CutsHold : Problem → List Node → Type 0
CutsHold b [] = Unit {0}
CutsHold b (node ∷ nodes) = (node.state ≡ Cut → IsIncomplete b.block node.prefix) × CutsHold b nodes

cuts-each : (b : Problem) (nodes : List Node) → CutsHold b nodes → (node : Node) → Among node nodes → node.state ≡ Cut → IsIncomplete b.block node.prefix
cuts-each b [] h node among = absurd among
cuts-each b (x ∷ nodes) h node (inl here) = subst (λ (y : Node). y.state ≡ Cut → IsIncomplete b.block y.prefix) (sym here) h.0
cuts-each b (x ∷ nodes) h node (inr past) = cuts-each b nodes h.1 node past

cuts-set : (b : Problem) (nodes : List Node) (i : ℕ) (node : Node) → (node.state ≡ Cut → IsIncomplete b.block node.prefix) → CutsHold b nodes → CutsHold b (set nodes i node)
cuts-set b [] i node is h = h
cuts-set b (x ∷ nodes) zero node is h = (is, h.1)
cuts-set b (x ∷ nodes) (suc i) node is h = (h.0, cuts-set b nodes i node is h.1)

cuts-append : (b : Problem) (nodes others : List Node) → CutsHold b nodes → CutsHold b others → CutsHold b (nodes ++ others)
cuts-append b [] others h k = k
cuts-append b (x ∷ nodes) others h k = (h.0, cuts-append b nodes others h.1 k)

uncut : (b : Problem) (best : ℕ) (at : List ℕ) (terminal : Terminal) → state_of b best at terminal ≢ Cut
uncut b best at terminal e = true≢false (sym (ap is_cut_state e) ∙ cut_none b best at terminal)

siblings-cuts : (b : Problem) (best : ℕ) (Q : List ℕ → Terminal → Type 0) (siblings : Siblings Terminal) (prefix ns : List ℕ) → SiblingsHold b.block Q prefix ns siblings → CutsHold b (sibling_nodes b best prefix ns siblings)
siblings-cuts b best Q NoMore prefix [] h = tt
siblings-cuts b best Q NoMore prefix (n ∷ ns) h = absurd h
siblings-cuts b best Q (Unsplit terminal siblings) prefix [] h = absurd h
siblings-cuts b best Q (Unsplit terminal siblings) prefix (n ∷ ns) h = (λ e. absurd (uncut b best (prefix ++ n ∷ []) terminal e), siblings-cuts b best Q siblings prefix ns h.1)
siblings-cuts b best Q (Split numbers sub siblings) prefix [] h = absurd h
siblings-cuts b best Q (Split numbers sub siblings) prefix (n ∷ ns) h =
    (λ e. h.0, cuts-append b (sibling_nodes b best (prefix ++ n ∷ []) numbers sub) (sibling_nodes b best prefix ns siblings) (siblings-cuts b best Q sub (prefix ++ n ∷ []) numbers h.2) (siblings-cuts b best Q siblings prefix ns h.3))

new-cuts : (b : Problem) (best : ℕ) (Q : List ℕ → Terminal → Type 0) (prefix : List ℕ) (tree : Tree Terminal) → TreeHolds b.block Q prefix tree → CutsHold b (new_nodes b best prefix tree)
new-cuts b best Q prefix (Alone terminal) h = tt
new-cuts b best Q prefix (Parted numbers siblings) h = siblings-cuts b best Q siblings prefix numbers h.2

root-cuts : (b : Problem) (best : ℕ) (Q : List ℕ → Terminal → Type 0) (prefix : List ℕ) (tree : Tree Terminal) → TreeHolds b.block Q prefix tree → root_state b best prefix tree ≡ Cut → IsIncomplete b.block prefix
root-cuts b best Q prefix (Alone terminal) h e = absurd (uncut b best prefix terminal e)
root-cuts b best Q prefix (Parted numbers siblings) h e = h.0

-- NO NODE STANDS AT A PREFIX THAT IS NO BEGINNING

none-stands : (rule : Rule) (b : Problem) (best : ℕ) (all : List Node) (at : List ℕ) (n : ℕ) → is_ready b.block at n ≡ false → (nodes : List Node) → NodesHold rule b best all nodes → tally (stands_at (at ++ n ∷ [])) nodes ≡ 0
none-stands rule b best all at n never [] h = refl
none-stands rule b best all at n never (node ∷ nodes) h =
    elim (cases_Bool (stands_at (at ++ n ∷ []) node)) [
      | inl is ↦
          let begins = subst (IsBeginning b.block) (same-is node.prefix (at ++ n ∷ []) is) h.0.0 in
          absurd (true≢false (sym (GoesOn-append b.block [] at (n ∷ []) begins).1.0 ∙ never))
      | inr is ↦ rw (is) (omega (arith, none-stands rule b best all at n never nodes h.1))
    ]

-- THE STEPS

abbrev IsFirst : Problem → List ℕ → Type 0
IsFirst b best = (best ≡ numbers b.block) ⊎ (total_of b best < source_time b)

-- what a step keeps by itself
record Keeps (b : Problem) (l : Ledger) : Type 0 where
  root : tally (stands_at []) l.nodes ≡ 1
  children : (at : List ℕ) (n : ℕ) → is_ready b.block at n ≡ true → tally (stands_at (at ++ n ∷ [])) l.nodes ≡ tally (is_cut_at at) l.nodes
  cuts : CutsHold b l.nodes
  first : IsFirst b l.best

lower-first : (b : Problem) (best order : List ℕ) → total_of b order < total_of b best → IsFirst b best → IsFirst b order
lower-first b best order lt (inl e) = inr (omega (arith, lt, ap (total_of b) e))
lower-first b best order lt (inr h) = inr (omega (arith, lt, h))

module _ (rule : Rule) (b : Problem) where
  opening-keeps : (budget workers : ℕ) → Keeps b (opening b budget workers)
  opening-keeps budget workers =
      record {
        root = refl;
        children = λ at n now. rw (nil_push at n) refl;
        cuts = (λ e. absurd (true≢false (sym (ap is_cut_state e))), tt);
        first = inl refl;
      }

  after_move-keeps : (l : Ledger) (i : ℕ) (state : State) → i < length l.nodes → is_cut (node_at l.nodes i) ≡ false → is_cut_state state ≡ false → Keeps b l → Keeps b (after_move l i state)
  after_move-keeps l i state lt was is h =
      let node : Node = record { prefix = (node_at l.nodes i).prefix; state = state } in
      record {
        root = state-stands [] l.nodes i state lt ∙ h.root;
        children = λ at n now. (
            let before : is_cut_at at (node_at l.nodes i) ≡ false = and_left (is_cut (node_at l.nodes i)) (stands_at at (node_at l.nodes i)) was in
            let after : is_cut_at at node ≡ false = and_left (is_cut node) (stands_at at node) is in
            omega (
              arith,
              state-stands (at ++ n ∷ []) l.nodes i state lt,
              h.children at n now,
              tally-set (is_cut_at at) l.nodes i node no_node lt,
              ap (λ t. cond {A = ℕ} t 1 0) before,
              ap (λ t. cond {A = ℕ} t 1 0) after,
            ));
        cuts = cuts-set b l.nodes i node (λ e. absurd (true≢false (sym (ap is_cut_state e) ∙ is))) h.cuts;
        first = h.first;
      }

  after_graft-keeps : (l : Ledger) (w i : ℕ) (tree : Tree Terminal) → IsOut l i → IsPiece rule b (node_at l.nodes i).prefix tree → Keeps b l → Keeps b (after_graft b l w i (node_at l.nodes i).prefix tree)
  after_graft-keeps l w i tree out piece h =
      let prefix = (node_at l.nodes i).prefix in
      let best = best_time b l in
      let Q = TerminalHolds rule b prefix tree in
      let state = root_state b best prefix tree in
      let node : Node = record { prefix = prefix; state = state } in
      record {
        root = omega (arith, tally-append (stands_at []) (with_state l.nodes i state) (new_nodes b best prefix tree), state-stands [] l.nodes i state out.0, h.root, new-no_root b best prefix tree);
        children = λ at n now. graft-children b at n now best Q l.nodes i tree out.0 out.1 piece (h.children at n now);
        cuts = cuts-append b (with_state l.nodes i state) (new_nodes b best prefix tree) (cuts-set b l.nodes i node (root-cuts b best Q prefix tree piece) h.cuts) (new-cuts b best Q prefix tree piece);
        first = h.first;
      }

  -- the same nodes and the same best order, whatever becomes of the splits
  same-keeps : (old new : Ledger) → new.nodes ≡ old.nodes → new.best ≡ old.best → Keeps b old → Keeps b new
  same-keeps old new nodes best h =
      record {
        root = subst (λ ns. tally (stands_at []) ns ≡ 1) (sym nodes) h.root;
        children = subst (λ ns. (at : List ℕ) (n : ℕ) → is_ready b.block at n ≡ true → tally (stands_at (at ++ n ∷ [])) ns ≡ tally (is_cut_at at) ns) (sym nodes) h.children;
        cuts = subst (CutsHold b) (sym nodes) h.cuts;
        first = subst (IsFirst b) (sym best) h.first;
      }

  moves-keep : (old : Ledger) (event : Event) (reply : Reply) (new : Ledger) → Moves rule b old event reply new → Keeps b old → Keeps b new
  moves-keep old (Grant w) (Granted n) new h t = same-keeps old new (ap (λ (l : Ledger). l.nodes) h.1) (ap (λ (l : Ledger). l.best) h.1) t
  moves-keep old (Claim w) (Claimed (Some i)) new h t = subst (Keeps b) (sym h.2) (after_move-keeps old i Out h.0 (ap is_cut_state h.1) refl t)
  moves-keep old (Claim w) (Claimed None) new h t = subst (Keeps b) (sym h.1) t
  moves-keep old (Graft w i own prefix count None) NotOut new h t = subst (Keeps b) (sym h.1) t
  moves-keep old (Graft w i own prefix count None) OtherPrefix new h t = subst (Keeps b) (sym h.2) t
  moves-keep old (Graft w i own prefix count None) OverAllowance new h t = subst (Keeps b) (sym h.3) t
  moves-keep old (Graft w i own prefix count (Some tree)) Taken new h t =
      let e : prefix ≡ (node_at old.nodes i).prefix = h.1.1 in
      let whole = after_graft-keeps old w i tree h.0 (subst (λ p. IsPiece rule b p tree) e h.4) t in
      subst (Keeps b) (sym h.5) (subst (λ p. Keeps b (after_graft b old w i p tree)) (sym e) whole)
  moves-keep old (Offer w own order time) OtherBlock new h t = subst (Keeps b) (sym h.1) t
  moves-keep old (Offer w own order time) Lower new h t =
      subst (Keeps b) (sym h.2) (record { root = t.root; children = t.children; cuts = t.cuts; first = lower-first b old.best order (omega (arith, h.0.2, h.1)) t.first })
  moves-keep old (Offer w own order time) (NotLower n) new h t = subst (Keeps b) (sym h.3) t
  moves-keep old (Back w i) NotOut new h t = subst (Keeps b) (sym h.1) t
  moves-keep old (Back w i) Returned new h t = subst (Keeps b) (sym h.1) (after_move-keeps old i Open h.0.0 (ap is_cut_state h.0.1) refl t)
  moves-keep old (Retire w) Retired new h t = same-keeps old new (ap (λ (l : Ledger). l.nodes) h) (ap (λ (l : Ledger). l.best) h) t
  moves-keep old event reply new h t = absurd h

  run-keeps : (history : List (Event × Reply)) (old new : Ledger) → Run rule b old history new → Keeps b old → Keeps b new
  run-keeps [] old new h t = subst (Keeps b) (sym h) t
  run-keeps (entry ∷ entries) old new h t = run-keeps entries h.0 new h.2 (moves-keep old entry.0 entry.1 h.0 h.1.1 t)

  -- however the steps fall
  pub history-table : (budget workers : ℕ) (history : List (Event × Reply)) (new : Ledger) → Run rule b (opening b budget workers) history new → IsTable b new
  history-table budget workers history new h =
      let keeps = run-keeps history (opening b budget workers) new h (opening-keeps budget workers) in
      let covers = history-covers rule b budget workers history new h in
      record {
        root = keeps.root;
        children = keeps.children;
        others = λ at n never. none-stands rule b (best_time b new) new.nodes at n never new.nodes covers.nodes;
        splits = cuts-each b new.nodes keeps.cuts;
        best = keeps.first;
      }
