-- Each reply that the machine may give to a piece: taken, or refused for a reason.
use Rattle.std.proofs.Common.{ℕ, ◌+◌, ◌-◌, ◌*◌, ◌≤◌, ◌<◌, ◌^◌, ◌≡◌, Bool, true, false, true≢false, cond, List, [], ◌∷◌, ◌++◌, length, drop, get_or, set, refl, sym, ap, arith, subst, ◌∙◌, Some, None}
use Rattle.std.proofs.Common.{length-append, length-set}
use Rattle.s66_isa.specs.{BLOCK_LIMIT, weigh, Instr, numbers}
use Rattle.s66_isa.proofs.Lists.{ones, weigh-filter}
use Rattle.s66_model.specs.{Problem, total_of, ready, is_ready, Tree, Alone, Parted, Siblings, NoMore, Unsplit, Split, SiblingsHold, TreeHolds, flat_siblings, flat, sibling_splits, splits, Terminal}
use Rattle.s66_model.specs.{TerminalHolds, IsPiece, Reply, Graft, Taken, NotOut, OtherPrefix, OverAllowance, Moves, root_state, new_nodes, AreNamed, graft_event, IsOwnPiece}
use Rattle.s66_model.specs.LedgerRuns as model
use Rattle.s66_model.proofs.Beginnings.{length-rising}
use Rattle.s66_node.specs.{Node, PieceOf, tree_of, AreTreeNodes}
use Rattle.s66_ledger.specs.{prefixes, name_at, stored_at, nodes_of, made_lines, HaveFloors, StoresOut, MachineOf, Stored, ledger_of, machine_of, IsKeptMachine, IsAttachedAs, IsGraftMove, IsTakenMove}
use Rattle.s66_ledger.proofs.SeenNodes.{length-nodes, at-nodes, out-seen}
use Rattle.s66_ledger.proofs.Taken.{same-splits, taken-whole}
use Rattle.s66_ledger.proofs.Attached.{piece-length}
use Rattle.s66_ledger.proofs.Events.{is-out, not-out, kept-room, kept-next, is-worker}

-- HOW MANY LINES

ready-few : (block : List Instr) (prefix : List ℕ) → length (ready block prefix) ≤ length block
ready-few block prefix =
    omega (arith, ones (ready block prefix), weigh-filter (is_ready block prefix) (λ _. 1) (numbers block), passing-few (is_ready block prefix) (numbers block), length-rising (length block) 1)
  where
    at-most : (x : Bool) → cond {A = ℕ} x 1 0 ≤ 1
    at-most true = omega arith
    at-most false = omega arith

    passing-few : (test : ℕ → Bool) (ns : List ℕ) → weigh (λ n. cond (test n) 1 0) ns ≤ length ns
    passing-few test [] = omega arith
    passing-few test (n ∷ ns) = omega (arith, at-most (test n), passing-few test ns)

module _ (block : List Instr) (Q : List ℕ → Terminal → Type 0) (few : length block ≤ BLOCK_LIMIT) where
  siblings-lines : (prefix ns : List ℕ) (siblings : Siblings Terminal) → SiblingsHold block Q prefix ns siblings → length (flat_siblings siblings) ≤ length ns + BLOCK_LIMIT * sibling_splits siblings
  siblings-lines prefix [] NoMore h = omega arith
  siblings-lines prefix (n ∷ ns) NoMore h = absurd h
  siblings-lines prefix [] (Unsplit t siblings) h = absurd h
  siblings-lines prefix (n ∷ ns) (Unsplit t siblings) h = omega (arith, siblings-lines prefix ns siblings h.1)
  siblings-lines prefix [] (Split numbers sub siblings) h = absurd h
  siblings-lines prefix (n ∷ ns) (Split numbers sub siblings) h =
      omega (arith, siblings-lines (prefix ++ n ∷ []) numbers sub h.2, siblings-lines prefix ns siblings h.3, length-append (flat_siblings sub) (flat_siblings siblings), ap length h.1, ready-few block (prefix ++ n ∷ []), few)

  tree-lines : (prefix : List ℕ) (tree : Tree Terminal) → TreeHolds block Q prefix tree → length (flat tree) ≤ 1 + BLOCK_LIMIT * splits tree
  tree-lines prefix (Alone t) h = omega arith
  tree-lines prefix (Parted numbers siblings) h = omega (arith, siblings-lines prefix numbers siblings h.2, ap length h.1, ready-few block prefix, few)

-- a piece has at most a node for its root and one for each child of a split
pub piece-nodes : (p : PieceOf) → AreTreeNodes p → length p.problem.block ≤ BLOCK_LIMIT → length p.nodes ≤ 1 + BLOCK_LIMIT * splits (tree_of p)
piece-nodes p are few = omega (arith, piece-length p are, tree-lines p.problem.block (TerminalHolds p.rule p.problem p.prefix (tree_of p)) few p.prefix (tree_of p) are.piece)

-- WHAT A NODE THAT IS OUT IS, as it is stored

module _ (m : Stored) (l : MachineOf) (is : machine_of m ≡ l) (i : ℕ) where
  seen-over : i < length m.nodes → (model.node_at l.state.nodes i).prefix ≡ get_or (prefixes m.nodes) i []
  seen-over lt =
      sym (ap (λ (l : MachineOf). (model.node_at l.state.nodes i).prefix) is) ∙ ap (λ (n : model.Node). n.prefix) (at-nodes m.problem m.nodes i lt)

  pub out-seen-as : StoresOut m.nodes i → model.IsOut l.state i
  out-seen-as out =
      subst (λ (l : MachineOf). model.IsOut l.state i) is (is-out m.problem m.nodes m.best.numbers m.left m.allowances m.spent i out)

  pub over-seen-as : (prefix : List ℕ) → StoresOut m.nodes i → get_or (prefixes m.nodes) i [] ≡ prefix → (model.node_at l.state.nodes i).prefix ≡ prefix
  over-seen-as prefix out over = seen-over out.0 ∙ over

  pub out-stored : model.IsOut l.state i → StoresOut m.nodes i
  out-stored out =
      let lt : i < length m.nodes = omega (arith, out.0, length-nodes m.problem m.nodes, ap (λ (l : MachineOf). length l.state.nodes) is) in (
        lt,
        out-seen m.problem (name_at m.nodes i) (get_or (prefixes m.nodes) i []) (stored_at m.nodes i).state
            (sym (ap (λ (n : model.Node). n.state) (at-nodes m.problem m.nodes i lt)) ∙ (ap (λ (l : MachineOf). (model.node_at l.state.nodes i).state) is ∙ out.1)),
      )

  pub over-stored : (prefix : List ℕ) → model.IsOut l.state i → (model.node_at l.state.nodes i).prefix ≡ prefix → get_or (prefixes m.nodes) i [] ≡ prefix
  over-stored prefix out over = sym (seen-over (out-stored out).0) ∙ over

-- REFUSALS

module _ (m : Stored) (h : IsKeptMachine m) (l : MachineOf) (is : machine_of m ≡ l) (w : ℕ) (worker : (1 ≤ w) × (w ≤ l.workers)) (i : ℕ) (p : PieceOf) (own : Bool) (owns : IsOwnPiece l.rule l.problem p.rule p.problem own) where
  abbrev tree : Tree Terminal
  tree = tree_of p

  works : (1 ≤ w) × (w ≤ length m.allowances)
  works = is-worker m h l is w worker

  owned : IsOwnPiece m.rule m.problem p.rule p.problem own
  owned = subst (λ (l : MachineOf). IsOwnPiece l.rule l.problem p.rule p.problem own) (sym is) owns

  prefix-is : i < length m.nodes → (model.node_at (nodes_of m.problem m.nodes) i).prefix ≡ get_or (prefixes m.nodes) i []
  prefix-is lt = ap (λ (n : model.Node). n.prefix) (at-nodes m.problem m.nodes i lt)

  -- a refusal changes nothing
  refused : (reply : Reply) → graft_event w i own p.prefix tree reply ≡ Graft w i own p.prefix (splits tree) None → Moves m.rule m.problem (ledger_of m) (Graft w i own p.prefix (splits tree) None) reply (ledger_of m) → IsGraftMove l w i p reply l
  refused reply event moves =
      subst (λ (l : MachineOf). IsGraftMove l w i p reply l) is
      (Graft w i own p.prefix (splits tree) None, (own, tree, owned, taken-whole tree, sym event), (refl, refl, refl, (works, moves), refl))

  pub graft-not-out : ¬ StoresOut m.nodes i → IsGraftMove l w i p NotOut l
  graft-not-out never = refused NotOut refl (not-out m.problem m.nodes m.best.numbers m.left m.allowances m.spent i never, refl)

  module _ (out : StoresOut m.nodes i) where
    seen : model.IsOut (ledger_of m) i
    seen = is-out m.problem m.nodes m.best.numbers m.left m.allowances m.spent i out

    pub graft-other : own ≡ false → IsGraftMove l w i p OtherPrefix l
    graft-other other = refused OtherPrefix refl (seen, (λ over. true≢false (sym over.0 ∙ other)), refl)

    pub graft-other-prefix : ¬ (get_or (prefixes m.nodes) i [] ≡ p.prefix) → IsGraftMove l w i p OtherPrefix l
    graft-other-prefix other = refused OtherPrefix refl (seen, (λ over. other (sym (over.1 ∙ prefix-is out.0))), refl)

    pub graft-over : own ≡ true → get_or (prefixes m.nodes) i [] ≡ p.prefix → get_or m.allowances (w - 1) 0 < splits tree → IsGraftMove l w i p OverAllowance l
    graft-over mine over lt = refused OverAllowance refl (seen, (mine, sym over ∙ sym (prefix-is out.0)), lt, refl)

-- A PIECE THAT IS TAKEN

module _ (m : Stored) (h : IsKeptMachine m) (l : MachineOf) (is : machine_of m ≡ l) (w : ℕ) (worker : (1 ≤ w) × (w ≤ l.workers)) (i : ℕ) (p : PieceOf) (by : p.rule ≡ l.rule) (of : p.problem ≡ l.problem) (out : model.IsOut l.state i) where
  abbrev b : Problem
  b = m.problem

  rule : p.rule ≡ m.rule
  rule = by ∙ sym (ap (λ (l : MachineOf). l.rule) is)

  problem : p.problem ≡ b
  problem = of ∙ sym (ap (λ (l : MachineOf). l.problem) is)

  pub piece-floors : HaveFloors p.problem m.nodes
  piece-floors = subst (λ (q : Problem). HaveFloors q m.nodes) (sym problem) h.floors

  module _ (are : AreTreeNodes p) (few : length b.block ≤ BLOCK_LIMIT) (fits : splits (tree_of p) ≤ model.allowance l.state w) where
    nodes-few : length p.nodes ≤ 1 + BLOCK_LIMIT * splits (tree_of p)
    nodes-few = piece-nodes p are (omega (arith, few, ap (λ (q : Problem). length q.block) problem))

    pub within : splits (tree_of p) ≤ get_or m.allowances (w - 1) 0
    within = omega (arith, fits, ap (λ (l : MachineOf). model.allowance l.state w) is)

    -- there is room for its nodes
    pub piece-room : length m.nodes + length p.nodes < 2 ^ 32
    piece-room = omega (arith, nodes-few, within, kept-room m h (w - 1), h.room, h.few)

    module _ (new : List Node) (count : ℕ) (over : (model.node_at l.state.nodes i).prefix ≡ p.prefix) (counts : count ≡ splits (tree_of p)) (best : ℕ) (best_is : best ≡ total_of m.best.problem m.best.numbers) (at : IsAttachedAs p best i m.nodes new) where
      -- as it is taken
      abbrev part : Tree Terminal
      part = at.part

      abbrev after : Stored
      after = record m { nodes = new; allowances = set m.allowances (w - 1) (get_or m.allowances (w - 1) 0 - count); spent = m.spent + count }

      counted : count ≡ splits part
      counted = counts ∙ same-splits (tree_of p) part at.taken.opens

      made : nodes_of b new ≡ model.with_state (nodes_of b m.nodes) i (root_state b (total_of b m.best.numbers) p.prefix part) ++ new_nodes b (total_of b m.best.numbers) p.prefix part
      made =
          subst (λ k. nodes_of b new ≡ model.with_state (nodes_of b m.nodes) i (root_state b k p.prefix part) ++ new_nodes b k p.prefix part) (best_is ∙ ap (λ (r : Problem). total_of r m.best.numbers) h.own)
          (subst (λ (r : Problem). nodes_of r new ≡ model.with_state (nodes_of r m.nodes) i (root_state r best p.prefix part) ++ new_nodes r best p.prefix part) problem at.nodes)

      taken-moves : Moves m.rule b (ledger_of m) (Graft w i true p.prefix (splits part) (Some part)) Taken (ledger_of after)
      taken-moves =
          let state : ledger_of after ≡ model.after_graft b (ledger_of m) w i p.prefix part =
          ap (λ n. record { nodes = nodes_of b new; best = m.best.numbers; left = m.left; allowances = set m.allowances (w - 1) (get_or m.allowances (w - 1) 0 - n); spent = m.spent + n }) counted
          ∙ ap (λ (ns : List model.Node). record { nodes = ns; best = m.best.numbers; left = m.left; allowances = set m.allowances (w - 1) (get_or m.allowances (w - 1) 0 - splits part); spent = m.spent + splits part }) made in
          let is_piece : IsPiece m.rule b p.prefix part = subst (λ r. IsPiece r b p.prefix part) rule (subst (λ (r : Problem). IsPiece p.rule r p.prefix part) problem at.piece) in
          let are_named : AreNamed m.rule b (nodes_of b new) p.prefix part =
          subst (λ r. AreNamed r b (nodes_of b new) p.prefix part) rule (subst (λ (r : Problem). AreNamed p.rule r (nodes_of r new) p.prefix part) problem at.named) in
          (subst (λ (l : MachineOf). model.IsOut l.state i) (sym is) out, (refl, sym over ∙ sym (ap (λ (l : MachineOf). (model.node_at l.state.nodes i).prefix) is)), omega (arith, counted, counts, within), refl, is_piece, state, are_named)

      pub graft-taken : IsTakenMove l w i p (machine_of after)
      graft-taken =
          subst (λ (l : MachineOf). IsTakenMove l w i p (machine_of after)) is
          (record {
            rule = rule;
            problem = problem;
            part = part;
            taken = at.taken;
            lines = subst (λ (r : Problem). made_lines r new ≡ made_lines r m.nodes ++ drop 1 (flat part)) problem at.lines;
            move = (refl, refl, length-set m.allowances (w - 1) (get_or m.allowances (w - 1) 0 - count), (is-worker m h l is w worker, taken-moves), refl);
          })

      pub kept-taken : IsKeptMachine after
      kept-taken =
          kept-next m h new m.best m.left (set m.allowances (w - 1) (get_or m.allowances (w - 1) 0 - count)) (m.spent + count) (Graft w i true p.prefix (splits part) (Some part)) Taken h.own
          (subst (λ (r : Problem). HaveFloors r new) problem at.floors) (omega (arith, at.count, nodes-few, counts, h.room)) (length-set m.allowances (w - 1) (get_or m.allowances (w - 1) 0 - count)) (is-worker m h l is w worker, taken-moves)
