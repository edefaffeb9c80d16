-- Each event of the ledger keeps every legal order covered.
use Rattle.std.proofs.Common.{ℕ, zero, suc, ◌+◌, ◌-◌, ◌≤◌, ◌<◌, ◌≡◌, ◌≢◌, Bool, true, false, true≢false, cond, List, [], ◌∷◌, ◌++◌, length, refl, sym, ap, arith, inl, inr, leb, ◌∙◌, subst, set}
use Rattle.std.proofs.Common.{replicate, leb-true}
use Rattle.s66_isa.specs.{weigh, tally, Among}
use Rattle.s66_isa.proofs.Lists.{tally-append, tally-set, weigh-set, among-front}
use Rattle.s66_model.specs.{Rule, NoneNamed, WrittenEarlier, ClampedStanding, Problem, total_of, IsLegal, IsBeginning, is_ready, Leaf, value, floor, floor_value, Tree, Alone, Parted, Siblings, NoMore}
use Rattle.s66_model.specs.{Unsplit, Split, SiblingsHold, splits, Ending, Bounding, Dominated, Factual, IsEarlier, Terminal, Carries, Frontier, Passed, TerminalHolds, IsPiece, Ledger, Node, State}
use Rattle.s66_model.specs.{Open, Out, Cut, Closed, is_cut, is_cut_state, is_open_state, node_at, no_node, with_state, best_time, IsWorker, allowance, share_of, opening, after_grant, after_retire}
use Rattle.s66_model.specs.{after_move, after_offer, after_graft, state_of, root_state, sibling_nodes, new_nodes, may_name, HasNamed, TerminalIsNamed, AreNamed, IsOut, begins, covers, ClosedHolds}
use Rattle.s66_model.specs.{NodeHolds, NodesHold, Covers}
use Rattle.s66_model.proofs.Beginnings.{source-legal}
use Rattle.s66_model.proofs.Remaining.{ready-among, step-begins, legal-parts}
use Rattle.s66_model.proofs.Floors.{floor-stands}
use Rattle.s66_model.proofs.Trees.{leaf-sound}
use Rattle.s66_model.proofs.OnceCovered.{begins-rest, tree-once, tree-cut}
use Rattle.s66_model.proofs.StandingNodes.{node-begins}

-- STATES

pub open_closed : (ending : Ending) → Open ≢ Closed ending
open_closed ending e = true≢false (ap is_open_state e)

pub out_closed : (ending : Ending) → Out ≢ Closed ending
out_closed ending e = cc

pub cut_closed : (ending : Ending) → Cut ≢ Closed ending
cut_closed ending e = true≢false (ap is_cut_state e)

-- THE OPENING

weigh-zeros : (k : ℕ) → weigh (λ n. n) (replicate k 0) ≡ 0
weigh-zeros zero = refl
weigh-zeros (suc k) = omega (arith, weigh-zeros k)

pub opening-covers : (rule : Rule) (b : Problem) (budget workers : ℕ) → Covers rule b budget (opening b budget workers)
opening-covers rule b budget workers =
    record {
      once = λ order legal. refl;
      nodes = ((tt, λ ending e. absurd (open_closed ending e)), tt);
      best = source-legal b.block;
      spent = refl;
      sum = omega (arith, weigh-zeros workers);
    }

-- NODES THAT MAY BE NAMED

-- a state that is not dominated may be named if the one before it might
stays-named : (rule : Rule) (old new : State) → may_name ClampedStanding new ≡ true → may_name rule old ≡ true → may_name rule new ≡ true
stays-named NoneNamed old new stands h = h
stays-named WrittenEarlier old new stands h = refl
stays-named ClampedStanding old new stands h = stands

named-set : (rule : Rule) (nodes : List Node) (i : ℕ) (state : State) (name : List ℕ) → i < length nodes → may_name ClampedStanding state ≡ true → HasNamed rule nodes name → HasNamed rule (with_state nodes i state) name
named-set rule [] i state name lt stands h = absurd (omega (arith, lt))
named-set rule (x ∷ nodes) zero state name lt stands (node, inl here, is, may) =
    (record { prefix = x.prefix; state = state }, inl refl, ap (λ (y : Node). y.prefix) (sym here) ∙ is, stays-named rule node.state state stands may)
named-set rule (x ∷ nodes) zero state name lt stands (node, inr past, is, may) = (node, inr past, is, may)
named-set rule (x ∷ nodes) (suc i) state name lt stands (node, inl here, is, may) = (node, inl here, is, may)
named-set rule (x ∷ nodes) (suc i) state name lt stands (node, inr past, is, may) =
    let (other, among, same, named) = named-set rule nodes i state name (omega (arith, lt)) stands (node, past, is, may) in
    (other, inr among, same, named)

named-front : (rule : Rule) (nodes others : List Node) (name : List ℕ) → HasNamed rule nodes name → HasNamed rule (nodes ++ others) name
named-front rule nodes others name (node, among, is, may) = (node, among-front node nodes others among, is, may)

-- WHAT HOLDS OF THE NODES

module _ (rule : Rule) (b : Problem) where
  pub holds-at : (best : ℕ) (all nodes : List Node) (i : ℕ) → i < length nodes → NodesHold rule b best all nodes → NodeHolds rule b best all (node_at nodes i)
  holds-at best all [] i lt h = absurd (omega arith)
  holds-at best all (node ∷ nodes) zero lt h = h.0
  holds-at best all (node ∷ nodes) (suc i) lt h = holds-at best all nodes i (omega arith) h.1

  holds-set : (best : ℕ) (all nodes : List Node) (i : ℕ) (other : Node) → NodeHolds rule b best all other → NodesHold rule b best all nodes → NodesHold rule b best all (set nodes i other)
  holds-set best all [] i other holds h = tt
  holds-set best all (node ∷ nodes) zero other holds h = (holds, h.1)
  holds-set best all (node ∷ nodes) (suc i) other holds h = (h.0, holds-set best all nodes i other holds h.1)

  holds-append : (best : ℕ) (all nodes others : List Node) → NodesHold rule b best all nodes → NodesHold rule b best all others → NodesHold rule b best all (nodes ++ others)
  holds-append best all [] others h k = k
  holds-append best all (node ∷ nodes) others h k = (h.0, holds-append best all nodes others h.1 k)

  -- under a lower best time too, and if every node that may be named still may
  closed-goes-on : (best lower : ℕ) (all more : List Node) → lower ≤ best → ((name : List ℕ) → HasNamed rule all name → HasNamed rule more name) → (at : List ℕ) (ending : Ending) → ClosedHolds rule b best all at ending → ClosedHolds rule b lower more at ending
  closed-goes-on best lower all more le named at (Bounding leaf) h = (h.0, omega (arith, le, h.1), h.2)
  closed-goes-on best lower all more le named at (Dominated name) h = (h.0, named name h.1)
  closed-goes-on best lower all more le named at (Factual leaf) h = h

  holds-on : (best lower : ℕ) (all more : List Node) → lower ≤ best → ((name : List ℕ) → HasNamed rule all name → HasNamed rule more name) → (nodes : List Node) → NodesHold rule b best all nodes → NodesHold rule b lower more nodes
  holds-on best lower all more le named [] h = tt
  holds-on best lower all more le named (node ∷ nodes) h =
      ((h.0.0, λ ending e. closed-goes-on best lower all more le named node.prefix ending (h.0.1 ending e)), holds-on best lower all more le named nodes h.1)

  -- a state that is no closing
  holds-plain : (best : ℕ) (all : List Node) (node : Node) (state : State) → ((ending : Ending) → state ≢ Closed ending) → NodeHolds rule b best all node → NodeHolds rule b best all (record { prefix = node.prefix; state = state })
  holds-plain best all node state plain h = (h.0, λ ending e. absurd (plain ending e))

-- WHAT HOLDS OF A PIECE'S NODES

-- a prefix's floor is at most each total in its subtree
pub floor-sound : (b : Problem) (prefix order : List ℕ) → IsBeginning b.block prefix → IsLegal b.block order → begins prefix order ≡ true → floor_value b prefix ≤ total_of b order
floor-sound b prefix order is legal h =
    let (rest, e) = begins-rest prefix order h in
    let parts = legal-parts b.block prefix rest (subst (IsLegal b.block) e legal) in
    subst (λ x. floor_value b prefix ≤ total_of b x) (sym e) (leaf-sound b prefix rest (floor b prefix) is parts.1 (floor-stands b prefix is))

-- no beginning is earlier than itself with more numbers
never-earlier : (at more : List ℕ) → IsEarlier (at ++ more) at → ⊥
never-earlier [] [] h = h
never-earlier [] (n ∷ more) h = h
never-earlier (n ∷ at) more (inl less) = omega (arith, less)
never-earlier (n ∷ at) more (inr same) = never-earlier at more same.1

module _ (rule : Rule) (b : Problem) where
  closed-either : (best : ℕ) (all : List Node) (at : List ℕ) (leaf : Leaf) → IsBeginning b.block at → leaf ≡ floor b at → (t : Bool) → (t ≡ true → best ≤ value b at leaf) → (other : Ending) → cond t (Closed (Bounding leaf)) Open ≡ Closed other → ClosedHolds rule b best all at other
  closed-either best all at leaf begins is true le other e =
      let same : Bounding leaf ≡ other = cc in
      subst (ClosedHolds rule b best all at) same (is, le refl, λ order legal h. subst (λ x. value b at x ≤ total_of b order) (sym is) (floor-sound b at order begins legal h))
  closed-either best all at leaf begins is false le other e = absurd (open_closed other e)

  -- in a piece over this prefix, with this tree, whose names are those of nodes
  module _ (best : ℕ) (all : List Node) (root : List ℕ) (whole : Tree Terminal) where
    terminal-holds : (at : List ℕ) (terminal : Terminal) → IsBeginning b.block at → TerminalHolds rule b root whole at terminal → TerminalIsNamed rule all at terminal → NodeHolds rule b best all (record { prefix = at; state = state_of b best at terminal })
    terminal-holds at (Carries leaf) is holds named =
        (is, closed-either best all at leaf is holds (leb best (value b at leaf)) (leb-true best (value b at leaf)))
    terminal-holds at Frontier is holds named = (is, λ ending e. absurd (open_closed ending e))
    terminal-holds at (Passed name) is holds named =
        (is, λ ending e. (let same : Dominated name ≡ ending = cc in subst (ClosedHolds rule b best all at) same (holds.0, named)))

    siblings-hold : (siblings : Siblings Terminal) (prefix ns : List ℕ) → IsBeginning b.block prefix → ((n : ℕ) → Among n ns → is_ready b.block prefix n ≡ true) → SiblingsHold b.block (TerminalHolds rule b root whole) prefix ns siblings → SiblingsHold b.block (TerminalIsNamed rule all) prefix ns siblings → NodesHold rule b best all (sibling_nodes b best prefix ns siblings)
    siblings-hold NoMore prefix [] is each holds named = tt
    siblings-hold NoMore prefix (n ∷ ns) is each holds named = absurd holds
    siblings-hold (Unsplit terminal siblings) prefix [] is each holds named = absurd holds
    siblings-hold (Unsplit terminal siblings) prefix (n ∷ ns) is each holds named =
        (terminal-holds (prefix ++ n ∷ []) terminal (step-begins b.block prefix n is (each n (inl refl))) holds.0 named.0, siblings-hold siblings prefix ns is (λ m among. each m (inr among)) holds.1 named.1)
    siblings-hold (Split numbers sub siblings) prefix [] is each holds named = absurd holds
    siblings-hold (Split numbers sub siblings) prefix (n ∷ ns) is each holds named =
        let at = prefix ++ n ∷ [] in
        let is2 : IsBeginning b.block at = step-begins b.block prefix n is (each n (inl refl)) in
        let below = siblings-hold sub at numbers is2 (λ m among. ready-among b.block at m (subst (Among m) holds.1 among)) holds.2 named.2 in
        ((is2, λ ending e. absurd (cut_closed ending e)), holds-append rule b best all (sibling_nodes b best at numbers sub) (sibling_nodes b best prefix ns siblings) below (siblings-hold siblings prefix ns is (λ m among. each m (inr among)) holds.3 named.3))

  root-holds : (best : ℕ) (all : List Node) (prefix : List ℕ) (tree : Tree Terminal) → IsBeginning b.block prefix → IsPiece rule b prefix tree → AreNamed rule b all prefix tree → NodeHolds rule b best all (record { prefix = prefix; state = root_state b best prefix tree })
  root-holds best all prefix (Alone terminal) is holds named = terminal-holds best all prefix (Alone terminal) prefix terminal is holds named
  root-holds best all prefix (Parted numbers siblings) is holds named = (is, λ ending e. absurd (cut_closed ending e))

  new-hold : (best : ℕ) (all : List Node) (prefix : List ℕ) (tree : Tree Terminal) → IsBeginning b.block prefix → IsPiece rule b prefix tree → AreNamed rule b all prefix tree → NodesHold rule b best all (new_nodes b best prefix tree)
  new-hold best all prefix (Alone terminal) is holds named = tt
  new-hold best all prefix (Parted numbers siblings) is holds named =
      siblings-hold best all prefix (Parted numbers siblings) siblings prefix numbers is (λ n among. ready-among b.block prefix n (subst (Among n) holds.1 among)) holds.2 named.2

carries-stands : (leaf : Leaf) (t : Bool) → may_name ClampedStanding (cond t (Closed (Bounding leaf)) Open) ≡ true
carries-stands leaf true = refl
carries-stands leaf false = refl

-- a piece's root isn't dominated
pub root-stands : (rule : Rule) (b : Problem) (best : ℕ) (prefix : List ℕ) (tree : Tree Terminal) → IsPiece rule b prefix tree → may_name ClampedStanding (root_state b best prefix tree) ≡ true
root-stands rule b best prefix (Alone (Carries leaf)) h = carries-stands leaf (leb best (value b prefix leaf))
root-stands rule b best prefix (Alone Frontier) h = refl
root-stands NoneNamed b best prefix (Alone (Passed name)) h = absurd h.1
root-stands WrittenEarlier b best prefix (Alone (Passed name)) h =
    let (path, is) = node-begins prefix (Alone (Passed name)) name h.1 in
    absurd (never-earlier prefix path (subst (λ x. IsEarlier x prefix) is h.0.1))
root-stands ClampedStanding b best prefix (Alone (Passed name)) h = absurd (omega (arith, h.1))
root-stands rule b best prefix (Parted numbers siblings) h = refl

-- CLAIM AND BACK, which change one node's state

module _ (rule : Rule) (b : Problem) (budget : ℕ) where
  after_move-once : (l : Ledger) (i : ℕ) (state : State) (order : List ℕ) → i < length l.nodes → is_cut (node_at l.nodes i) ≡ false → is_cut_state state ≡ false → tally (covers order) l.nodes ≡ 1 → tally (covers order) (with_state l.nodes i state) ≡ 1
  after_move-once l i state order lt was is h =
      let node : Node = record { prefix = (node_at l.nodes i).prefix; state = state } in
      let before : covers order (node_at l.nodes i) ≡ begins (node_at l.nodes i).prefix order = rw was refl in
      let after : covers order node ≡ begins (node_at l.nodes i).prefix order = rw is refl in
      omega (arith, tally-set (covers order) l.nodes i node no_node lt, ap (λ t. cond {A = ℕ} t 1 0) (before ∙ sym after))

  after_move-spent : (l : Ledger) (i : ℕ) (state : State) → i < length l.nodes → is_cut (node_at l.nodes i) ≡ false → is_cut_state state ≡ false → l.spent ≡ tally is_cut l.nodes → l.spent ≡ tally is_cut (with_state l.nodes i state)
  after_move-spent l i state lt was is h =
      let node : Node = record { prefix = (node_at l.nodes i).prefix; state = state } in
      omega (arith, tally-set is_cut l.nodes i node no_node lt, ap (λ t. cond {A = ℕ} t 1 0) was, ap (λ t. cond {A = ℕ} t 1 0) is)

  pub after_move-covers : (l : Ledger) (i : ℕ) (state : State) → i < length l.nodes → is_cut (node_at l.nodes i) ≡ false → is_cut_state state ≡ false → may_name ClampedStanding state ≡ true → ((ending : Ending) → state ≢ Closed ending) → Covers rule b budget l → Covers rule b budget (after_move l i state)
  after_move-covers l i state lt was is stands plain c =
      let all = with_state l.nodes i state in
      let kept = holds-on rule b (best_time b l) (best_time b l) l.nodes all (omega arith) (λ name. named-set rule l.nodes i state name lt stands) l.nodes c.nodes in
      record {
        once = λ order legal. after_move-once l i state order lt was is (c.once order legal);
        nodes = holds-set rule b (best_time b l) all l.nodes i (record { prefix = (node_at l.nodes i).prefix; state = state }) (holds-plain rule b (best_time b l) all (node_at l.nodes i) state plain (holds-at rule b (best_time b l) all l.nodes i lt kept)) kept;
        best = c.best;
        spent = after_move-spent l i state lt was is c.spent;
        sum = c.sum;
      }

  -- GRANT AND RETIRE, which change one allowance

  pub after_grant-covers : (l : Ledger) (w : ℕ) → IsWorker l w → Covers rule b budget l → Covers rule b budget (after_grant l w)
  after_grant-covers l w is c =
      record {
        once = c.once;
        nodes = c.nodes;
        best = c.best;
        spent = c.spent;
        sum = omega (arith, c.sum, weigh-set (λ n. n) l.allowances (w - 1) (allowance l w + share_of l) 0 (omega (arith, is.0, is.1)));
      }

  pub after_retire-covers : (l : Ledger) (w : ℕ) → IsWorker l w → Covers rule b budget l → Covers rule b budget (after_retire l w)
  after_retire-covers l w is c =
      record {
        once = c.once;
        nodes = c.nodes;
        best = c.best;
        spent = c.spent;
        sum = omega (arith, c.sum, weigh-set (λ n. n) l.allowances (w - 1) 0 0 (omega (arith, is.0, is.1)));
      }

  -- OFFER, which lowers the best time

  pub after_offer-covers : (l : Ledger) (order : List ℕ) → IsLegal b.block order → total_of b order < best_time b l → Covers rule b budget l → Covers rule b budget (after_offer l order)
  after_offer-covers l order legal lt c =
      record {
        once = c.once;
        nodes = holds-on rule b (best_time b l) (total_of b order) l.nodes l.nodes (omega (arith, lt)) (λ name h. h) l.nodes c.nodes;
        best = legal;
        spent = c.spent;
        sum = c.sum;
      }

  -- GRAFT, which puts a piece's nodes in place of one

  after_graft-once : (l : Ledger) (i : ℕ) (tree : Tree Terminal) (order : List ℕ) → IsLegal b.block order → IsOut l i → IsPiece rule b (node_at l.nodes i).prefix tree → tally (covers order) l.nodes ≡ 1 → tally (covers order) (with_state l.nodes i (root_state b (best_time b l) (node_at l.nodes i).prefix tree) ++ new_nodes b (best_time b l) (node_at l.nodes i).prefix tree) ≡ 1
  after_graft-once l i tree order legal out piece h =
      let at = (node_at l.nodes i).prefix in
      let best = best_time b l in
      let node : Node = record { prefix = at; state = root_state b best at tree } in
      let before : covers order (node_at l.nodes i) ≡ begins at order = rw (ap is_cut_state out.1) refl in
      omega (arith, tally-append (covers order) (set l.nodes i node) (new_nodes b best at tree), tally-set (covers order) l.nodes i node no_node out.0, ap (λ t. cond {A = ℕ} t 1 0) before, tree-once b order legal best (TerminalHolds rule b at tree) at tree piece)

  after_graft-spent : (l : Ledger) (i : ℕ) (tree : Tree Terminal) → IsOut l i → IsPiece rule b (node_at l.nodes i).prefix tree → l.spent ≡ tally is_cut l.nodes → l.spent + splits tree ≡ tally is_cut (with_state l.nodes i (root_state b (best_time b l) (node_at l.nodes i).prefix tree) ++ new_nodes b (best_time b l) (node_at l.nodes i).prefix tree)
  after_graft-spent l i tree out piece h =
      let at = (node_at l.nodes i).prefix in
      let best = best_time b l in
      let node : Node = record { prefix = at; state = root_state b best at tree } in
      let before : is_cut (node_at l.nodes i) ≡ false = ap is_cut_state out.1 in
      omega (arith, tally-append is_cut (set l.nodes i node) (new_nodes b best at tree), tally-set is_cut l.nodes i node no_node out.0, ap (λ t. cond {A = ℕ} t 1 0) before, tree-cut b best (TerminalHolds rule b at tree) at tree piece)

  pub after_graft-covers : (l : Ledger) (w i : ℕ) (tree : Tree Terminal) → IsWorker l w → IsOut l i → splits tree ≤ allowance l w → IsPiece rule b (node_at l.nodes i).prefix tree → AreNamed rule b (after_graft b l w i (node_at l.nodes i).prefix tree).nodes (node_at l.nodes i).prefix tree → Covers rule b budget l → Covers rule b budget (after_graft b l w i (node_at l.nodes i).prefix tree)
  after_graft-covers l w i tree worker out le piece named c =
      let at = (node_at l.nodes i).prefix in
      let best = best_time b l in
      let all = (after_graft b l w i at tree).nodes in
      let is : IsBeginning b.block at = (holds-at rule b best l.nodes l.nodes i out.0 c.nodes).0 in
      let others = new_nodes b best at tree in
      let kept = holds-on rule b best best l.nodes all (omega arith) (λ name h. named-front rule (with_state l.nodes i (root_state b best at tree)) others name (named-set rule l.nodes i (root_state b best at tree) name out.0 (root-stands rule b best at tree piece) h)) l.nodes c.nodes in
      record {
        once = λ order legal. after_graft-once l i tree order legal out piece (c.once order legal);
        nodes = holds-append rule b best all (with_state l.nodes i (root_state b best at tree)) others (holds-set rule b best all l.nodes i (record { prefix = at; state = root_state b best at tree }) (root-holds rule b best all at tree is piece named) kept) (new-hold rule b best all at tree is piece named);
        best = c.best;
        spent = after_graft-spent l i tree out piece c.spent;
        sum = omega (arith, c.sum, weigh-set (λ n. n) l.allowances (w - 1) (allowance l w - splits tree) 0 (omega (arith, worker.0, worker.1)));
      }
