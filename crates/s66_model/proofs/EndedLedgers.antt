-- If the steps of a search have ended, the answer that the last state is finishes the ledger with which they began.
use Rattle.std.proofs.Common.{ℕ, ◌≤◌, ◌<◌, ◌≡◌, ◌⊎◌, Bool, true, false, cond, List, [], ◌∷◌, ◌++◌, length, refl, sym, ap, arith, inl, inr, subst, ◌∙◌, Some, None}
use Rattle.std.proofs.lemmas.Bool.{and_left, cases_lt}
use Rattle.s66_isa.specs.{tally, least, Among, numbers}
use Rattle.s66_isa.proofs.Lists.{tally-append, tally-set, least-le, among-rest}
use Rattle.s66_model.specs.{Rule, Problem, IsBeginning, IsComplete, IsBound, Leaf, Whole, value, floor, floor_value, MayStand, Siblings, NoMore, Unsplit, Split, Tree, Alone, Parted, SiblingsHold}
use Rattle.s66_model.specs.{TreeHolds, sibling_values, tree_values, Ending, Bounding, Dominated, Factual, source_time, MayEnd, ending_values, IsAnswer, Ledger, Node, State, Open, Out, Cut, Closed}
use Rattle.s66_model.specs.{is_cut, is_cut_state, is_live, is_live_state, node_at, no_node, with_state, root_state, new_nodes, best_time, opening, Event, Grant, Claim, Graft, Offer, Back, Retire}
use Rattle.s66_model.specs.{Reply, Granted, Claimed, Taken, NotOut, OtherPrefix, OverAllowance, Lower, NotLower, OtherBlock, Returned, Retired, Moves, Run, ClosedHolds, NodeHolds, NodesHold, Covers}
use Rattle.s66_model.specs.{live_floors, bound_of, IsFinished, stands_at, is_cut_at, IsTable, state_ending, ending_at, node_tree, IsEnded, ended_answer, IsReached}
use Rattle.s66_model.proofs.Floors.{floor-stands}
use Rattle.s66_model.proofs.LedgerRuns.{run-falls}
use Rattle.s66_model.proofs.Histories.{run-join, reached-covers, reached-table, reached-source}
use Rattle.s66_model.proofs.NodeTrees.{cut-counts, node_tree-splits, node_tree-holds, node_tree-keeps, ending-is, node_tree-values}
use Rattle.s66_model.proofs.NamedNodes.{named-there}
use Rattle.s66_model.proofs.DominatedTrees.{shown-below}
use Rattle.s66_model.proofs.AnswerBound.{tree-shows}

-- THE LEAST OF A LIST

least-ge : (low t : ℕ) (vs : List ℕ) → low ≤ t → ((v : ℕ) → Among v vs → low ≤ v) → low ≤ least (λ v. v) (t ∷ vs)
least-ge low t [] le each = le
least-ge low t (v ∷ vs) le each = omega (arith, le, least-ge low v vs (each v (inl refl)) (λ w among. each w (inr among)))

least-some : (low t : ℕ) (vs : List ℕ) → least (λ v. v) (t ∷ vs) < low → low ≤ t → (v : ℕ) × Among v vs × (v < low)
least-some low t [] lt le = absurd (omega (arith, lt, le))
least-some low t (v ∷ vs) lt le =
    elim (cases_lt v low) [
      | inl less ↦ (v, inl refl, less)
      | inr more ↦
          (let (w, among, less) = least-some low v vs (omega (arith, lt, le)) more in
          (w, inr among, less))
    ]

-- THE NODES THAT ARE OPEN OR OUT

live-floor : (b : Problem) (node : Node) (nodes : List Node) → Among node nodes → is_live node ≡ true → Among (floor_value b node.prefix) (live_floors b nodes)
live-floor b node [] among live = absurd among
live-floor b node (x ∷ nodes) (inl here) live =
    let is : is_live x ≡ true = subst (λ (y : Node). is_live y ≡ true) here live in
    rw is (inl (ap (λ (y : Node). floor_value b y.prefix) here))
live-floor b node (x ∷ nodes) (inr past) live =
    among-rest (floor_value b node.prefix) (cond (is_live x) (floor_value b x.prefix ∷ []) []) (live_floors b nodes) (live-floor b node nodes past live)

floor-live : (b : Problem) (v : ℕ) (nodes : List Node) → Among v (live_floors b nodes) → (node : Node) × Among node nodes × (is_live node ≡ true) × (v ≡ floor_value b node.prefix)
floor-live b v [] among = absurd among
floor-live b v (x ∷ nodes) among =
    elim (first (is_live x) among) [
      | inl here ↦ (x, inl refl, here.0, here.1)
      | inr past ↦
          (let (node, later, live, is) = floor-live b v nodes past in
          (node, inr later, live, is))
    ]
  where
    first : (live : Bool) → Among v (cond live (floor_value b x.prefix ∷ []) [] ++ live_floors b nodes) → ((live ≡ true) × (v ≡ floor_value b x.prefix)) ⊎ Among v (live_floors b nodes)
    first true (inl here) = inl (refl, here)
    first true (inr past) = inr past
    first false past = inr past

live-uncut : (state : State) → is_live_state state ≡ true → is_cut_state state ≡ false
live-uncut Open h = refl
live-uncut Out h = refl
live-uncut Cut h = absurd cc
live-uncut (Closed ending) h = refl

live-ending : (b : Problem) (at : List ℕ) (state : State) → is_live_state state ≡ true → state_ending b at state ≡ Bounding (floor b at)
live-ending b at Open h = refl
live-ending b at Out h = refl
live-ending b at Cut h = refl
live-ending b at (Closed ending) h = absurd cc

-- VALUES OF A TREE

append-each : (low : ℕ) (vs ws : List ℕ) → ((v : ℕ) → Among v vs → low ≤ v) → ((v : ℕ) → Among v ws → low ≤ v) → (v : ℕ) → Among v (vs ++ ws) → low ≤ v
append-each low [] ws f g v among = g v among
append-each low (x ∷ vs) ws f g v (inl here) = f v (inl here)
append-each low (x ∷ vs) ws f g v (inr past) = append-each low vs ws (λ w among. f w (inr among)) g v past

module _ (b : Problem) (low : ℕ) where
  abbrev AreAbove : List ℕ → Ending → Type 0
  AreAbove at ending = (v : ℕ) → Among v (ending_values b at ending) → low ≤ v

  siblings-each : (siblings : Siblings Ending) (prefix ns : List ℕ) → SiblingsHold b.block AreAbove prefix ns siblings → (v : ℕ) → Among v (sibling_values (ending_values b) prefix ns siblings) → low ≤ v
  siblings-each siblings prefix [] h v among = absurd among
  siblings-each NoMore prefix (n ∷ ns) h v among = absurd among
  siblings-each (Unsplit ending siblings) prefix (n ∷ ns) h v among =
      append-each low (ending_values b (prefix ++ n ∷ []) ending) (sibling_values (ending_values b) prefix ns siblings) h.0 (siblings-each siblings prefix ns h.1) v among
  siblings-each (Split numbers sub siblings) prefix (n ∷ ns) h v among =
      append-each low (sibling_values (ending_values b) (prefix ++ n ∷ []) numbers sub) (sibling_values (ending_values b) prefix ns siblings)
      (siblings-each sub (prefix ++ n ∷ []) numbers h.2) (siblings-each siblings prefix ns h.3) v among

  -- what is at most each value
  tree-each : (tree : Tree Ending) → TreeHolds b.block AreAbove [] tree → (v : ℕ) → Among v (tree_values (ending_values b) [] tree) → low ≤ v
  tree-each (Alone ending) h v among = h v among
  tree-each (Parted numbers siblings) h v among = siblings-each siblings [] numbers h.2 v among

-- THE ANSWER

holds-among : (rule : Rule) (b : Problem) (best : ℕ) (all nodes : List Node) (node : Node) → NodesHold rule b best all nodes → Among node nodes → NodeHolds rule b best all node
holds-among rule b best all [] node h among = absurd among
holds-among rule b best all (x ∷ nodes) node h (inl here) = subst (λ (y : Node). NodeHolds rule b best all y) (sym here) h.0
holds-among rule b best all (x ∷ nodes) node h (inr past) = holds-among rule b best all nodes node h.1 past

module _ (rule : Rule) (b : Problem) (budget : ℕ) (l : Ledger) (c : Covers rule b budget l) (table : IsTable b l) where
  begin-there : (node : Node) → Among node l.nodes → IsBeginning b.block node.prefix
  begin-there node among = (holds-among rule b (best_time b l) l.nodes l.nodes node c.nodes among).0

  abbrev closed-holds : (node : Node) (ending : Ending) → Among node l.nodes → node.state ≡ Closed ending → ClosedHolds rule b (best_time b l) l.nodes node.prefix ending
  closed-holds node ending among is = (holds-among rule b (best_time b l) l.nodes l.nodes node c.nodes among).1 ending is

  -- what each node that isn't split has in the tree
  module _ (Q : List ℕ → Ending → Type 0) where
    by-state : (node : Node) → Among node l.nodes → is_cut node ≡ false →
        (is_live node ≡ true → Q node.prefix (Bounding (floor b node.prefix))) →
        ((leaf : Leaf) → node.state ≡ Closed (Bounding leaf) → Q node.prefix (Bounding (floor b node.prefix))) →
        ((name : List ℕ) → node.state ≡ Closed (Dominated name) → Q node.prefix (Dominated name)) → Q node.prefix (ending_at b l.nodes node.prefix)
    by-state node among off live bounding dominated =
        subst (λ ending. Q node.prefix ending) (sym (ending-is b l table begin-there node among)) (by node.state refl)
      where
        by : (state : State) → node.state ≡ state → Q node.prefix (state_ending b node.prefix state)
        by Open is = live (ap is_live_state is)
        by Out is = live (ap is_live_state is)
        by Cut is = absurd (let no : true ≡ false = sym (ap is_cut_state is) ∙ off in cc)
        by (Closed (Bounding leaf)) is = bounding leaf is
        by (Closed (Dominated name)) is = dominated name is
        by (Closed (Factual leaf)) is = absurd (closed-holds node (Factual leaf) among is)

  closed-above : (node : Node) (leaf : Leaf) → Among node l.nodes → node.state ≡ Closed (Bounding leaf) → best_time b l ≤ floor_value b node.prefix
  closed-above node leaf among is =
      let holds = closed-holds node (Bounding leaf) among is in
      subst (λ f. best_time b l ≤ value b node.prefix f) holds.0 holds.1

  pub values : List ℕ
  values = tree_values (ending_values b) [] (node_tree b l.nodes)

  bound-below : (v : ℕ) → Among v values → bound_of b l ≤ v
  unfolding values
  bound-below =
      tree-each b (bound_of b l) (node_tree b l.nodes)
      (node_tree-holds b l table begin-there (AreAbove b (bound_of b l)) each)
    where
      alone : (at : List ℕ) → bound_of b l ≤ floor_value b at → AreAbove b (bound_of b l) at (Bounding (floor b at))
      alone at le v (inl here) = omega (arith, le, here)
      alone at le v (inr past) = absurd past

      each : (node : Node) → Among node l.nodes → is_cut node ≡ false → AreAbove b (bound_of b l) node.prefix (ending_at b l.nodes node.prefix)
      each node among off =
          by-state (AreAbove b (bound_of b l)) node among off
          (λ live. alone node.prefix (least-le (λ v. v) (floor_value b node.prefix) (best_time b l ∷ live_floors b l.nodes) (inr (live-floor b node l.nodes among live))))
          (λ leaf is. alone node.prefix (omega (arith, closed-above node leaf among is, least-le (λ v. v) (best_time b l) (best_time b l ∷ live_floors b l.nodes) (inl refl))))
          (λ name is v among2. absurd among2)

  values-below : (v : ℕ) → Among v (live_floors b l.nodes) → least (λ v. v) (best_time b l ∷ values) ≤ v
  unfolding values
  values-below v among =
      let (node, there, live, is) = floor-live b v l.nodes among in
      omega (arith, is, least-le (λ v. v) (floor_value b node.prefix) (best_time b l ∷ values) (inr (node_tree-values b l table begin-there node there (live-uncut node.state live) (live-ending b node.prefix node.state live))))

  -- closed leaves take at least the best time, and every other leaf is of a node that is open or out
  pub bound-same : bound_of b l ≡ least (λ v. v) (best_time b l ∷ values)
  bound-same =
      let least-best = least-le (λ v. v) (best_time b l) (best_time b l ∷ values) (inl refl) in
      let bound-best = least-le (λ v. v) (best_time b l) (best_time b l ∷ live_floors b l.nodes) (inl refl) in
      omega (
        arith,
        least-ge (bound_of b l) (best_time b l) values bound-best bound-below,
        least-ge (least (λ v. v) (best_time b l ∷ values)) (best_time b l) (live_floors b l.nodes) least-best values-below,
      )

  -- each unsplit prefix has its floor, or a name as the rule asks
  pub may-end : TreeHolds b.block (MayEnd rule b (node_tree b l.nodes)) [] (node_tree b l.nodes)
  may-end =
      node_tree-holds b l table begin-there (MayEnd rule b (node_tree b l.nodes))
      (λ node among off. by-state (MayEnd rule b (node_tree b l.nodes)) node among off (λ live. refl) (λ leaf is. refl)
      (λ name is. (let holds = closed-holds node (Dominated name) among is in (holds.0, named-there b l table begin-there rule name holds.1))))

  -- so the tree shows the bound
  pub covers-bound : IsBound b (bound_of b l)
  unfolding values
  covers-bound order legal =
      shown-below rule b (bound_of b l) [] order (node_tree b l.nodes)
      (tree-shows floor-stands rule b (bound_of b l) (node_tree b l.nodes) (node_tree b l.nodes) may-end bound-below) legal

module _ (rule : Rule) (b : Problem) (budget workers : ℕ) (l : Ledger) (reached : IsReached rule b budget workers l) where
  abbrev c : Covers rule b budget l
  c = reached-covers rule b budget workers l reached

  abbrev table : IsTable b l
  table = reached-table rule b budget workers l reached

  pub beginnings : (node : Node) → Among node l.nodes → IsBeginning b.block node.prefix
  beginnings = begin-there rule b budget l c table

  module _ (ended : IsEnded b budget l) where
    whole-value : (at : List ℕ) → best_time b l ≤ floor_value b at → Bounding (floor b at) ≡ Bounding Whole → best_time b l ≤ value b at Whole
    whole-value at le is =
        let same : floor b at ≡ Whole = cc in
        subst (λ leaf. best_time b l ≤ value b at leaf) same le

    live-whole : (node : Node) → Among node l.nodes → is_live node ≡ true → Bounding (floor b node.prefix) ≡ Bounding Whole → best_time b l ≤ value b node.prefix Whole
    live-whole node among live is =
        elim (ended node among live) [
          | inl le ↦ whole-value node.prefix le is
          | inr short ↦
              (let same : floor b node.prefix ≡ Whole = cc in
              let whole : IsComplete b.block node.prefix = subst (λ leaf. MayStand b node.prefix leaf) same (floor-stands b node.prefix (beginnings node among)) in
              absurd (omega (arith, short.0, whole)))
        ]

    abbrev WholeAbove : List ℕ → Ending → Type 0
    WholeAbove at ending = ending ≡ Bounding Whole → best_time b l ≤ value b at Whole

    whole-above : (node : Node) → Among node l.nodes → is_cut node ≡ false → WholeAbove node.prefix (ending_at b l.nodes node.prefix)
    whole-above node among off =
        by-state rule b budget l c table WholeAbove node among off (live-whole node among)
        (λ leaf is. whole-value node.prefix (closed-above rule b budget l c table node leaf among is))
        (λ name is same. absurd (let no : Dominated name ≡ Bounding Whole = same in cc))

    all-spent : bound_of b l < best_time b l → l.spent ≡ budget
    all-spent lt =
        let (v, among, less) = least-some (best_time b l) (best_time b l) (live_floors b l.nodes) lt (omega arith) in
        let (node, there, live, is) = floor-live b v l.nodes among in
        elim (ended node there live) [
          | inl le ↦ absurd (omega (arith, le, less, is))
          | inr short ↦ short.1
        ]

    source-first : source_time b ≡ best_time b l → l.best ≡ numbers b.block
    source-first same =
        elim table.best [
          | inl is ↦ is
          | inr lt ↦ absurd (omega (arith, lt, same))
        ]

    pub ended-answer : IsAnswer rule b budget (ended_answer b l)
    unfolding values
    ended-answer =
        record {
          legal = c.best;
          time = refl;
          source = reached-source rule b budget workers l reached;
          wholes = node_tree-holds b l table beginnings WholeAbove whole-above;
          tree = may-end rule b budget l c table;
          bound = bound-same rule b budget l c table;
          splits = omega (arith, c.spent, node_tree-splits b l table beginnings);
          within = omega (arith, c.sum);
          spent = all-spent;
          first = source-first;
        }

-- A SPLIT NODE STAYS SPLIT

module _ (rule : Rule) (b : Problem) (at : List ℕ) where
  abbrev cuts : Ledger → ℕ
  cuts l = tally (is_cut_at at) l.nodes

  -- if a node that isn't split takes another state
  state-cuts : (nodes : List Node) (i : ℕ) (state : State) → i < length nodes → is_cut (node_at nodes i) ≡ false → tally (is_cut_at at) nodes ≤ tally (is_cut_at at) (with_state nodes i state)
  state-cuts nodes i state lt was =
      let node : Node = record { prefix = (node_at nodes i).prefix; state = state } in
      let before : is_cut_at at (node_at nodes i) ≡ false = and_left (is_cut (node_at nodes i)) (stands_at at (node_at nodes i)) was in
      omega (arith, tally-set (is_cut_at at) nodes i node no_node lt, ap (λ t. cond {A = ℕ} t 1 0) before)

  moves-cuts : (old : Ledger) (event : Event) (reply : Reply) (new : Ledger) → Moves rule b old event reply new → cuts old ≤ cuts new
  moves-cuts old (Grant w) (Granted n) new h = omega (arith, ap (λ (l : Ledger). tally (is_cut_at at) l.nodes) h.1)
  moves-cuts old (Claim w) (Claimed (Some i)) new h =
      omega (arith, ap (λ (l : Ledger). tally (is_cut_at at) l.nodes) h.2, state-cuts old.nodes i Out h.0 (ap is_cut_state h.1))
  moves-cuts old (Claim w) (Claimed None) new h = omega (arith, ap (λ (l : Ledger). tally (is_cut_at at) l.nodes) h.1)
  moves-cuts old (Graft w i own prefix count None) NotOut new h = omega (arith, ap (λ (l : Ledger). tally (is_cut_at at) l.nodes) h.1)
  moves-cuts old (Graft w i own prefix count None) OtherPrefix new h = omega (arith, ap (λ (l : Ledger). tally (is_cut_at at) l.nodes) h.2)
  moves-cuts old (Graft w i own prefix count None) OverAllowance new h = omega (arith, ap (λ (l : Ledger). tally (is_cut_at at) l.nodes) h.3)
  moves-cuts old (Graft w i own prefix count (Some tree)) Taken new h =
      let state = root_state b (best_time b old) prefix tree in
      omega (
        arith,
        ap (λ (l : Ledger). tally (is_cut_at at) l.nodes) h.5,
        tally-append (is_cut_at at) (with_state old.nodes i state) (new_nodes b (best_time b old) prefix tree),
        state-cuts old.nodes i state h.0.0 (ap is_cut_state h.0.1),
      )
  moves-cuts old (Offer w own order time) OtherBlock new h = omega (arith, ap (λ (l : Ledger). tally (is_cut_at at) l.nodes) h.1)
  moves-cuts old (Offer w own order time) Lower new h = omega (arith, ap (λ (l : Ledger). tally (is_cut_at at) l.nodes) h.2)
  moves-cuts old (Offer w own order time) (NotLower n) new h = omega (arith, ap (λ (l : Ledger). tally (is_cut_at at) l.nodes) h.3)
  moves-cuts old (Back w i) NotOut new h = omega (arith, ap (λ (l : Ledger). tally (is_cut_at at) l.nodes) h.1)
  moves-cuts old (Back w i) Returned new h =
      omega (arith, ap (λ (l : Ledger). tally (is_cut_at at) l.nodes) h.1, state-cuts old.nodes i Open h.0.0 (ap is_cut_state h.0.1))
  moves-cuts old (Retire w) Retired new h = omega (arith, ap (λ (l : Ledger). tally (is_cut_at at) l.nodes) h)
  moves-cuts old event reply new h = absurd h

  run-cuts : (events : List (Event × Reply)) (old new : Ledger) → Run rule b old events new → cuts old ≤ cuts new
  run-cuts [] old new r = omega (arith, ap (λ (l : Ledger). tally (is_cut_at at) l.nodes) r)
  run-cuts (e ∷ events) old new r = omega (arith, moves-cuts old e.0 e.1 r.0 r.1.1, run-cuts events r.0 new r.2)

-- however a ledger was reached, and whatever steps went on from it
pub ended-finishes : (rule : Rule) (b : Problem) (budget workers : ℕ) (l new : Ledger) (events : List (Event × Reply)) → IsReached rule b budget workers l → Run rule b l events new → IsEnded b budget new → IsFinished rule b budget l (ended_answer b new)
ended-finishes rule b budget workers l new events (history, r) run ended =
    let reached : IsReached rule b budget workers new = (history ++ events, run-join rule b history events (opening b budget workers) l new r run) in
    record {
      answer = ended-answer rule b budget workers new reached ended;
      time = run-falls rule b events l new run;
      kept = λ node among is. node_tree-keeps b new (reached-table rule b budget workers new reached) (beginnings rule b budget workers new reached) node.prefix (beginnings rule b budget workers l (history, r) node among)
          (omega (arith, cut-counts node l.nodes among is, run-cuts rule b node.prefix events l new run));
    }
