-- Each event keeps what a ledger's type keeps, and is a step of the machine.
use Rattle.std.proofs.Common.{ℕ, zero, suc, ◌+◌, ◌-◌, ◌*◌, ◌≤◌, ◌<◌, ◌≡◌, Bool, true, false, List, [], ◌∷◌, length, get_or, set, refl, sym, ap, arith, subst, ◌∙◌, Some, None, IsTrue, ◌↔◌, min}
use Rattle.std.proofs.Common.{replicate, length-append, length-set}
use Rattle.std.proofs.lemmas.List.{length-replicate}
use Rattle.s66_isa.specs.{tally, weigh, numbers, BLOCK_LIMIT}
use Rattle.s66_model.specs.{Rule, Problem, total_of, IsLegal, IsBeginning, floor_value, best_time, Event, Grant, Claim, Offer, Back, Retire, Reply, Granted, Claimed, NotOut, Lower, NotLower}
use Rattle.s66_model.specs.{OtherBlock, Returned, Retired, Moves, Step, Covers, NodesHold, source_time, IsReached, IsOfferOf, BUDGET_LIMIT}
use Rattle.s66_model.specs.LedgerRuns as model
use Rattle.s66_model.proofs.Histories.{reached-step, reached-covers}
use Rattle.s66_model.proofs.Beginnings.{beginning-front}
use Rattle.s66_model.proofs.FloorParts.{leaf-fits}
use Rattle.s66_model.proofs.Floors.{floor-stands}
use Rattle.s66_time.specs.TimedOrder.{TimedOrder}
use Rattle.s66_node.specs.{Node, State, has_floor, is_stored_open}
use Rattle.s66_node.specs.declared.node.State.TheVariants as state
use Rattle.s66_ledger.specs.{prefixes, name_at, seen_state, nodes_of, stored_at, put_state, HaveFloors, stores_open, StoresOut, ranked, MachineOf, IsMove, Stored, ledger_from, ledger_of, machine_of}
use Rattle.s66_ledger.specs.{IsKeptMachine}
use Rattle.s66_ledger.proofs.SeenNodes.{length-nodes, at-nodes, open-seen, open-nodes, out-seen, nodes-state}
use Rattle.s66_ledger.proofs.NodeFloors.{floors-state}

-- WHAT IS SEEN of nodes

pub is-out : (b : Problem) (nodes : List Node) (best : List ℕ) (left : ℕ) (allowances : List ℕ) (spent i : ℕ) → StoresOut nodes i → model.IsOut (ledger_from b nodes best left allowances spent) i
is-out b nodes best left allowances spent i (lt, out) =
    (omega (arith, lt, length-nodes b nodes), ap (λ (n : model.Node). n.state) (at-nodes b nodes i lt) ∙ ap (seen_state b (name_at nodes i) (get_or (prefixes nodes) i [])) out)

pub not-out : (b : Problem) (nodes : List Node) (best : List ℕ) (left : ℕ) (allowances : List ℕ) (spent i : ℕ) → ¬ StoresOut nodes i → ¬ model.IsOut (ledger_from b nodes best left allowances spent) i
not-out b nodes best left allowances spent i never h =
    let lt : i < length nodes = omega (arith, h.0, length-nodes b nodes) in
    never (lt, out-seen b (name_at nodes i) (get_or (prefixes nodes) i []) (stored_at nodes i).state (sym (ap (λ (n : model.Node). n.state) (at-nodes b nodes i lt)) ∙ h.1))

-- SPLITS

pub at-most-all : (xs : List ℕ) (i : ℕ) → get_or xs i 0 ≤ weigh (λ n. n) xs
at-most-all [] i = omega arith
at-most-all (x ∷ xs) zero = omega arith
at-most-all (x ∷ xs) (suc i) = omega (arith, at-most-all xs i)

pub holds-at : (rule : Rule) (b : Problem) (best : ℕ) (all nodes : List model.Node) (i : ℕ) → NodesHold rule b best all nodes → i < length nodes → IsBeginning b.block (model.node_at nodes i).prefix
holds-at rule b best all [] i h lt = absurd (omega arith)
holds-at rule b best all (node ∷ nodes) zero h lt = h.0.0
holds-at rule b best all (node ∷ nodes) (suc i) h lt = holds-at rule b best all nodes i h.1 (omega (arith, lt))

module _ (m : Stored) (h : IsKeptMachine m) where
  abbrev b : Problem
  b = m.problem

  pub kept-covers : Covers m.rule b m.budget (ledger_of m)
  kept-covers = reached-covers m.rule b m.budget (length m.allowances) (ledger_of m) h.reached

  -- what is left, allowed to a worker and spent is within the budget
  pub kept-room : (i : ℕ) → m.left + get_or m.allowances i 0 + m.spent ≤ m.budget
  kept-room i = omega (arith, kept-covers.sum, at-most-all m.allowances i)

  pub kept-beginning : (i : ℕ) → i < length m.nodes → IsBeginning b.block (get_or (prefixes m.nodes) i [])
  kept-beginning i lt =
      subst (λ (n : model.Node). IsBeginning b.block n.prefix) (at-nodes b m.nodes i lt) (holds-at m.rule b (best_time b (ledger_of m)) (nodes_of b m.nodes) (nodes_of b m.nodes) i kept-covers.nodes (omega (arith, lt, length-nodes b m.nodes)))

  pub kept-short : (i : ℕ) → i < length m.nodes → length (get_or (prefixes m.nodes) i []) ≤ length b.block
  kept-short i lt =
      let (rest, legal) = beginning-front b.block (get_or (prefixes m.nodes) i []) (kept-beginning i lt) in
      omega (arith, legal.whole, length-append (get_or (prefixes m.nodes) i []) rest)

  -- after a step
  pub kept-next : (nodes : List Node) (best : TimedOrder) (left : ℕ) (allowances : List ℕ) (spent : ℕ) (event : Event) (reply : Reply) → best.problem ≡ b → HaveFloors b nodes → length nodes ≤ 1 + BLOCK_LIMIT * spent → length allowances ≡ length m.allowances → Step m.rule b (ledger_of m) event reply (ledger_from b nodes best.numbers left allowances spent) →
      IsKeptMachine (record m { nodes = nodes; best = best; left = left; allowances = allowances; spent = spent })
  kept-next nodes best left allowances spent event reply own floors room same step =
      let new = ledger_from b nodes best.numbers left allowances spent in
      record {
        reached = subst (λ n. IsReached m.rule b m.budget n new) (sym same) (reached-step m.rule b m.budget (length m.allowances) (ledger_of m) new event reply h.reached step);
        source = h.source;
        own = own;
        floors = floors;
        room = room;
        few = h.few;
        workers = omega (arith, h.workers, same);
      }

  -- floors are far below the limit up to which they are ranked
  ranked-floor : length b.block ≤ BLOCK_LIMIT → (i : ℕ) → i < length m.nodes → has_floor (stored_at m.nodes i).state ≡ true → ranked (stored_at m.nodes i).value ≡ floor_value b (get_or (prefixes m.nodes) i [])
  ranked-floor few i lt live =
      let at = get_or (prefixes m.nodes) i [] in
      let fits : floor_value b at ≤ 104 * BLOCK_LIMIT = leaf-fits b at (Rattle.s66_model.specs.Leaves.floor b at) (kept-beginning i lt) few (floor-stands b at (kept-beginning i lt)) in
      omega (arith, h.floors i lt live, fits)

  pub claimed-least : length b.block ≤ BLOCK_LIMIT → (i : ℕ) → i < length m.nodes → (stored_at m.nodes i).state ≡ state.Open → ((j : ℕ) → stores_open (stored_at m.nodes j) ≡ true → ranked (stored_at m.nodes i).value ≤ ranked (stored_at m.nodes j).value) → (j : ℕ) → model.is_open (model.node_at (nodes_of b m.nodes) j) ≡ true → floor_value b (get_or (prefixes m.nodes) i []) ≤ floor_value b (model.node_at (nodes_of b m.nodes) j).prefix
  claimed-least few i lt was least j opens =
      let within : j < length m.nodes = omega (arith, open-within (nodes_of b m.nodes) j opens, length-nodes b m.nodes) in
      let there = at-nodes b m.nodes j within in
      let open-here : stores_open (stored_at m.nodes j) ≡ true = sym (open-seen b (name_at m.nodes j) (get_or (prefixes m.nodes) j []) (stored_at m.nodes j).state) ∙ (ap (λ (n : model.Node). model.is_open n) (sym there) ∙ opens) in
      let le = least j open-here in
      omega (arith, le, ranked-floor few i lt (ap has_floor was), ranked-floor few j within (open-floor (stored_at m.nodes j).state open-here), ap (λ (n : model.Node). floor_value b n.prefix) there)
    where
      open-floor : (s : State) → is_stored_open s ≡ true → has_floor s ≡ true
      open-floor state.Open e = refl
      open-floor state.Out e = absurd cc
      open-floor state.Closed e = refl
      open-floor state.Split e = absurd cc
      open-floor state.Dominated e = absurd cc

      open-within : (ns : List model.Node) (k : ℕ) → model.is_open (model.node_at ns k) ≡ true → k < length ns
      open-within [] k e = absurd cc
      open-within (n ∷ ns) zero e = omega arith
      open-within (n ∷ ns) (suc k) e = omega (arith, open-within ns k e)

  -- A NODE TAKES ANOTHER STATE

  moved-room : (i : ℕ) (s : State) → length (put_state m.nodes i s) ≤ 1 + BLOCK_LIMIT * m.spent
  moved-room i s = omega (arith, h.room, length-set m.nodes i (record (stored_at m.nodes i) { state = s }))

  moved : (i : ℕ) (s : State) (seen : model.State) → i < length m.nodes → ((name at : List ℕ) → seen_state b name at s ≡ seen) → ledger_of (record m { nodes = put_state m.nodes i s }) ≡ model.after_move (ledger_of m) i seen
  moved i s seen lt is = ap (λ (ns : List model.Node). record (ledger_of m) { nodes = ns }) (nodes-state b m.nodes i s seen lt is)

  -- EVENTS of a worker, of the machine that is seen
  module _ (l : MachineOf) (is : machine_of m ≡ l) (w : ℕ) (worker : (1 ≤ w) × (w ≤ l.workers)) where
    pub is-worker : (1 ≤ w) × (w ≤ length m.allowances)
    is-worker = (worker.0, omega (arith, worker.1, ap (λ (l : MachineOf). l.workers) is))

    pub worker-place : w - 1 < length m.allowances
    worker-place = omega (arith, is-worker.0, is-worker.1)

    pub kept-grant : (share : ℕ) → share ≡ min 64 m.left → IsKeptMachine (record m { left = m.left - share; allowances = set m.allowances (w - 1) (get_or m.allowances (w - 1) 0 + share) })
    kept-grant share of =
        subst (λ n. IsKeptMachine (record m { left = m.left - n; allowances = set m.allowances (w - 1) (get_or m.allowances (w - 1) 0 + n) })) (sym of)
        (kept-next m.nodes m.best (m.left - min 64 m.left) (set m.allowances (w - 1) (get_or m.allowances (w - 1) 0 + min 64 m.left)) m.spent (Grant w) (Granted (min 64 m.left)) h.own h.floors h.room (length-set m.allowances (w - 1) (get_or m.allowances (w - 1) 0 + min 64 m.left)) (is-worker, (refl, refl)))

    pub kept-retire : IsKeptMachine (record m { left = m.left + get_or m.allowances (w - 1) 0; allowances = set m.allowances (w - 1) 0 })
    kept-retire =
        kept-next m.nodes m.best (m.left + get_or m.allowances (w - 1) 0) (set m.allowances (w - 1) 0) m.spent (Retire w) Retired h.own h.floors h.room (length-set m.allowances (w - 1) 0) (is-worker, refl)

    module _ (i : ℕ) (within : i < length m.nodes) (was : (stored_at m.nodes i).state ≡ state.Open) where
      claim-moves : Moves m.rule b (ledger_of m) (Claim w) (Claimed (Some i)) (ledger_of (record m { nodes = put_state m.nodes i state.Out }))
      claim-moves =
          (omega (arith, within, length-nodes b m.nodes), ap (λ (n : model.Node). n.state) (at-nodes b m.nodes i within) ∙ ap (seen_state b (name_at m.nodes i) (get_or (prefixes m.nodes) i [])) was, moved i state.Out model.Out within (λ name at. refl))

      pub kept-claim : IsKeptMachine (record m { nodes = put_state m.nodes i state.Out })
      kept-claim =
          kept-next (put_state m.nodes i state.Out) m.best m.left m.allowances m.spent (Claim w) (Claimed (Some i)) h.own (floors-state b m.nodes i state.Out within (ap has_floor was) h.floors) (moved-room i state.Out) refl (is-worker, claim-moves)

      pub event-claim : IsMove l (Claim w) (Claimed (Some i)) (machine_of (record m { nodes = put_state m.nodes i state.Out }))
      event-claim =
          subst (λ (l : MachineOf). IsMove l (Claim w) (Claimed (Some i)) (machine_of (record m { nodes = put_state m.nodes i state.Out }))) is (refl, refl, refl, (is-worker, claim-moves), refl)

    pub event-none : tally stores_open m.nodes ≡ 0 → IsMove l (Claim w) (Claimed None) l
    event-none none =
        subst (λ (l : MachineOf). IsMove l (Claim w) (Claimed None) l) is (refl, refl, refl, (is-worker, (open-nodes b m.nodes ∙ none, refl)), refl)

    module _ (i : ℕ) (out : StoresOut m.nodes i) where
      back-moves : Moves m.rule b (ledger_of m) (Back w i) Returned (ledger_of (record m { nodes = put_state m.nodes i state.Open }))
      back-moves = (is-out b m.nodes m.best.numbers m.left m.allowances m.spent i out, moved i state.Open model.Open out.0 (λ name at. refl))

      pub kept-back : IsKeptMachine (record m { nodes = put_state m.nodes i state.Open })
      kept-back =
          kept-next (put_state m.nodes i state.Open) m.best m.left m.allowances m.spent (Back w i) Returned h.own (floors-state b m.nodes i state.Open out.0 (ap has_floor out.1) h.floors) (moved-room i state.Open) refl (is-worker, back-moves)

      pub event-back : IsMove l (Back w i) Returned (machine_of (record m { nodes = put_state m.nodes i state.Open }))
      event-back =
          subst (λ (l : MachineOf). IsMove l (Back w i) Returned (machine_of (record m { nodes = put_state m.nodes i state.Open }))) is (refl, refl, refl, (is-worker, back-moves), refl)

    pub event-not-out : (i : ℕ) → ¬ StoresOut m.nodes i → IsMove l (Back w i) NotOut l
    event-not-out i never =
        subst (λ (l : MachineOf). IsMove l (Back w i) NotOut l) is (refl, refl, refl, (is-worker, (not-out b m.nodes m.best.numbers m.left m.allowances m.spent i never, refl)), refl)

    -- ORDERS THAT ARE OFFERED

    abbrev OfferedAs : MachineOf → TimedOrder → Reply → MachineOf → Type 0
    OfferedAs l timed reply new = (event : Event) × IsOfferOf l.problem w timed.problem timed.numbers event × IsMove l event reply new

    module _ (timed : TimedOrder) (own : timed.problem ≡ b) (legal : IsLegal b.block timed.numbers) where
      same : total_of timed.problem timed.numbers ≡ total_of b timed.numbers
      same = ap (λ p. total_of p timed.numbers) own

      module _ (lt : total_of b timed.numbers < total_of b m.best.numbers) where
        lower-moves : Moves m.rule b (ledger_of m) (Offer w true timed.numbers (total_of timed.problem timed.numbers)) Lower (ledger_of (record m { best = timed }))
        lower-moves = ((refl, legal, same), omega (arith, same, lt), refl)

        pub kept-lower : IsKeptMachine (record m { best = timed })
        kept-lower =
            kept-next m.nodes timed m.left m.allowances m.spent (Offer w true timed.numbers (total_of timed.problem timed.numbers)) Lower own h.floors h.room refl (is-worker, lower-moves)

        pub event-lower : OfferedAs l timed Lower (machine_of (record m { best = timed }))
        event-lower =
            subst (λ (l : MachineOf). OfferedAs l timed Lower (machine_of (record m { best = timed }))) is
            (Offer w true timed.numbers (total_of timed.problem timed.numbers), (true, ((λ e. own), (λ e. refl)), refl), (refl, refl, refl, (is-worker, lower-moves), refl))

      pub event-not-lower : (least : ℕ) → least ≡ total_of b m.best.numbers → total_of b m.best.numbers ≤ total_of b timed.numbers → OfferedAs l timed (NotLower least) l
      event-not-lower least total ge =
          subst (λ (l : MachineOf). OfferedAs l timed (NotLower least) l) is
          (Offer w true timed.numbers (total_of timed.problem timed.numbers), (true, ((λ e. own), (λ e. refl)), refl), (refl, refl, refl, (is-worker, ((refl, legal, same), omega (arith, ge, same), total, refl)), refl))

    pub event-other : (timed : TimedOrder) (own : Bool) → IsTrue own ↔ (timed.problem ≡ b) → own ≡ false → OfferedAs l timed OtherBlock l
    event-other timed own iff not =
        subst (λ (l : MachineOf). OfferedAs l timed OtherBlock l) is
        (Offer w own timed.numbers (total_of timed.problem timed.numbers), (own, iff, refl), (refl, refl, refl, (is-worker, (not, refl)), refl))

-- THE OPENING

pub kept-opening : (rule : Rule) (b : Problem) (budget workers source : ℕ) (best : TimedOrder) (nodes : List Node) (root : Node) (allowances : List ℕ) → source ≡ source_time b → best ≡ record { problem = b; numbers = numbers b.block } → nodes ≡ root ∷ [] → root.state ≡ state.Open → root.value ≡ floor_value b [] → allowances ≡ replicate workers 0 → budget ≤ BUDGET_LIMIT → workers ≤ 255 →
    IsKeptMachine (record { rule = rule; problem = b; budget = budget; nodes = nodes; source = source; best = best; left = budget; allowances = allowances; spent = 0 })
kept-opening rule b budget workers source best nodes root allowances timed is one open-root value all few at_most =
    rw (is, all, one)
    (record {
      reached = subst (λ n. IsReached rule b budget n (ledger_from b (root ∷ []) (numbers b.block) budget (replicate workers 0) 0)) (sym (length-replicate workers 0)) ([], ap (λ s. record { nodes = record { prefix = []; state = s } ∷ []; best = numbers b.block; left = budget; allowances = replicate workers 0; spent = 0 }) (ap (seen_state b [] []) open-root));
      source = timed;
      own = refl;
      floors = first;
      room = omega arith;
      few = few;
      workers = omega (arith, length-replicate {A = ℕ} workers 0, at_most);
    })
  where
    first : HaveFloors b (root ∷ [])
    first zero lt live = value
    first (suc i) lt live = absurd (omega (arith, lt))
