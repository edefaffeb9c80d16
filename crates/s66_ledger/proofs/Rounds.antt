-- What the events of a search's round do to the nodes that are out and to the allowances.
use Rattle.std.proofs.Common.{ℕ, ◌+◌, ◌-◌, ◌≤◌, ◌<◌, ◌≡◌, ◌≢◌, Bool, true, false, cond, List, [], ◌∷◌, ◌++◌, length, get_or, set, refl, sym, ap, arith, subst, ◌∙◌, inl, inr, Some, nat_le, length-set}
use Rattle.std.proofs.Common.{get_or-set_same, set-set}
use Rattle.std.proofs.lemmas.List.{set-get_or}
use Rattle.s66_isa.specs.{tally, weigh, Among}
use Rattle.s66_isa.proofs.Lists.{tally-append, tally-set, weigh-set}
use Rattle.s66_model.specs.{Rule, Problem, total_of, IsOfferOf, value, Tree, Alone, Parted, Siblings, NoMore, Unsplit, Split, splits, Terminal, Carries, Frontier, Passed, IsPiece, whole_orders}
use Rattle.s66_model.specs.{Bounding, Ledger, Node, State, Open, Out, Cut, Closed, Grant, Claim, Back, Granted, Claimed, Taken, Returned, OverAllowance, no_node, node_at, with_state, is_out_state}
use Rattle.s66_model.specs.{is_out, is_live_state, best_time, allowance, share_of, state_of, root_state, sibling_nodes, new_nodes, after_offer, after_graft, Offer, Graft, Moves, Event, Covers}
use Rattle.s66_model.specs.{TicketOf}
use Rattle.s66_time.specs.TimedOrder.{TimedOrder}
use Rattle.s66_node.specs.{PieceOf, tree_of}
use Rattle.s66_ledger.specs.{Offered, offered_reply, LedgerOf, IsEvent, IsGraft, Leads, NoneOut, IsIdle, IsBetweenRounds, IsWithinRound, IsOffering, IsTaken, still_to_go}
use Rattle.s66_ledger.specs.declared.reply.Offered.TheVariants as offered
use Rattle.s66_ledger.proofs.Taken.{same-splits, same-wholes}
use Rattle.s66_ledger.proofs.Leading.{leads-nowhere, event-leads, leads-on, leads-fall}
use Rattle.s66_ledger.proofs.TimedWholes.{wholes-offered, wholes-moved, wholes-grafted}

-- NODES THAT ARE OUT, counted

not-out : (s : State) → s ≢ Out → is_out_state s ≡ false
not-out Open h = refl
not-out Out h = absurd (h refl)
not-out Cut h = refl
not-out (Closed leaf) h = refl

none-counted : (nodes : List Node) → ((node : Node) → Among node nodes → node.state ≢ Out) → tally is_out nodes ≡ 0
none-counted [] h = refl
none-counted (x ∷ nodes) h =
    omega (arith, ap (λ t. cond {A = ℕ} t 1 0) (not-out x.state (h x (inl refl))), none-counted nodes (λ node later. h node (inr later)))

none-among : (nodes : List Node) → tally is_out nodes ≡ 0 → (node : Node) → Among node nodes → node.state ≢ Out
none-among [] none node among = absurd among
none-among (x ∷ nodes) none node (inl e) = λ out.
    let counted : cond {A = ℕ} (is_out_state x.state) 1 0 ≡ 1 = ap (λ s. cond {A = ℕ} (is_out_state s) 1 0) (sym (ap (λ (n : Node). n.state) e) ∙ out) in
    absurd (omega (arith, counted, none))
none-among (x ∷ nodes) none node (inr later) = none-among nodes (omega (arith, none)) node later

-- NEW NODES are open, closed or split

terminal-not-out : (b : Problem) (best : ℕ) (at : List ℕ) (terminal : Terminal) → is_out_state (state_of b best at terminal) ≡ false
terminal-not-out b best at (Carries leaf) = closed-or-open (nat_le best (value b at leaf))
  where
    closed-or-open : (t : Bool) → is_out_state (cond t (Closed (Bounding leaf)) Open) ≡ false
    closed-or-open true = refl
    closed-or-open false = refl
terminal-not-out b best at Frontier = refl
terminal-not-out b best at (Passed name) = refl

root-not-out : (b : Problem) (best : ℕ) (at : List ℕ) (tree : Tree Terminal) → is_out_state (root_state b best at tree) ≡ false
root-not-out b best at (Alone terminal) = terminal-not-out b best at terminal
root-not-out b best at (Parted numbers siblings) = refl

siblings-not-out : (b : Problem) (best : ℕ) (at ns : List ℕ) (siblings : Siblings Terminal) → tally is_out (sibling_nodes b best at ns siblings) ≡ 0
siblings-not-out b best at [] siblings = refl
siblings-not-out b best at (n ∷ ns) NoMore = refl
siblings-not-out b best at (n ∷ ns) (Unsplit terminal siblings) =
    omega (arith, ap (λ t. cond {A = ℕ} t 1 0) (terminal-not-out b best (at ++ n ∷ []) terminal), siblings-not-out b best at ns siblings)
siblings-not-out b best at (n ∷ ns) (Split numbers sub siblings) =
    omega (
      arith,
      tally-append is_out (sibling_nodes b best (at ++ n ∷ []) numbers sub) (sibling_nodes b best at ns siblings),
      siblings-not-out b best (at ++ n ∷ []) numbers sub,
      siblings-not-out b best at ns siblings,
    )

new-not-out : (b : Problem) (best : ℕ) (at : List ℕ) (tree : Tree Terminal) → tally is_out (new_nodes b best at tree) ≡ 0
new-not-out b best at (Alone terminal) = refl
new-not-out b best at (Parted numbers siblings) = siblings-not-out b best at numbers siblings

-- A GRANT

sum-set : (xs : List ℕ) (v : ℕ) → 1 ≤ length xs → weigh (λ n. n) (set xs 0 v) + get_or xs 0 0 ≡ weigh (λ n. n) xs + v
sum-set xs v some = weigh-set (λ n. n) xs 0 v 0 (omega (arith, some))

alone-set : (xs : List ℕ) (v : ℕ) → 1 ≤ length xs → weigh (λ n. n) xs ≡ get_or xs 0 0 → weigh (λ n. n) (set xs 0 v) ≡ get_or (set xs 0 v) 0 0
alone-set xs v some alone = omega (arith, sum-set xs v some, alone, get_or-set_same xs 0 v 0 (omega (arith, some)))

module _ (old new : LedgerOf) (n : ℕ) (h : IsEvent old (Grant 1) (Granted n) new) where
  pub grant-between : IsBetweenRounds old.problem old.state → IsBetweenRounds new.problem new.state
  grant-between between =
      subst (λ (b : Problem). IsBetweenRounds b new.state) (sym h.0)
      (subst (IsBetweenRounds old.problem) (sym h.3.1.1)
      (record {
        none_out = between.none_out;
        alone = alone-set old.state.allowances (allowance old.state 1 + share_of old.state) h.3.0.1 between.alone;
        wholes = between.wholes;
      }))

  -- nothing more is granted if all is spent
  pub grant-spent : Covers old.rule old.problem old.budget old.state → IsBetweenRounds old.problem old.state → allowance old.state 1 ≡ 0 → n ≡ 0 → new.state.spent ≡ new.budget
  grant-spent covers between none nothing =
      omega (arith, covers.sum, between.alone, none, nothing, h.3.1.0, h.1, ap (λ (l : Ledger). l.spent) h.3.1.1)

-- A CLAIM

module _ (old new : LedgerOf) (ticket : TicketOf) (h : IsEvent old (Claim 1) (Claimed (Some ticket.node)) new) (prefix : ticket.prefix ≡ (node_at old.state.nodes ticket.node).prefix) where
  abbrev i : ℕ
  i = ticket.node

  abbrev node : Node
  node = record { prefix = (node_at old.state.nodes i).prefix; state = Out }

  lt : i < length old.state.nodes
  lt = h.3.1.0

  here : node_at (with_state old.state.nodes i Out) i ≡ node
  here = get_or-set_same old.state.nodes i node no_node lt

  pub claim-within : IsBetweenRounds old.problem old.state → IsWithinRound new.problem new.state ticket
  claim-within between =
      subst (λ (b : Problem). IsWithinRound b new.state ticket) (sym h.0)
      (subst (λ l. IsWithinRound old.problem l ticket) (sym h.3.1.2)
      (record {
        out = (omega (arith, lt, length-set old.state.nodes i node), ap (λ (x : Node). x.state) here);
        prefix = prefix ∙ sym (ap (λ (x : Node). x.prefix) here);
        one_out =
            omega (
              arith,
              tally-set is_out old.state.nodes i node no_node lt,
              none-counted old.state.nodes between.none_out,
              ap (λ s. cond {A = ℕ} (is_out_state s) 1 0) h.3.1.1,
            );
        alone = between.alone;
        wholes = wholes-moved old.problem (best_time old.problem old.state) old.state.nodes i Out lt (ap is_live_state h.3.1.1) between.wholes;
      }))

  -- a node that is given back is as it was
  pub claim-back : (end : LedgerOf) → IsEvent new (Back 1 i) Returned end → end.state ≡ old.state
  claim-back end k =
      k.3.1.1 ∙ (ap (λ (l : Ledger). record l { nodes = with_state l.nodes i Open }) h.3.1.2 ∙ ap (λ (ns : List Node). record old.state { nodes = ns }) restored)
    where
      opened : record { prefix = (node_at (with_state old.state.nodes i Out) i).prefix; state = Open } ≡ node_at old.state.nodes i
      opened = ap (λ (x : Node). record { prefix = x.prefix; state = Open }) here ∙ ap (λ s. record { prefix = (node_at old.state.nodes i).prefix; state = s }) (sym h.3.1.1)

      restored : with_state (with_state old.state.nodes i Out) i Open ≡ old.state.nodes
      restored =
          ap (λ (x : Node). set (with_state old.state.nodes i Out) i x) opened
          ∙ (set-set old.state.nodes i node (node_at old.state.nodes i) ∙ set-get_or old.state.nodes i no_node)

-- AN OFFER changes the best order alone

module _ (old new : LedgerOf) (offers : IsOffering old new) where
  same-nodes : new.state.nodes ≡ old.state.nodes
  same-nodes = ap (λ (l : Ledger). l.nodes) offers.same

  same-allowances : new.state.allowances ≡ old.state.allowances
  same-allowances = ap (λ (l : Ledger). l.allowances) offers.same

  still-none-out : NoneOut old.state → NoneOut new.state
  still-none-out none = λ node among. none node (subst (Among node) same-nodes among)

  still-alone : weigh (λ n. n) old.state.allowances ≡ allowance old.state 1 → weigh (λ n. n) new.state.allowances ≡ allowance new.state 1
  still-alone is = subst (λ ns. weigh (λ n. n) ns ≡ get_or ns 0 0) (sym same-allowances) is

  pub offer-idle : IsIdle old.state → IsIdle new.state
  offer-idle idle = record { none_out = still-none-out idle.none_out; no_allowance = ap (weigh (λ n. n)) same-allowances ∙ idle.no_allowance }

  pub offer-within : (ticket : TicketOf) → IsWithinRound old.problem old.state ticket → IsWithinRound new.problem new.state ticket
  offer-within ticket within =
      record {
        out = subst (λ ns. (ticket.node < length ns) × ((node_at ns ticket.node).state ≡ Out)) (sym same-nodes) within.out;
        prefix = within.prefix ∙ ap (λ ns. (node_at ns ticket.node).prefix) (sym same-nodes);
        one_out = ap (tally is_out) same-nodes ∙ within.one_out;
        alone = still-alone within.alone;
        wholes = wholes-offered old new offers within.wholes;
      }

  pub offer-between : IsBetweenRounds old.problem old.state → IsBetweenRounds new.problem new.state
  offer-between between =
      record { none_out = still-none-out between.none_out; alone = still-alone between.alone; wholes = wholes-offered old new offers between.wholes }

offer-moved : (rule : Rule) (b : Problem) (old new : Ledger) (w : ℕ) (own : Bool) (order : List ℕ) (time : ℕ) (answer : Offered) → Moves rule b old (Offer w own order time) (offered_reply answer) new → new ≡ after_offer old new.best
offer-moved rule b old new w own order time offered.Lower h = h.2 ∙ ap (after_offer old) (sym (ap (λ (l : Ledger). l.best) h.2))
offer-moved rule b old new w own order time (offered.NotLower least) h = h.3 ∙ ap (after_offer old) (sym (ap (λ (l : Ledger). l.best) h.3))
offer-moved rule b old new w own order time offered.OtherBlock h = h.1 ∙ ap (after_offer old) (sym (ap (λ (l : Ledger). l.best) h.1))

pub offer-offers : (old new : LedgerOf) (w : ℕ) (timed : TimedOrder) (answer : Offered) → ((event : Event) × IsOfferOf old.problem w timed.problem timed.numbers event × IsEvent old event (offered_reply answer) new) → IsOffering old new
offer-offers old new w timed answer (event, (own, iff, stated), h) =
    record {
      leads = event-leads old new event (offered_reply answer) h;
      same = offer-moved old.rule old.problem old.state new.state w own timed.numbers (total_of timed.problem timed.numbers) answer (subst (λ (e : Event). Moves old.rule old.problem old.state e (offered_reply answer) new.state) stated h.3.1);
    }

pub nothing-offered : (old new : LedgerOf) → new ≡ old → IsOffering old new
nothing-offered old new same =
    subst (IsOffering old) (sym same) (record { leads = leads-nowhere old; same = refl })

pub offer-on : (old mid new : LedgerOf) → IsOffering old mid → IsOffering mid new → IsOffering old new
offer-on old mid new first second =
    record {
      leads = leads-on old mid new first.leads second.leads;
      same = second.same ∙ ap (λ l. after_offer l new.state.best) first.same;
    }

-- less is left to do, or as much
pub offer-to-go : (old new : LedgerOf) → IsOffering old new → still_to_go new ≤ still_to_go old
offer-to-go old new offers =
    let (problem, budget, workers, run, by) = offers.leads in
    let falls = leads-fall old new offers.leads in
    let before = ap (λ (b : Problem). best_time b old.state) problem in
    omega (arith, falls, before, budget, ap (λ (l : Ledger). l.spent) offers.same)

-- A GRAFT

pub graft-taken : (old new : LedgerOf) (i : ℕ) (piece : PieceOf) → IsGraft old 1 i piece Taken new → IsTaken old i piece new
graft-taken old new i piece (event, (own, part, owns, opens, is), h) =
    record { own = own; part = part; opens = opens; event = subst (λ (e : Event). IsEvent old e Taken new) is h }

pub taken-leads : (old new : LedgerOf) (i : ℕ) (piece : PieceOf) → IsTaken old i piece new → Leads old new
taken-leads old new i piece h = event-leads old new (Graft 1 i h.own piece.prefix (splits h.part) (Some h.part)) Taken h.event

-- a piece within the allowance isn't refused for its splits
pub never-too_large : (old new : LedgerOf) (i : ℕ) (piece : PieceOf) → splits (tree_of piece) ≤ allowance old.state 1 → ¬ IsGraft old 1 i piece OverAllowance new
never-too_large old new i piece within (event, (own, part, owns, opens, is), h) =
    let moves = subst (λ (e : Event). Moves old.rule old.problem old.state e OverAllowance new.state) is h.3.1 in
    absurd (omega (arith, moves.2, same-splits (tree_of piece) part opens, within))

pub graft-step : (old new : LedgerOf) (ticket : TicketOf) (piece : PieceOf) → (h : IsTaken old ticket.node piece new) → (1 ≤ length old.state.allowances) × (splits h.part ≤ allowance old.state 1) × IsPiece old.rule old.problem piece.prefix h.part × (new.state ≡ after_graft old.problem old.state 1 ticket.node piece.prefix h.part)
graft-step old new ticket piece h = (h.event.3.0.1, h.event.3.1.2, h.event.3.1.4, h.event.3.1.5)

-- of a piece whose whole orders aren't below the best time
pub graft-between : (old new : LedgerOf) (ticket : TicketOf) (piece : PieceOf) → IsWithinRound old.problem old.state ticket → ((order : List ℕ) → Among order (whole_orders piece.prefix (tree_of piece)) → best_time old.problem old.state ≤ total_of old.problem order) → IsTaken old ticket.node piece new → IsBetweenRounds new.problem new.state
graft-between old new ticket piece within each h =
    let b = old.problem in
    let l = old.state in
    let i = ticket.node in
    let tree = h.part in
    let same : whole_orders piece.prefix (tree_of piece) ≡ whole_orders piece.prefix tree = same-wholes piece.prefix (tree_of piece) tree h.opens in
    let best = best_time b l in
    let taken = graft-step old new ticket piece h in
    let root : Node = record { prefix = (node_at l.nodes i).prefix; state = root_state b best piece.prefix tree } in
    let made = new_nodes b best piece.prefix tree in
    let none : tally is_out (with_state l.nodes i (root_state b best piece.prefix tree) ++ made) ≡ 0 =
    omega (
      arith,
      tally-append is_out (set l.nodes i root) made,
      new-not-out b best piece.prefix tree,
      tally-set is_out l.nodes i root no_node within.out.0,
      within.one_out,
      ap (λ s. cond {A = ℕ} (is_out_state s) 1 0) within.out.1,
      ap (λ t. cond {A = ℕ} t 1 0) (root-not-out b best piece.prefix tree),
    ) in
    subst (λ (p : Problem). IsBetweenRounds p new.state) (sym (taken-leads old new ticket.node piece h).0)
    (subst (IsBetweenRounds b) (sym taken.3)
    (record {
      none_out = none-among (with_state l.nodes i (root_state b best piece.prefix tree) ++ made) none;
      alone = alone-set l.allowances (allowance l 1 - splits tree) taken.0 within.alone;
      wholes = wholes-grafted old.rule b l 1 i piece.prefix tree within.out taken.2 (λ order among. each order (subst (Among order) (sym same) among)) within.wholes;
    }))
