-- Each round of a search has less to go. If it stops, no open node's floor is below the best time or the budget is spent.
use Rattle.std.proofs.Common.{ℕ, suc, ◌+◌, ◌≤◌, ◌<◌, ◌≡◌, ◌⊎◌, true, cond, List, [], ◌∷◌, refl, sym, ap, arith, subst, ◌∙◌, inl, inr, Option, Some, None}
use Rattle.s66_isa.specs.{tally, Among}
use Rattle.s66_model.specs.{Rule, NoneNamed, WrittenEarlier, ClampedStanding, Problem, total_of, Whole, value, floor_value, Tree, Alone, Parted, splits, Terminal, Carries, Frontier, Passed}
use Rattle.s66_model.specs.{IsExpansion, Ledger, Node, Claim, Back, Claimed, Returned, best_time, allowance, is_open, node_at, Covers, TicketOf}
use Rattle.s66_model.proofs.Floors.{floor-whole}
use Rattle.s66_model.proofs.LedgerRuns.{run-falls}
use Rattle.s66_model.proofs.LedgerSteps.{root-stands}
use Rattle.s66_time.specs.TimedOrder.{TimedOrder}
use Rattle.s66_node.specs.{PieceOf, tree_of, IsBestTimed}
use Rattle.s66_ledger.specs.{IsLeastOpen, LedgerOf, IsEvent, piece_splits, IsSearched, IsBetweenRounds, IsOffering, IsTaken, still_to_go}
use Rattle.s66_ledger.proofs.Taken.{same-splits}
use Rattle.s66_ledger.proofs.Events.{at-most-all}
use Rattle.s66_ledger.proofs.Rounds.{taken-leads, claim-within, claim-back, graft-step}

-- A PIECE MAY HAVE no more splits than the worker may spend, and one if that is one or more

pub piece_splits-some : (rule : Rule) (allowance : ℕ) → 1 ≤ allowance → 1 ≤ piece_splits rule allowance
piece_splits-some NoneNamed allowance some = some
piece_splits-some WrittenEarlier allowance some = some
piece_splits-some ClampedStanding allowance some = omega (arith, some)

-- A PIECE GAINS: its tree has a split, or its least whole order is below the best time

abbrev Gains : Problem → ℕ → Tree Terminal → Option TimedOrder → Type 0
Gains b best tree timed = (1 ≤ splits tree) ⊎ ((t : TimedOrder) × (timed ≡ Some t) × (total_of b t.numbers < best))

whole-gains : (b : Problem) (best : ℕ) (prefix : List ℕ) (timed : Option TimedOrder) → total_of b prefix < best → IsBestTimed b prefix (Alone (Carries Whole)) timed → Gains b best (Alone (Carries Whole)) timed
whole-gains b best prefix None below is = absurd cc
whole-gains b best prefix (Some t) below (own, (inl same, least)) = inr (t, refl, omega (arith, below, ap (total_of b) same))
whole-gains b best prefix (Some t) below (own, (inr past, least)) = absurd past

pub expansion-gains : (rule : Rule) (b : Problem) (best allowance : ℕ) (prefix : List ℕ) (tree : Tree Terminal) (timed : Option TimedOrder) → IsExpansion rule b best best allowance prefix tree → 1 ≤ allowance → floor_value b prefix < best → IsBestTimed b prefix tree timed → Gains b best tree timed
expansion-gains rule b best allowance prefix (Parted numbers siblings) timed h some below is = inl (omega arith)
expansion-gains rule b best allowance prefix (Alone Frontier) timed h some below is = absurd (omega (arith, some, h.spent (inl refl)))
expansion-gains rule b best allowance prefix (Alone (Passed name)) timed h some below is =
    (let stands = root-stands rule b best prefix (Alone (Passed name)) h.piece.0 in absurd cc)
expansion-gains rule b best allowance prefix (Alone (Carries leaf)) timed h some below is =
    elim h.piece.1 [
      | inl complete ↦
          let whole : leaf ≡ Whole = h.piece.0 ∙ floor-whole b prefix complete in
          let total : floor_value b prefix ≡ total_of b prefix = ap (value b prefix) (floor-whole b prefix complete) in
          subst (λ l. Gains b best (Alone (Carries l)) timed) (sym whole)
          (whole-gains b best prefix timed (omega (arith, below, total)) (subst (λ l. IsBestTimed b prefix (Alone (Carries l)) timed) whole is))
      | inr no_less ↦ absurd (omega (arith, no_less, below, ap (value b prefix) h.piece.0))
    ]

-- A ROUND HAS LESS TO GO

-- the offer first, and then the graft
pub taken-less : (old mid new : LedgerOf) (ticket : TicketOf) (piece : PieceOf) →
    Covers old.rule old.problem old.budget old.state →
    IsOffering old mid →
    ((t : TimedOrder) → piece.timed ≡ Some t → best_time mid.problem mid.state ≤ total_of mid.problem t.numbers) →
    IsTaken mid ticket.node piece new →
    Gains old.problem (best_time old.problem old.state) (tree_of piece) piece.timed →
    still_to_go new < still_to_go old
taken-less old mid new ticket piece covers offers at_most grafts gains =
    let (problem, budget, workers, (history, run), by) = offers.leads in
    let (problem2, budget2, workers2, run2, by2) = taken-leads mid new ticket.node piece grafts in
    let (some, fits, holds, is) = graft-step mid new ticket piece grafts in
    let falls : best_time old.problem mid.state ≤ best_time old.problem old.state = run-falls old.rule old.problem history old.state mid.state run in
    let best : best_time new.problem new.state ≡ best_time old.problem mid.state = ap (λ p. best_time p new.state) (problem2 ∙ problem) ∙ ap (best_time old.problem) is in
    let spent : new.state.spent ≡ old.state.spent + splits grafts.part = omega (arith, ap (λ (l : Ledger). l.spent) is, ap (λ (l : Ledger). l.spent) offers.same) in
    let room : old.state.spent + splits grafts.part ≤ old.budget = omega (arith, covers.sum, fits, at-most-all old.state.allowances 0, ap (λ (l : Ledger). allowance l 1) offers.same) in
    elim gains [
      | inl split ↦ omega (arith, split, same-splits (tree_of piece) grafts.part grafts.opens, falls, best, spent, room, budget, budget2)
      | inr lower ↦
          omega (
            arith,
            ap (λ p. best_time p mid.state) problem,
            ap (λ p. total_of p lower.0.numbers) problem,
            at_most lower.0 lower.1,
            lower.2,
            best,
            spent,
            room,
            budget,
            budget2,
          )
    ]

-- WHERE A SEARCH STOPS

among-at : (nodes : List Node) (node : Node) → Among node nodes → (i : ℕ) × (node ≡ node_at nodes i)
among-at [] node among = absurd among
among-at (x ∷ nodes) node (inl e) = (0, e)
among-at (x ∷ nodes) node (inr later) =
    let (i, e) = among-at nodes node later in
    (suc i, e)

open-counted : (nodes : List Node) (node : Node) → Among node nodes → is_open node ≡ true → 1 ≤ tally is_open nodes
open-counted [] node among opens = absurd among
open-counted (x ∷ nodes) node (inl e) opens =
    omega (arith, ap (λ t. cond {A = ℕ} t 1 0) (sym (ap is_open e) ∙ opens))
open-counted (x ∷ nodes) node (inr later) opens = omega (arith, open-counted nodes node later opens)

pub none-searched : (old new : LedgerOf) → IsBetweenRounds old.problem old.state → IsEvent old (Claim 1) (Claimed None) new → IsSearched new.problem new.budget new.state
none-searched old new between h =
    subst (λ (b : Problem). IsSearched b new.budget new.state) (sym h.0)
    (subst (IsSearched old.problem new.budget) (sym h.3.1.1)
    (record {
      none_out = between.none_out;
      open_or_spent = inl (λ node among opens. absurd (omega (arith, h.3.1.0, open-counted old.state.nodes node among opens)));
      wholes = between.wholes;
    }))

-- the least floor of an open node isn't below the best time
least-searched : (b : Problem) (budget : ℕ) (l : Ledger) (ticket : TicketOf) → IsBetweenRounds b l → IsLeastOpen b l (Some ticket) → best_time b l ≤ floor_value b ticket.prefix → IsSearched b budget l
least-searched b budget l ticket between least reached =
    record {
      none_out = between.none_out;
      open_or_spent = inl (λ node among opens.
          let (i, e) = among-at l.nodes node among in
          omega (arith, reached, least i (sym (ap is_open e) ∙ opens), ap (λ (n : Node). floor_value b n.prefix) e));
      wholes = between.wholes;
    }

-- if a node that was claimed for its least floor is given back, and that isn't below the best time
pub back-searched : (old mid new : LedgerOf) (ticket : TicketOf) (best floor : ℕ) →
    IsBetweenRounds old.problem old.state → IsEvent old (Claim 1) (Claimed (Some ticket.node)) mid → ticket.prefix ≡ (node_at old.state.nodes ticket.node).prefix →
    IsLeastOpen old.problem old.state (Some ticket) →
    best ≡ best_time mid.problem mid.state → floor ≡ floor_value mid.problem (node_at mid.state.nodes ticket.node).prefix → best ≤ floor →
    IsEvent mid (Back 1 ticket.node) Returned new → IsSearched new.problem new.budget new.state
back-searched old mid new ticket best floor between claimed prefix least best_is floor_is le back =
    let within = claim-within old mid ticket claimed prefix between in
    let same : new.state ≡ old.state = claim-back old mid ticket claimed prefix new back in
    let reached : best_time old.problem old.state ≤ floor_value old.problem ticket.prefix =
    omega (
      arith,
      le,
      best_is,
      ap (λ p. best_time p mid.state) claimed.0,
      ap (best_time old.problem) claimed.3.1.2,
      floor_is,
      ap (λ p. floor_value p (node_at mid.state.nodes ticket.node).prefix) claimed.0,
      ap (floor_value old.problem) within.prefix,
    ) in
    subst (λ p. IsSearched p new.budget new.state) (sym (back.0 ∙ claimed.0))
    (subst (IsSearched old.problem new.budget) (sym same) (least-searched old.problem new.budget old.state ticket between least reached))
