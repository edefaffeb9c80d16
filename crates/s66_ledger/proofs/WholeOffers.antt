-- A ledger's whole orders are offered, one after the other, until none that is below the best is open or out.
use Rattle.std.proofs.Common.{ℕ, ◌+◌, ◌≤◌, ◌<◌, ◌≡◌, true, List, [], length, get_or, refl, sym, ap, arith, inl, inr, subst, ◌∙◌}
use Rattle.std.proofs.lemmas.Bool.{cases_eq}
use Rattle.s66_isa.specs.{Instr}
use Rattle.s66_isa.proofs.Lists.{cases_le}
use Rattle.s66_model.specs.{Problem, total_of, IsLegal, IsBeginning, IsComplete, floor_value, value, Ledger, is_live, best_time}
use Rattle.s66_model.specs.LedgerRuns as model
use Rattle.s66_model.proofs.Floors.{floor-whole}
use Rattle.s66_model.proofs.LegalOrders.{order-legal}
use Rattle.s66_node.specs.{has_floor, is_stored_live, Node, State}
use Rattle.s66_node.specs.declared.node.State.TheVariants as state
use Rattle.s66_ledger.specs.{WholesAreTimed, IsTimedAt, IsOffering, IsTiming, LedgerOf, MachineOf, Stored, IsKeptMachine, machine_of, ledger_from, prefixes, name_at, stored_at, nodes_of, seen_state}
use Rattle.s66_ledger.proofs.SeenNodes.{at-nodes, length-nodes}
use Rattle.s66_ledger.proofs.Leading.{each-among, leads-fall}

timed-still : (old new : LedgerOf) (i : ℕ) → IsOffering old new → IsTimedAt old.problem old.state i → IsTimedAt new.problem new.state i
timed-still old new i offers timed =
    let before : IsTimedAt new.problem old.state i = subst (λ (b : Problem). IsTimedAt b old.state i) (sym offers.leads.0) timed in
    let falls = leads-fall old new offers.leads in
    subst (λ ns. is_live (model.node_at ns i) ≡ true → IsComplete new.problem.block (model.node_at ns i).prefix → best_time new.problem new.state ≤ floor_value new.problem (model.node_at ns i).prefix) (sym (ap (λ (l : Ledger). l.nodes) offers.same))
    (λ live whole. omega (arith, before live whole, falls))

-- what was timed stays so, and one more is
pub timed-next : (old new : LedgerOf) (i : ℕ) → IsTiming old i new → ((j : ℕ) → j < i → IsTimedAt old.problem old.state j) → (j : ℕ) → j < i + 1 → IsTimedAt new.problem new.state j
timed-next old new i h before j lt =
    elim (cases_eq j i) [
      | inl is ↦ subst (IsTimedAt new.problem new.state) (sym is) h.timed
      | inr not ↦ timed-still old new j h.offers (before j (omega (arith, lt, not)))
    ]

pub all-timed : (b : Problem) (l : Ledger) → ((i : ℕ) → i < length l.nodes → IsTimedAt b l i) → WholesAreTimed b l
all-timed b l h = each-among (λ (n : model.Node). is_live n ≡ true → IsComplete b.block n.prefix → best_time b l ≤ floor_value b n.prefix) model.no_node l.nodes h

pub whole-legal : (block : List Instr) (prefix : List ℕ) → IsBeginning block prefix → IsComplete block prefix → IsLegal block prefix
whole-legal block prefix begins whole = order-legal block prefix (begins, whole)

-- the order of a complete prefix is offered
pub timed-now : (old new : LedgerOf) (i : ℕ) (order : List ℕ) → order ≡ (model.node_at old.state.nodes i).prefix → IsOffering old new → best_time new.problem new.state ≤ total_of old.problem order → IsTiming old i new
timed-now old new i order is offers fast =
    let b = old.problem in
    let at = (model.node_at old.state.nodes i).prefix in
    let same = offers.leads.0 in
    let now : best_time b new.state ≤ total_of b at = omega (arith, fast, ap (total_of b) is, ap (λ (p : Problem). best_time p new.state) same) in
    record {
      offers = offers;
      timed =
          subst (λ (p : Problem). IsTimedAt p new.state i) (sym same)
          (subst (λ ns. is_live (model.node_at ns i) ≡ true → IsComplete b.block (model.node_at ns i).prefix → best_time b new.state ≤ floor_value b (model.node_at ns i).prefix) (sym (ap (λ (l : Ledger). l.nodes) offers.same))
          (λ live whole. omega (arith, now, ap (value b at) (floor-whole b at whole))));
    }

-- WHAT IS NOT OFFERED

live-seen : (b : Problem) (name at : List ℕ) (s : State) → model.is_live_state (seen_state b name at s) ≡ is_stored_live s
live-seen b name at state.Open = refl
live-seen b name at state.Out = refl
live-seen b name at state.Closed = refl
live-seen b name at state.Split = refl
live-seen b name at state.Dominated = refl

live-floor : (s : State) → is_stored_live s ≡ true → has_floor s ≡ true
live-floor state.Open live = refl
live-floor state.Out live = refl
live-floor state.Closed live = refl
live-floor state.Split live = absurd cc
live-floor state.Dominated live = absurd cc

-- a node that is open or out, and isn't below the best
pub not-below : (m : Stored) → IsKeptMachine m → (l : MachineOf) → machine_of m ≡ l → (i time : ℕ) → i < length m.nodes → time ≡ total_of m.best.problem m.best.numbers → ¬ ((is_stored_live (stored_at m.nodes i).state ≡ true) × ((stored_at m.nodes i).value < time)) → is_live (model.node_at l.state.nodes i) ≡ true → best_time l.problem l.state ≤ floor_value l.problem (model.node_at l.state.nodes i).prefix
not-below m h l is i time lt total never =
    let b = m.problem in
    let at = get_or (prefixes m.nodes) i [] in
    let s = (stored_at m.nodes i).state in
    subst (λ (l : MachineOf). is_live (model.node_at l.state.nodes i) ≡ true → best_time l.problem l.state ≤ floor_value l.problem (model.node_at l.state.nodes i).prefix) is
    (subst (λ (n : model.Node). is_live n ≡ true → total_of b m.best.numbers ≤ floor_value b n.prefix) (sym (at-nodes b m.nodes i lt))
    (λ live.
    let here : is_stored_live s ≡ true = sym (live-seen b (name_at m.nodes i) at s) ∙ live in
    elim (cases_le time (stored_at m.nodes i).value) [
      | inr below ↦ absurd (never (here, below))
      | inl ge ↦ omega (arith, ge, total, ap (λ p. total_of p m.best.numbers) h.own, h.floors i lt (live-floor s here))
    ]))

-- no node that is open or out has a whole order
pub none-whole : (b : Problem) (nodes : List Node) (best : List ℕ) (left : ℕ) (allowances : List ℕ) (spent : ℕ) → ((i : ℕ) → i < length nodes → is_stored_live (stored_at nodes i).state ≡ true → length (get_or (prefixes nodes) i []) < length b.block) → WholesAreTimed b (ledger_from b nodes best left allowances spent)
none-whole b nodes best left allowances spent short = all-timed b (ledger_from b nodes best left allowances spent) never
  where
    never : (i : ℕ) → i < length (nodes_of b nodes) → IsTimedAt b (ledger_from b nodes best left allowances spent) i
    never i lt live whole =
        let within : i < length nodes = omega (arith, lt, length-nodes b nodes) in
        let at = get_or (prefixes nodes) i [] in
        let is = at-nodes b nodes i within in
        absurd (omega (arith, short i within (sym (live-seen b (name_at nodes i) at (stored_at nodes i).state) ∙ (sym (ap is_live is) ∙ live)), whole, ap (λ (n : model.Node). length n.prefix) is))
