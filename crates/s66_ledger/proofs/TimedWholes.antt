-- No event of a search leaves a whole order below the best time open or out.
use Rattle.std.proofs.Common.{ℕ, ◌≤◌, ◌<◌, ◌≡◌, true, true≢false, List, [], ◌∷◌, ◌++◌, length, Option, None, Some, refl, sym, ap, arith, inl, inr, subst, ◌∙◌}
use Rattle.s66_isa.specs.{Among}
use Rattle.s66_isa.proofs.Lists.{among-front, among-rest}
use Rattle.s66_model.specs.{Rule, Problem, total_of, IsComplete, value, floor_value, Tree, Alone, Parted, Siblings, NoMore, Unsplit, Split, SiblingsHold, sibling_values, Terminal, Carries, Frontier}
use Rattle.s66_model.specs.{Passed, TerminalHolds, IsPiece, whole_at, whole_orders, Ledger, Node, State, no_node, node_at, is_live_state, is_live, with_state, best_time, IsOut, root_state}
use Rattle.s66_model.specs.{sibling_nodes, new_nodes, after_graft}
use Rattle.s66_model.proofs.Floors.{floor-whole}
use Rattle.s66_line.proofs.OperationLaw.{among-at}
use Rattle.s66_time.specs.TimedOrder.{TimedOrder}
use Rattle.s66_node.specs.{IsBestTimed}
use Rattle.s66_node.proofs.Leasts.{among-either}
use Rattle.s66_ledger.specs.{LedgerOf, WholesAreTimed, IsOffering}
use Rattle.s66_ledger.proofs.Taken.{dominated-part}
use Rattle.s66_ledger.proofs.Leading.{each-set, leads-fall}

-- the node isn't a whole order that is open or out and has a time below this
abbrev IsTimedNode : Problem → ℕ → Node → Type 0
IsTimedNode b time node = is_live node ≡ true → IsComplete b.block node.prefix → time ≤ floor_value b node.prefix

-- AN OFFER lowers the best time alone

pub wholes-offered : (old new : LedgerOf) → IsOffering old new → WholesAreTimed old.problem old.state → WholesAreTimed new.problem new.state
wholes-offered old new offers wholes node among live whole =
    let falls = leads-fall old new offers.leads in
    let before : WholesAreTimed new.problem old.state = subst (λ (b : Problem). WholesAreTimed b old.state) (sym offers.leads.0) wholes in
    omega (arith, falls, before node (subst (Among node) (ap (λ (l : Ledger). l.nodes) offers.same) among) live whole)

-- A NODE TAKES ANOTHER STATE, which was open or out

pub wholes-moved : (b : Problem) (time : ℕ) (nodes : List Node) (i : ℕ) (state : State) → i < length nodes → is_live (node_at nodes i) ≡ true → ((node : Node) → Among node nodes → IsTimedNode b time node) → (node : Node) → Among node (with_state nodes i state) → IsTimedNode b time node
wholes-moved b time nodes i state lt was wholes =
    each-set (IsTimedNode b time) nodes i (record { prefix = (node_at nodes i).prefix; state = state })
    (λ live. wholes (node_at nodes i) (among-at nodes i no_node lt) was) wholes

-- A PIECE'S NODES, if none of its whole orders takes less time

pub least-timed : (b : Problem) (time : ℕ) (prefix : List ℕ) (tree : Tree Terminal) (timed : Option TimedOrder) → IsBestTimed b prefix tree timed → ((t : TimedOrder) → timed ≡ Some t → time ≤ total_of b t.numbers) → (order : List ℕ) → Among order (whole_orders prefix tree) → time ≤ total_of b order
least-timed b time prefix tree None none at_most order among = absurd (subst (Among order) none among)
least-timed b time prefix tree (Some t) least at_most order among = omega (arith, at_most t refl, least.1.1 order among)

terminal-timed : (rule : Rule) (b : Problem) (time : ℕ) (prefix : List ℕ) (tree : Tree Terminal) (at : List ℕ) (terminal : Terminal) → TerminalHolds rule b prefix tree at terminal → ((order : List ℕ) → Among order (whole_at at terminal) → time ≤ total_of b order) → IsComplete b.block at → time ≤ floor_value b at
terminal-timed rule b time prefix tree at (Carries leaf) is each whole =
    let same = floor-whole b at whole in
    omega (arith, ap (value b at) same, subst (λ t. (order : List ℕ) → Among order (whole_at at (Carries t)) → time ≤ total_of b order) (is ∙ same) each at (inl refl))
terminal-timed rule b time prefix tree at Frontier part each whole = absurd (omega (arith, part, whole))
terminal-timed rule b time prefix tree at (Passed name) holds each whole = absurd (omega (arith, dominated-part rule b name at holds.0, whole))

module _ (rule : Rule) (b : Problem) (time best : ℕ) where
  abbrev AreTimed : List (List ℕ) → Type 0
  AreTimed orders = (order : List ℕ) → Among order orders → time ≤ total_of b order

  -- of a piece over this prefix, with this tree
  siblings-timed : (prefix : List ℕ) (tree : Tree Terminal) (siblings : Siblings Terminal) (at ns : List ℕ) → SiblingsHold b.block (TerminalHolds rule b prefix tree) at ns siblings → AreTimed (sibling_values whole_at at ns siblings) → (node : Node) → Among node (sibling_nodes b best at ns siblings) → IsTimedNode b time node
  siblings-timed prefix tree siblings at [] holds each node among = absurd among
  siblings-timed prefix tree NoMore at (n ∷ ns) holds each node among = absurd among
  siblings-timed prefix tree (Unsplit terminal siblings) at (n ∷ ns) holds each node (inl e) = λ live whole.
      let longer = at ++ n ∷ [] in
      let same = ap (λ (x : Node). x.prefix) e in
      let first : AreTimed (whole_at longer terminal) = λ order among. each order (among-front order (whole_at longer terminal) (sibling_values whole_at at ns siblings) among) in
      subst (λ p. time ≤ floor_value b p) (sym same) (terminal-timed rule b time prefix tree longer terminal holds.0 first (subst (IsComplete b.block) same whole))
  siblings-timed prefix tree (Unsplit terminal siblings) at (n ∷ ns) holds each node (inr later) =
      siblings-timed prefix tree siblings at ns holds.1 (λ order among. each order (among-rest order (whole_at (at ++ n ∷ []) terminal) (sibling_values whole_at at ns siblings) among)) node later
  siblings-timed prefix tree (Split numbers sub siblings) at (n ∷ ns) holds each node (inl e) = λ live. absurd (true≢false (sym live ∙ ap is_live e))
  siblings-timed prefix tree (Split numbers sub siblings) at (n ∷ ns) holds each node (inr later) =
      let longer = at ++ n ∷ [] in
      let below = sibling_values whole_at longer numbers sub in
      let beside = sibling_values whole_at at ns siblings in
      among-either node (sibling_nodes b best longer numbers sub) (sibling_nodes b best at ns siblings) (IsTimedNode b time node)
      (siblings-timed prefix tree sub longer numbers holds.2 (λ order among. each order (among-front order below beside among)) node)
      (siblings-timed prefix tree siblings at ns holds.3 (λ order among. each order (among-rest order below beside among)) node)
      later

  new-timed : (prefix : List ℕ) (tree : Tree Terminal) → IsPiece rule b prefix tree → AreTimed (whole_orders prefix tree) → (node : Node) → Among node (new_nodes b best prefix tree) → IsTimedNode b time node
  new-timed prefix (Alone terminal) piece each node among = absurd among
  new-timed prefix (Parted numbers siblings) piece each node among = siblings-timed prefix (Parted numbers siblings) siblings prefix numbers piece.2 each node among

-- A GRAFT of a piece whose whole orders aren't below the best time

pub wholes-grafted : (rule : Rule) (b : Problem) (l : Ledger) (w i : ℕ) (prefix : List ℕ) (tree : Tree Terminal) → IsOut l i → IsPiece rule b prefix tree → ((order : List ℕ) → Among order (whole_orders prefix tree) → best_time b l ≤ total_of b order) → WholesAreTimed b l → WholesAreTimed b (after_graft b l w i prefix tree)
wholes-grafted rule b l w i prefix tree out piece each wholes node among =
    let best = best_time b l in
    let root = root_state b best prefix tree in
    among-either node (with_state l.nodes i root) (new_nodes b best prefix tree) (IsTimedNode b best node)
    (wholes-moved b best l.nodes i root out.0 (ap is_live_state out.1) wholes node)
    (new-timed rule b best best prefix tree piece each node)
    among
