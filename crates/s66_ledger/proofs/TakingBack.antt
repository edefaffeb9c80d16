-- A ledger takes back allowances and nodes, one after the other, until none is out.
use Rattle.std.proofs.Common.{ℕ, zero, suc, ◌+◌, ◌-◌, ◌≤◌, ◌<◌, ◌≡◌, ◌≢◌, List, [], ◌∷◌, length, take, set, refl, sym, ap, arith, inl, inr, subst, ◌∙◌, length-set, get_or-set_other, get_or-set_same}
use Rattle.std.proofs.Common.{take_all}
use Rattle.std.proofs.lemmas.Bool.{cases_eq}
use Rattle.s66_isa.specs.{weigh}
use Rattle.s66_model.specs.{Ledger, Node, State, Open, Out, no_node, node_at, with_state, Back, Retire, Returned, Retired, IsOut, Problem}
use Rattle.s66_node.specs.declared.node.Node as kept
use Rattle.s66_ledger.specs.{NoneOut, NoneOutBelow, IsIdle, IsReopening, ledger_from, LedgerOf, IsEvent, nodes_of}
use Rattle.s66_ledger.specs.OpenNodes as OpenNodes
use Rattle.s66_ledger.proofs.Events.{not-out}
use Rattle.s66_ledger.proofs.Leading.{each-among, leads-nowhere, event-leads}

retired-one : (xs : List ℕ) (i : ℕ) → weigh (λ n. n) (take i xs) ≡ 0 → weigh (λ n. n) (take (suc i) (set xs i 0)) ≡ 0
retired-one [] i none = refl
retired-one (x ∷ xs) zero none = refl
retired-one (x ∷ xs) (suc i) none = omega (arith, none, retired-one xs i (omega (arith, none)))

-- the workers before this one have none, and now this one has none
pub retired-next : (old new : LedgerOf) (at : ℕ) → IsEvent old (Retire (at + 1)) Retired new → weigh (λ n. n) (take at old.state.allowances) ≡ 0 → weigh (λ n. n) (take (at + 1) new.state.allowances) ≡ 0
retired-next old new at h none =
    let next : at + 1 ≡ suc at = omega arith in
    let same : at + 1 - 1 ≡ at = omega arith in
    let is : new.state.allowances ≡ set old.state.allowances at 0 = ap (λ (l : Ledger). l.allowances) h.3.1 ∙ ap (λ i. set old.state.allowances i 0) same in
    ap (λ xs. weigh (λ n. n) (take (at + 1) xs)) is ∙ (ap (λ k. weigh (λ n. n) (take k (set old.state.allowances at 0))) next ∙ retired-one old.state.allowances at none)

pub retired-count : (old new : LedgerOf) (at : ℕ) → IsEvent old (Retire (at + 1)) Retired new → length new.state.allowances ≡ length old.state.allowances
retired-count old new at h = ap (λ (l : Ledger). length l.allowances) h.3.1 ∙ length-set old.state.allowances (at + 1 - 1) 0

pub retired-all : (xs : List ℕ) (count : ℕ) → length xs ≤ count → weigh (λ n. n) (take count xs) ≡ 0 → weigh (λ n. n) xs ≡ 0
retired-all xs count le none = ap (weigh (λ n. n)) (sym (take_all count xs le)) ∙ none

-- NODES

out-within : (nodes : List Node) (i : ℕ) → (node_at nodes i).state ≡ Out → i < length nodes
out-within [] i is = absurd cc
out-within (node ∷ nodes) zero is = omega arith
out-within (node ∷ nodes) (suc i) is = omega (arith, out-within nodes i is)

one-more : (l : Ledger) (i : ℕ) → NoneOutBelow i l → (node_at l.nodes i).state ≢ Out → NoneOutBelow (i + 1) l
one-more l i below here j lt =
    elim (cases_eq j i) [
      | inl is ↦ subst (λ k. (node_at l.nodes k).state ≢ Out) (sym is) here
      | inr not ↦ below j (omega (arith, lt, not))
    ]

pub stayed-in : (l : LedgerOf) (i : ℕ) → ¬ IsOut l.state i → IsReopening l i l
stayed-in l i never =
    record {
      leads = leads-nowhere l;
      in_hand = λ below. one-more l.state i below (λ out. never (out-within l.state.nodes i out, out));
      count = refl;
      allowances = refl;
    }

opened : (nodes : List Node) (i : ℕ) → i < length nodes → (node_at (with_state nodes i Open) i).state ≢ Out
opened nodes i lt out =
    let y : Node = record { prefix = (node_at nodes i).prefix; state = Open } in
    let same : Open ≡ Out = sym (ap (λ (n : Node). n.state) (get_or-set_same nodes i y no_node lt)) ∙ out in
    absurd cc

others-in : (nodes : List Node) (i : ℕ) (s : State) → ((j : ℕ) → j < i → (node_at nodes j).state ≢ Out) → (j : ℕ) → j < i → (node_at (with_state nodes i s) j).state ≢ Out
others-in nodes i s below j lt out =
    let y : Node = record { prefix = (node_at nodes i).prefix; state = s } in
    below j lt (sym (ap (λ (n : Node). n.state) (get_or-set_other nodes i j y no_node (λ e. absurd (omega (arith, e, lt))))) ∙ out)

pub reopened : (old new : LedgerOf) (w i : ℕ) → IsEvent old (Back w i) Returned new → IsReopening old i new
reopened old new w i h =
    let is : new.state.nodes ≡ with_state old.state.nodes i Open = ap (λ (l : Ledger). l.nodes) h.3.1.1 in
    record {
      leads = event-leads old new (Back w i) Returned h;
      in_hand =
          λ below.
          one-more new.state i
          (subst (λ ns. (j : ℕ) → j < i → (node_at ns j).state ≢ Out) (sym is) (others-in old.state.nodes i Open below))
          (subst (λ ns. (node_at ns i).state ≢ Out) (sym is) (opened old.state.nodes i h.3.1.0.0));
      count = ap length is ∙ length-set old.state.nodes i (record { prefix = (node_at old.state.nodes i).prefix; state = Open });
      allowances = ap (λ (l : Ledger). l.allowances) h.3.1.1;
    }

pub idle-after : (l : Ledger) (count : ℕ) → NoneOutBelow count l → length l.nodes ≤ count → weigh (λ n. n) l.allowances ≡ 0 → IsIdle l
idle-after l count none is nothing =
    record {
      none_out = each-among (λ (n : Node). n.state ≢ Out) no_node l.nodes (λ i lt. none i (omega (arith, lt, is)));
      no_allowance = nothing;
    }

-- none of the nodes that are stored is out
pub none-kept-out : (b : Problem) (nodes : List kept.Node) (best : List ℕ) (left : ℕ) (allowances : List ℕ) (spent : ℕ) → ((i : ℕ) → ¬ OpenNodes.StoresOut nodes i) → NoneOut (ledger_from b nodes best left allowances spent)
none-kept-out b nodes best left allowances spent none =
    each-among (λ (n : Node). n.state ≢ Out) no_node (nodes_of b nodes) (λ i lt out. not-out b nodes best left allowances spent i (none i) (lt, out))
