-- How many nodes are out, and how deep those are that are open or out: of one node more, and of a node in another state.
use Rattle.std.proofs.Common.{ℕ, zero, suc, ◌+◌, ◌≤◌, ◌<◌, ◌≡◌, Bool, true, false, cond, List, [], ◌∷◌, ◌++◌, length, get_or, set, refl, sym, ap, arith, inl, inr, ◌∙◌, length-append}
use Rattle.std.proofs.lemmas.Bool.{cases_eq, cases_Bool}
use Rattle.s66_isa.specs.{tally}
use Rattle.s66_isa.proofs.Lists.{tally-set, tally-append, cases_le, get_or-past}
use Rattle.s66_node.specs.{Node, State, is_stored_open, is_stored_live}
use Rattle.s66_node.specs.declared.node.State.TheVariants as state
use Rattle.s66_node.proofs.Nodes.{get_or-front, get_or-last}
use Rattle.s66_ledger.specs.{stored_at, no_stored, is_stored_out, stores_out, StoresOut, AreCounted}
use Rattle.s66_ledger.proofs.OpenHeap.{set-here, set-other}

pub one : (b c : Bool) → b ≡ c → ◌≡◌ {A = ℕ} (cond b 1 0) (cond c 1 0)
one b c e = ap (λ t. cond {A = ℕ} t 1 0) e

-- one open node
pub counted-first : (x : Node) → x.state ≡ state.Open → x.depth ≡ 0 → AreCounted (x ∷ []) 0 0
counted-first x opens shallow =
    record {
      count = omega (arith, one (stores_out x) false (ap is_stored_out opens));
      within = deep;
    }
  where
    deep : (i : ℕ) → is_stored_live (stored_at (x ∷ []) i).state ≡ true → (stored_at (x ∷ []) i).depth ≤ 0
    deep zero live = omega (arith, shallow)
    deep (suc i) live = absurd cc

-- a node in another state
pub counted-set : (nodes : List Node) (i : ℕ) (y d : Node) (out now deepest : ℕ) → i < length nodes → AreCounted nodes out deepest → now + cond (stores_out (get_or nodes i d)) 1 0 ≡ out + cond (stores_out y) 1 0 → (is_stored_live y.state ≡ true → y.depth ≤ deepest) → AreCounted (set nodes i y) now deepest
counted-set nodes i y d out now deepest lt are moved deep =
    record {
      count = omega (arith, tally-set stores_out nodes i y d lt, are.count, moved);
      within =
          λ j.
          elim (cases_eq i j) [
            | inl e ↦
                (let here = set-here nodes i j y lt e in
                λ live. omega (arith, ap (λ (n : Node). n.depth) here, deep (sym (ap (λ (n : Node). is_stored_live n.state) here) ∙ live)))
            | inr ne ↦
                (let other = set-other nodes i j y ne in
                λ live. omega (arith, ap (λ (n : Node). n.depth) other, are.within j (sym (ap (λ (n : Node). is_stored_live n.state) other) ∙ live)))
          ];
    }

-- one node more, which isn't out
pub counted-push : (nodes : List Node) (x : Node) (out deepest more : ℕ) → AreCounted nodes out deepest → stores_out x ≡ false → deepest ≤ more → (is_stored_live x.state ≡ true → x.depth ≤ more) → AreCounted (nodes ++ x ∷ []) out more
counted-push nodes x out deepest more are in_table le deep =
    record {
      count = omega (arith, tally-append stores_out nodes (x ∷ []), are.count, one (stores_out x) false in_table);
      within =
          λ j.
          elim (cases_le (length nodes) j) [
            | inl past ↦ λ live.
                elim (cases_eq j (length nodes)) [
                  | inl e ↦
                      (let here : stored_at (nodes ++ x ∷ []) j ≡ x = ap (stored_at (nodes ++ x ∷ [])) e ∙ get_or-last nodes x no_stored in
                      omega (arith, ap (λ (n : Node). n.depth) here, deep (sym (ap (λ (n : Node). is_stored_live n.state) here) ∙ live)))
                  | inr ne ↦
                      (let none = get_or-past (nodes ++ x ∷ []) j no_stored (omega (arith, past, ne, length-append nodes (x ∷ []))) in
                      omega (arith, ap (λ (n : Node). n.depth) none))
                ]
            | inr lt ↦
                (let front = get_or-front nodes x j no_stored lt in
                λ live. omega (arith, ap (λ (n : Node). n.depth) front, are.within j (sym (ap (λ (n : Node). is_stored_live n.state) front) ∙ live)))
          ];
    }

-- WHAT THEY TELL

-- a node is counted
pub some-out : (nodes : List Node) (i : ℕ) → StoresOut nodes i → 1 ≤ tally stores_out nodes
some-out nodes i (lt, out) = omega (arith, tally-set stores_out nodes i no_stored no_stored lt, one (stores_out (stored_at nodes i)) true (ap is_stored_out out))

-- without a count none is out
pub none-out : (nodes : List Node) → tally stores_out nodes ≡ 0 → (i : ℕ) → ¬ StoresOut nodes i
none-out nodes none i out = omega (arith, none, some-out nodes i out)

tally-length : (nodes : List Node) → tally stores_out nodes ≤ length nodes
tally-length [] = omega arith
tally-length (x ∷ nodes) = elim (cases_Bool (stores_out x)) [
  | inl e ↦ omega (arith, tally-length nodes, one (stores_out x) true e)
  | inr e ↦ omega (arith, tally-length nodes, one (stores_out x) false e)
]

-- another one is out
pub room-out : (nodes : List Node) (i : ℕ) → i < length nodes → stores_out (stored_at nodes i) ≡ false → tally stores_out nodes + 1 ≤ length nodes
room-out [] i lt is = absurd (omega arith)
room-out (x ∷ nodes) zero lt is = omega (arith, tally-length nodes, one (stores_out x) false is)
room-out (x ∷ nodes) (suc i) lt is = elim (cases_Bool (stores_out x)) [
  | inl e ↦ omega (arith, room-out nodes i (omega arith) is, one (stores_out x) true e)
  | inr e ↦ omega (arith, room-out nodes i (omega arith) is, one (stores_out x) false e)
]

-- a node that isn't open or out
pub shut-in : (s : State) → is_stored_open s ≡ false → is_stored_out s ≡ false → is_stored_live s ≡ false
shut-in state.Open shut in_table = absurd cc
shut-in state.Out shut in_table = absurd cc
shut-in state.Closed shut in_table = refl
shut-in state.Split shut in_table = refl
shut-in state.Dominated shut in_table = refl
