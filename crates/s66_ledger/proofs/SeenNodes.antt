-- The nodes that are kept as the definition's nodes: one more, and one with another state.
use Rattle.std.proofs.Common.{ℕ, zero, suc, ◌<◌, ◌≡◌, cond, List, [], ◌∷◌, ◌++◌, length, take, get_or, set, refl, sym, ap, arith, ◌∙◌, append_assoc, append-nil}
use Rattle.s66_isa.specs.{tally}
use Rattle.s66_model.specs.{Problem}
use Rattle.s66_model.specs.LedgerRuns as model
use Rattle.s66_node.specs.{Node, State, is_stored_open}
use Rattle.s66_node.specs.declared.node.State.TheVariants as state
use Rattle.s66_ledger.specs.{prefixes, name_at, seen_state, seen_node, made_line, seen_at, nodes_of, made_lines, no_stored, stored_at, put_state, stores_open}
use Rattle.s66_ledger.proofs.NodePrefixes.{length-prefixes, prefixes-push, prefixes-set}

-- ONE MORE

seen_at-push : {V : Type 0} (f : (name at : List ℕ) → Node → V) (before ats : List (List ℕ)) (xs : List Node) (at : List ℕ) (x : Node) → length ats ≡ length xs → seen_at f before (ats ++ at ∷ []) (xs ++ x ∷ []) ≡ seen_at f before ats xs ++ f (get_or (before ++ ats) x.value []) at x ∷ []
seen_at-push f before [] [] at x e = ap (λ (all : List (List ℕ)). f (get_or all x.value []) at x ∷ []) (sym (append-nil before))
seen_at-push f before [] (y ∷ xs) at x e = absurd (omega arith)
seen_at-push f before (a ∷ ats) [] at x e = absurd (omega arith)
seen_at-push f before (a ∷ ats) (y ∷ xs) at x e =
    ap (λ vs. f (get_or before y.value []) a y ∷ vs)
    (seen_at-push f (before ++ a ∷ []) ats xs at x (omega arith)
    ∙ ap (λ (all : List (List ℕ)). seen_at f (before ++ a ∷ []) ats xs ++ f (get_or all x.value []) at x ∷ []) (append_assoc before (a ∷ []) ats))

seen-push : {V : Type 0} (f : (name at : List ℕ) → Node → V) (xs : List Node) (x : Node) (at : List ℕ) → 0 < length xs → get_or (prefixes xs) x.parent [] ++ x.number ∷ [] ≡ at → seen_at f [] (prefixes (xs ++ x ∷ [])) (xs ++ x ∷ []) ≡ seen_at f [] (prefixes xs) xs ++ f (get_or (prefixes xs) x.value []) at x ∷ []
seen-push f xs x at some is =
    ap (λ ats. seen_at f [] ats (xs ++ x ∷ [])) (prefixes-push xs x some ∙ ap (λ a. prefixes xs ++ a ∷ []) is)
    ∙ seen_at-push f [] (prefixes xs) xs at x (length-prefixes xs)

pub nodes-push : (b : Problem) (xs : List Node) (x : Node) (at : List ℕ) → 0 < length xs → get_or (prefixes xs) x.parent [] ++ x.number ∷ [] ≡ at → nodes_of b (xs ++ x ∷ []) ≡ nodes_of b xs ++ seen_node b (get_or (prefixes xs) x.value []) at x ∷ []
nodes-push b = seen-push (seen_node b)

pub lines-push : (b : Problem) (xs : List Node) (x : Node) (at : List ℕ) → 0 < length xs → get_or (prefixes xs) x.parent [] ++ x.number ∷ [] ≡ at → made_lines b (xs ++ x ∷ []) ≡ made_lines b xs ++ made_line b (get_or (prefixes xs) x.value []) at x ∷ []
lines-push b = seen-push (made_line b)

-- ANOTHER STATE

nodes_at-set : (b : Problem) (before ats : List (List ℕ)) (xs : List Node) (i : ℕ) (y : Node) → length ats ≡ length xs → i < length xs → seen_at (seen_node b) before ats (set xs i y) ≡ model.with_state (seen_at (seen_node b) before ats xs) i (seen_state b (get_or (before ++ take i ats) y.value []) (model.node_at (seen_at (seen_node b) before ats xs) i).prefix y.state)
nodes_at-set b before [] [] i y e lt = absurd (omega arith)
nodes_at-set b before [] (x ∷ xs) i y e lt = absurd (omega arith)
nodes_at-set b before (a ∷ ats) [] i y e lt = absurd (omega arith)
nodes_at-set b before (a ∷ ats) (x ∷ xs) zero y e lt =
    ap (λ (all : List (List ℕ)). seen_node b (get_or all y.value []) a y ∷ seen_at (seen_node b) (before ++ a ∷ []) ats xs) (sym (append-nil before))
nodes_at-set b before (a ∷ ats) (x ∷ xs) (suc i) y e lt =
    let later = seen_at (seen_node b) (before ++ a ∷ []) ats xs in
    ap (λ (ns : List model.Node). seen_node b (get_or before x.value []) a x ∷ ns)
    (nodes_at-set b (before ++ a ∷ []) ats xs i y (omega arith) (omega arith)
    ∙ ap (λ (all : List (List ℕ)). model.with_state later i (seen_state b (get_or all y.value []) (model.node_at later i).prefix y.state)) (append_assoc before (a ∷ []) (take i ats)))

pub nodes-set : (b : Problem) (xs : List Node) (i : ℕ) (y d : Node) → i < length xs → y.parent ≡ (get_or xs i d).parent → y.number ≡ (get_or xs i d).number → nodes_of b (set xs i y) ≡ model.with_state (nodes_of b xs) i (seen_state b (get_or (take i (prefixes xs)) y.value []) (model.node_at (nodes_of b xs) i).prefix y.state)
nodes-set b xs i y d lt e f = ap (λ ats. seen_at (seen_node b) [] ats (set xs i y)) (prefixes-set xs i y d e f) ∙ nodes_at-set b [] (prefixes xs) xs i y (length-prefixes xs) lt

pub nodes-state : (b : Problem) (xs : List Node) (i : ℕ) (s : State) (seen : model.State) → i < length xs → ((name at : List ℕ) → seen_state b name at s ≡ seen) → nodes_of b (put_state xs i s) ≡ model.with_state (nodes_of b xs) i seen
nodes-state b xs i s seen lt is =
    nodes-set b xs i (record (stored_at xs i) { state = s }) no_stored lt refl refl ∙ ap (λ y. model.with_state (nodes_of b xs) i y) (is (name_at xs i) (model.node_at (nodes_of b xs) i).prefix)

-- its line stays
lines_at-state : (b : Problem) (before ats : List (List ℕ)) (xs : List Node) (i : ℕ) (s : State) → seen_at (made_line b) before ats (put_state xs i s) ≡ seen_at (made_line b) before ats xs
lines_at-state b before [] xs i s = refl
lines_at-state b before (a ∷ ats) [] i s = refl
lines_at-state b before (a ∷ ats) (x ∷ xs) zero s = refl
lines_at-state b before (a ∷ ats) (x ∷ xs) (suc i) s = ap (λ ks. made_line b (get_or before x.value []) a x ∷ ks) (lines_at-state b (before ++ a ∷ []) ats xs i s)

pub lines-state : (b : Problem) (xs : List Node) (i : ℕ) (s : State) → made_lines b (put_state xs i s) ≡ made_lines b xs
lines-state b xs i s =
    ap (λ ats. seen_at (made_line b) [] ats (put_state xs i s)) (prefixes-set xs i (record (stored_at xs i) { state = s }) no_stored refl refl) ∙ lines_at-state b [] (prefixes xs) xs i s

-- WHAT IS SEEN

length-seen_at : {V : Type 0} (f : (name at : List ℕ) → Node → V) (before ats : List (List ℕ)) (xs : List Node) → length ats ≡ length xs → length (seen_at f before ats xs) ≡ length xs
length-seen_at f before [] [] e = refl
length-seen_at f before [] (x ∷ xs) e = absurd (omega arith)
length-seen_at f before (a ∷ ats) [] e = absurd (omega arith)
length-seen_at f before (a ∷ ats) (x ∷ xs) e = omega (arith, length-seen_at f (before ++ a ∷ []) ats xs (omega arith))

pub length-nodes : (b : Problem) (xs : List Node) → length (nodes_of b xs) ≡ length xs
length-nodes b xs = length-seen_at (seen_node b) [] (prefixes xs) xs (length-prefixes xs)

pub length-lines : (b : Problem) (xs : List Node) → length (made_lines b xs) ≡ length xs
length-lines b xs = length-seen_at (made_line b) [] (prefixes xs) xs (length-prefixes xs)

at-seen_at : {V : Type 0} (f : (name at : List ℕ) → Node → V) (before ats : List (List ℕ)) (xs : List Node) (i : ℕ) (d : V) → length ats ≡ length xs → i < length xs → get_or (seen_at f before ats xs) i d ≡ f (get_or (before ++ take i ats) (stored_at xs i).value []) (get_or ats i []) (stored_at xs i)
at-seen_at f before [] [] i d e lt = absurd (omega arith)
at-seen_at f before [] (x ∷ xs) i d e lt = absurd (omega arith)
at-seen_at f before (a ∷ ats) [] i d e lt = absurd (omega arith)
at-seen_at f before (a ∷ ats) (x ∷ xs) zero d e lt = ap (λ (all : List (List ℕ)). f (get_or all x.value []) a x) (sym (append-nil before))
at-seen_at f before (a ∷ ats) (x ∷ xs) (suc i) d e lt =
    at-seen_at f (before ++ a ∷ []) ats xs i d (omega arith) (omega arith)
    ∙ ap (λ (all : List (List ℕ)). f (get_or all (stored_at xs i).value []) (get_or ats i []) (stored_at xs i)) (append_assoc before (a ∷ []) (take i ats))

pub at-nodes : (b : Problem) (xs : List Node) (i : ℕ) → i < length xs → model.node_at (nodes_of b xs) i ≡ seen_node b (name_at xs i) (get_or (prefixes xs) i []) (stored_at xs i)
at-nodes b xs i lt = at-seen_at (seen_node b) [] (prefixes xs) xs i model.no_node (length-prefixes xs) lt

pub open-seen : (b : Problem) (name at : List ℕ) (s : State) → model.is_open_state (seen_state b name at s) ≡ is_stored_open s
open-seen b name at state.Open = refl
open-seen b name at state.Out = refl
open-seen b name at state.Closed = refl
open-seen b name at state.Split = refl
open-seen b name at state.Dominated = refl

open-nodes_at : (b : Problem) (before ats : List (List ℕ)) (xs : List Node) → length ats ≡ length xs → tally model.is_open (seen_at (seen_node b) before ats xs) ≡ tally stores_open xs
open-nodes_at b before [] [] e = refl
open-nodes_at b before [] (x ∷ xs) e = absurd (omega arith)
open-nodes_at b before (a ∷ ats) [] e = absurd (omega arith)
open-nodes_at b before (a ∷ ats) (x ∷ xs) e =
    omega (arith, open-nodes_at b (before ++ a ∷ []) ats xs (omega arith), ap (λ t. cond {A = ℕ} t 1 0) (open-seen b (get_or before x.value []) a x.state))

pub open-nodes : (b : Problem) (xs : List Node) → tally model.is_open (nodes_of b xs) ≡ tally stores_open xs
open-nodes b xs = open-nodes_at b [] (prefixes xs) xs (length-prefixes xs)

pub out-seen : (b : Problem) (name at : List ℕ) (s : State) → seen_state b name at s ≡ model.Out → s ≡ state.Out
out-seen b name at state.Open e = absurd cc
out-seen b name at state.Out e = refl
out-seen b name at state.Closed e = absurd cc
out-seen b name at state.Split e = absurd cc
out-seen b name at state.Dominated e = absurd cc
