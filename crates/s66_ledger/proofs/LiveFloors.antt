-- The floors of the nodes that are open or out, and the least of them.
use Rattle.std.proofs.Common.{ℕ, suc, ◌+◌, ◌<◌, ◌≡◌, true, false, cond, min, List, [], ◌∷◌, ◌++◌, length, take, get_or, refl, sym, ap, arith, ◌∙◌, append_assoc, append-nil}
use Rattle.std.proofs.lemmas.List.{take_more}
use Rattle.s66_isa.specs.{least}
use Rattle.s66_model.specs.{Problem, floor_value, live_floors}
use Rattle.s66_model.specs.LedgerRuns as model
use Rattle.s66_node.specs.{Node, State, has_floor, is_stored_live}
use Rattle.s66_node.specs.declared.node.State.TheVariants as state
use Rattle.s66_ledger.specs.{prefixes, seen_state, seen_node, seen_at, nodes_of, stored_at, HaveFloors, live_values}
use Rattle.s66_ledger.proofs.NodePrefixes.{length-prefixes}

-- AS THE DEFINITION HAS THEM

head-live : (b : Problem) (name at : List ℕ) (s : State) (v : ℕ) (vs ws : List ℕ) → (has_floor s ≡ true → v ≡ floor_value b at) → vs ≡ ws → cond (model.is_live_state (seen_state b name at s)) (floor_value b at ∷ []) [] ++ vs ≡ cond (is_stored_live s) (v ∷ []) [] ++ ws
head-live b name at state.Open v vs ws h e = rw (h refl, e) refl
head-live b name at state.Out v vs ws h e = rw (h refl, e) refl
head-live b name at state.Closed v vs ws h e = e
head-live b name at state.Split v vs ws h e = e
head-live b name at state.Dominated v vs ws h e = e

live-at : (b : Problem) (before ats : List (List ℕ)) (xs : List Node) → length ats ≡ length xs → ((i : ℕ) → i < length xs → has_floor (stored_at xs i).state ≡ true → (stored_at xs i).value ≡ floor_value b (get_or ats i [])) → live_floors b (seen_at (seen_node b) before ats xs) ≡ live_values xs
live-at b before [] [] e h = refl
live-at b before [] (x ∷ xs) e h = absurd (omega (arith, e))
live-at b before (a ∷ ats) [] e h = absurd (omega (arith, e))
live-at b before (a ∷ ats) (x ∷ xs) e h =
    head-live b (get_or before x.value []) a x.state x.value (live_floors b (seen_at (seen_node b) (before ++ a ∷ []) ats xs)) (live_values xs) (h 0 (omega arith)) (live-at b (before ++ a ∷ []) ats xs (omega (arith, e)) (λ i lt. h (suc i) (omega (arith, lt))))

pub live-same : (b : Problem) (xs : List Node) → HaveFloors b xs → live_floors b (nodes_of b xs) ≡ live_values xs
live-same b xs h = live-at b [] (prefixes xs) xs (length-prefixes xs) h

-- THE LEAST

live-append : (xs : List Node) (x : Node) → live_values (xs ++ x ∷ []) ≡ live_values xs ++ cond (is_stored_live x.state) (x.value ∷ []) []
live-append [] x = append-nil (cond (is_stored_live x.state) (x.value ∷ []) [])
live-append (y ∷ xs) x =
    ap (λ vs. cond (is_stored_live y.state) (y.value ∷ []) [] ++ vs) (live-append xs x)
    ∙ sym (append_assoc (cond (is_stored_live y.state) (y.value ∷ []) []) (live_values xs) (cond (is_stored_live x.state) (x.value ∷ []) []))

least-push : (v : ℕ) (vs : List ℕ) (w : ℕ) → least (λ v. v) (v ∷ (vs ++ w ∷ [])) ≡ min (least (λ v. v) (v ∷ vs)) w
least-push v [] w = refl
least-push v (u ∷ vs) w = omega (arith, least-push u vs w)

module _ (nodes : List Node) (value i : ℕ) (d : Node) (lt : i < length nodes) where
  more : live_values (take (i + 1) nodes) ≡ live_values (take i nodes) ++ cond (is_stored_live (get_or nodes i d).state) ((get_or nodes i d).value ∷ []) []
  more = ap live_values (take_more nodes i d lt) ∙ live-append (take i nodes) (get_or nodes i d)

  pub least-live : is_stored_live (get_or nodes i d).state ≡ true → least (λ v. v) (value ∷ live_values (take (i + 1) nodes)) ≡ min (least (λ v. v) (value ∷ live_values (take i nodes))) (get_or nodes i d).value
  least-live is =
      ap (λ vs. least (λ v. v) (value ∷ vs)) (more ∙ ap (λ t. live_values (take i nodes) ++ cond t ((get_or nodes i d).value ∷ []) []) is) ∙ least-push value (live_values (take i nodes)) (get_or nodes i d).value

  pub least-dead : is_stored_live (get_or nodes i d).state ≡ false → least (λ v. v) (value ∷ live_values (take (i + 1) nodes)) ≡ least (λ v. v) (value ∷ live_values (take i nodes))
  least-dead is =
      ap (λ vs. least (λ v. v) (value ∷ vs)) (more ∙ (ap (λ t. live_values (take i nodes) ++ cond t ((get_or nodes i d).value ∷ []) []) is ∙ append-nil (live_values (take i nodes))))
