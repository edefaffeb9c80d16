-- Each step and every history of the ledger keep every legal order covered.
use Rattle.std.proofs.Common.{ℕ, ◌≤◌, ◌≡◌, List, [], ◌∷◌, refl, sym, ap, arith, subst, Some, None}
use Rattle.s66_model.specs.{Rule, Problem, IsPiece, Ledger, Open, Out, is_cut_state, node_at, best_time, IsWorker, Event, Grant, Claim, Graft, Offer, Back, Retire, Reply, Granted, Claimed, Taken}
use Rattle.s66_model.specs.{NotOut, OtherPrefix, OverAllowance, Lower, NotLower, OtherBlock, Returned, Retired, worker, opening, after_graft, AreNamed, Moves, Step, Run, Covers, NeverRises}
use Rattle.s66_model.proofs.LedgerSteps.{open_closed, out_closed, opening-covers, after_move-covers, after_grant-covers, after_retire-covers, after_offer-covers, after_graft-covers}

-- STEPS

module _ (rule : Rule) (b : Problem) (budget : ℕ) where
  moves-cover : (old : Ledger) (event : Event) (reply : Reply) (new : Ledger) → IsWorker old (worker event) → Moves rule b old event reply new → Covers rule b budget old → Covers rule b budget new
  moves-cover old (Grant w) (Granted n) new is h c = subst (Covers rule b budget) (sym h.1) (after_grant-covers rule b budget old w is c)
  moves-cover old (Claim w) (Claimed (Some i)) new is h c =
      subst (Covers rule b budget) (sym h.2) (after_move-covers rule b budget old i Out h.0 (ap is_cut_state h.1) refl refl out_closed c)
  moves-cover old (Claim w) (Claimed None) new is h c = subst (Covers rule b budget) (sym h.1) c
  moves-cover old (Graft w i own prefix count None) NotOut new is h c = subst (Covers rule b budget) (sym h.1) c
  moves-cover old (Graft w i own prefix count None) OtherPrefix new is h c = subst (Covers rule b budget) (sym h.2) c
  moves-cover old (Graft w i own prefix count None) OverAllowance new is h c = subst (Covers rule b budget) (sym h.3) c
  moves-cover old (Graft w i own prefix count (Some tree)) Taken new is h c =
      let e : prefix ≡ (node_at old.nodes i).prefix = h.1.1 in
      let piece = subst (λ p. IsPiece rule b p tree) e h.4 in
      let named = subst (λ (p : List ℕ). AreNamed rule b (after_graft b old w i p tree).nodes p tree) e (subst (λ (l : Ledger). AreNamed rule b l.nodes prefix tree) h.5 h.6) in
      let whole = after_graft-covers rule b budget old w i tree is h.0 (omega (arith, h.2, h.3)) piece named c in
      subst (Covers rule b budget) (sym h.5) (subst (λ p. Covers rule b budget (after_graft b old w i p tree)) (sym e) whole)
  moves-cover old (Offer w own order time) OtherBlock new is h c = subst (Covers rule b budget) (sym h.1) c
  moves-cover old (Offer w own order time) Lower new is h c =
      subst (Covers rule b budget) (sym h.2) (after_offer-covers rule b budget old order h.0.1 (omega (arith, h.0.2, h.1)) c)
  moves-cover old (Offer w own order time) (NotLower n) new is h c = subst (Covers rule b budget) (sym h.3) c
  moves-cover old (Back w i) NotOut new is h c = subst (Covers rule b budget) (sym h.1) c
  moves-cover old (Back w i) Returned new is h c =
      subst (Covers rule b budget) (sym h.1) (after_move-covers rule b budget old i Open h.0.0 (ap is_cut_state h.0.1) refl refl open_closed c)
  moves-cover old (Retire w) Retired new is h c = subst (Covers rule b budget) (sym h) (after_retire-covers rule b budget old w is c)
  moves-cover old event reply new is h c = absurd h

  pub step-covers : (old new : Ledger) (event : Event) (reply : Reply) → Covers rule b budget old → Step rule b old event reply new → Covers rule b budget new
  step-covers old new event reply c h = moves-cover old event reply new h.0 h.1 c

  run-covers : (history : List (Event × Reply)) (old new : Ledger) → Run rule b old history new → Covers rule b budget old → Covers rule b budget new
  run-covers [] old new h c = subst (Covers rule b budget) (sym h) c
  run-covers (entry ∷ entries) old new h c =
      run-covers entries h.0 new h.2 (step-covers old h.0 entry.0 entry.1 c h.1)

  -- whatever happens, every legal order is covered
  pub history-covers : (workers : ℕ) (history : List (Event × Reply)) (new : Ledger) → Run rule b (opening b budget workers) history new → Covers rule b budget new
  history-covers workers history new h =
      run-covers history (opening b budget workers) new h (opening-covers rule b budget workers)

-- THE BEST TIME NEVER RISES

module _ (rule : Rule) (b : Problem) where
  moves-fall : (old : Ledger) (event : Event) (reply : Reply) (new : Ledger) → Moves rule b old event reply new → best_time b new ≤ best_time b old
  moves-fall old (Grant w) (Granted n) new h = omega (arith, ap (best_time b) h.1)
  moves-fall old (Claim w) (Claimed (Some i)) new h = omega (arith, ap (best_time b) h.2)
  moves-fall old (Claim w) (Claimed None) new h = omega (arith, ap (best_time b) h.1)
  moves-fall old (Graft w i own prefix count None) NotOut new h = omega (arith, ap (best_time b) h.1)
  moves-fall old (Graft w i own prefix count None) OtherPrefix new h = omega (arith, ap (best_time b) h.2)
  moves-fall old (Graft w i own prefix count None) OverAllowance new h = omega (arith, ap (best_time b) h.3)
  moves-fall old (Graft w i own prefix count (Some tree)) Taken new h = omega (arith, ap (best_time b) h.5)
  moves-fall old (Offer w own order time) OtherBlock new h = omega (arith, ap (best_time b) h.1)
  moves-fall old (Offer w own order time) Lower new h = omega (arith, h.0.2, h.1, ap (best_time b) h.2)
  moves-fall old (Offer w own order time) (NotLower n) new h = omega (arith, ap (best_time b) h.3)
  moves-fall old (Back w i) NotOut new h = omega (arith, ap (best_time b) h.1)
  moves-fall old (Back w i) Returned new h = omega (arith, ap (best_time b) h.1)
  moves-fall old (Retire w) Retired new h = omega (arith, ap (best_time b) h)
  moves-fall old event reply new h = absurd h

  pub step-falls : (old new : Ledger) (event : Event) (reply : Reply) → Step rule b old event reply new → NeverRises b old new
  step-falls old new event reply h = moves-fall old event reply new h.1

  pub run-falls : (history : List (Event × Reply)) (old new : Ledger) → Run rule b old history new → NeverRises b old new
  run-falls [] old new h = omega (arith, ap (best_time b) h)
  run-falls (entry ∷ entries) old new h =
      omega (arith, step-falls old h.0 entry.0 entry.1 h.1, run-falls entries h.0 new h.2)
