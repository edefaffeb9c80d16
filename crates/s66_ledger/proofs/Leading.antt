-- Events lead from one ledger to another, and on; what holds at each place of a list.
use Rattle.std.proofs.Common.{ℕ, zero, suc, ◌≡◌, ◌≤◌, ◌<◌, List, [], ◌∷◌, ◌++◌, length, get_or, set, refl, sym, ap, arith, inl, inr, subst, ◌∙◌}
use Rattle.s66_isa.specs.{Among}
use Rattle.s66_model.specs.{Problem, best_time, Event, Reply, Run}
use Rattle.s66_model.proofs.Histories.{run-join}
use Rattle.s66_model.proofs.LedgerRuns.{run-falls}
use Rattle.s66_ledger.specs.{Leads, LedgerOf, IsEvent}

pub leads-nowhere : (l : LedgerOf) → Leads l l
leads-nowhere l = (refl, refl, refl, ([], refl), refl)

pub leads-still : (old new : LedgerOf) → new ≡ old → Leads old new
leads-still old new same = subst (Leads old) (sym same) (leads-nowhere old)

pub event-leads : (old new : LedgerOf) (event : Event) (reply : Reply) → IsEvent old event reply new → Leads old new
event-leads old new event reply h = (h.0, h.1, h.2, ((event, reply) ∷ [], (new.state, h.3, refl)), h.5)

pub leads-on : (old mid new : LedgerOf) → Leads old mid → Leads mid new → Leads old new
leads-on old mid new (p, q, r, (h, go), by) (p2, q2, r2, (k, on), by2) =
    let on_old : Run old.rule old.problem mid.state k new.state = subst (λ (b : Problem). Run old.rule b mid.state k new.state) p (subst (λ x. Run x mid.problem mid.state k new.state) by on) in
    (p2 ∙ p, q2 ∙ q, r2 ∙ r, (h ++ k, run-join old.rule old.problem h k old.state mid.state new.state go on_old), by2 ∙ by)

pub leads-fall : (old new : LedgerOf) → Leads old new → best_time new.problem new.state ≤ best_time new.problem old.state
leads-fall old new (p, q, r, (h, go), by) = run-falls old.rule new.problem h old.state new.state (subst (λ (b : Problem). Run old.rule b old.state h new.state) (sym p) go)

pub leads-best : (old new : LedgerOf) → Leads old new → best_time new.problem new.state ≤ best_time old.problem old.state
leads-best old new leads = omega (arith, leads-fall old new leads, ap (λ (b : Problem). best_time b old.state) leads.0)

-- LISTS

-- what holds at each place holds of each that is in the list
pub each-among : {X : Type 0} (P : X → Type 0) (d : X) (xs : List X) → ((i : ℕ) → i < length xs → P (get_or xs i d)) → (x : X) → Among x xs → P x
each-among P d [] h x is = absurd is
each-among P d (y ∷ ys) h x (inl e) = subst P (sym e) (h 0 (omega arith))
each-among P d (y ∷ ys) h x (inr later) = each-among P d ys (λ i lt. h (suc i) (omega (arith, lt))) x later

-- what holds of each still holds if one takes another's place of which it holds
pub each-set : {X : Type 0} (P : X → Type 0) (xs : List X) (i : ℕ) (y : X) → P y → ((x : X) → Among x xs → P x) → (x : X) → Among x (set xs i y) → P x
each-set P [] i y here h x among = absurd among
each-set P (z ∷ xs) zero y here h x (inl e) = subst P (sym e) here
each-set P (z ∷ xs) zero y here h x (inr later) = h x (inr later)
each-set P (z ∷ xs) (suc i) y here h x (inl e) = h x (inl e)
each-set P (z ∷ xs) (suc i) y here h x (inr later) = each-set P xs i y here (λ w among. h w (inr among)) x later
