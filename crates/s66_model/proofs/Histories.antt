-- Histories of the ledger: their fronts, the one state to which each leads, what they spend, and what holds of a state that is reached.
use Rattle.std.proofs.Common.{ℕ, zero, suc, ◌+◌, ◌≤◌, ◌<◌, ◌≡◌, cond, ◌-◌, List, [], ◌∷◌, ◌++◌, length, refl, sym, ap, arith, inl, inr, eqb, subst, ◌∙◌, Some, None, eq-eqb, ne_eqb, length-set}
use Rattle.std.proofs.lemmas.Bool.{cases_eq, cond-true, cond-false}
use Rattle.std.proofs.lemmas.List.{length-replicate}
use Rattle.s66_isa.specs.{weigh, rising}
use Rattle.s66_model.specs.{Rule, Problem, splits, Ledger, Event, Grant, Claim, Graft, Offer, Back, Retire, Reply, Granted, Claimed, Taken, NotOut, OtherPrefix, OverAllowance, Lower, NotLower}
use Rattle.s66_model.specs.{OtherBlock, Returned, Retired, worker, opening, allowance, share_of, best_time, Moves, Step, Run, source_time, Covers, NeverRises, IsTable, IsReached, spends, spent_by}
use Rattle.s66_model.proofs.LedgerRuns.{history-covers, run-falls}
use Rattle.s66_model.proofs.OneTree.{history-table}

pub run-front : (rule : Rule) (b : Problem) (h k : List (Event × Reply)) (old new : Ledger) → Run rule b old (h ++ k) new → (mid : Ledger) × Run rule b old h mid × Run rule b mid k new
run-front rule b [] k old new r = (old, refl, r)
run-front rule b (e ∷ h) k old new r =
    let (mid, goes, rest) = run-front rule b h k r.0 new r.2 in
    (mid, (r.0, r.1, goes), rest)

pub run-join : (rule : Rule) (b : Problem) (h k : List (Event × Reply)) (old mid new : Ledger) → Run rule b old h mid → Run rule b mid k new → Run rule b old (h ++ k) new
run-join rule b [] k old mid new r s = subst (λ l. Run rule b l k new) r s
run-join rule b (e ∷ h) k old mid new r s = (r.0, r.1, run-join rule b h k r.0 mid new r.2 s)

-- ONE STATE

moves-same : (rule : Rule) (b : Problem) (old : Ledger) (event : Event) (reply : Reply) (x y : Ledger) → Moves rule b old event reply x → Moves rule b old event reply y → x ≡ y
moves-same rule b old (Grant w) (Granted n) x y h k = h.1 ∙ sym k.1
moves-same rule b old (Claim w) (Claimed (Some i)) x y h k = h.2 ∙ sym k.2
moves-same rule b old (Claim w) (Claimed None) x y h k = h.1 ∙ sym k.1
moves-same rule b old (Graft w i own prefix count None) NotOut x y h k = h.1 ∙ sym k.1
moves-same rule b old (Graft w i own prefix count None) OtherPrefix x y h k = h.2 ∙ sym k.2
moves-same rule b old (Graft w i own prefix count None) OverAllowance x y h k = h.3 ∙ sym k.3
moves-same rule b old (Graft w i own prefix count (Some tree)) Taken x y h k = h.5 ∙ sym k.5
moves-same rule b old (Offer w own order time) OtherBlock x y h k = h.1 ∙ sym k.1
moves-same rule b old (Offer w own order time) Lower x y h k = h.2 ∙ sym k.2
moves-same rule b old (Offer w own order time) (NotLower n) x y h k = h.3 ∙ sym k.3
moves-same rule b old (Back w i) NotOut x y h k = h.1 ∙ sym k.1
moves-same rule b old (Back w i) Returned x y h k = h.1 ∙ sym k.1
moves-same rule b old (Retire w) Retired x y h k = h ∙ sym k
moves-same rule b old event reply x y h k = absurd h

pub run-same : (rule : Rule) (b : Problem) (h : List (Event × Reply)) (old x y : Ledger) → Run rule b old h x → Run rule b old h y → x ≡ y
run-same rule b [] old x y r s = r ∙ sym s
run-same rule b (e ∷ h) old x y r s =
    let one : r.0 ≡ s.0 = moves-same rule b old e.0 e.1 r.0 s.0 r.1.1 s.1.1 in
    run-same rule b h s.0 x y (subst (λ l. Run rule b l h x) one r.2) s.2

-- WHAT IS SPENT

moves-spent : (rule : Rule) (b : Problem) (old : Ledger) (event : Event) (reply : Reply) (new : Ledger) → Moves rule b old event reply new → new.spent ≡ old.spent + spends event reply
moves-spent rule b old (Grant w) (Granted n) new h = omega (arith, ap (λ (l : Ledger). l.spent) h.1)
moves-spent rule b old (Claim w) (Claimed (Some i)) new h = omega (arith, ap (λ (l : Ledger). l.spent) h.2)
moves-spent rule b old (Claim w) (Claimed None) new h = omega (arith, ap (λ (l : Ledger). l.spent) h.1)
moves-spent rule b old (Graft w i own prefix count None) NotOut new h = omega (arith, ap (λ (l : Ledger). l.spent) h.1)
moves-spent rule b old (Graft w i own prefix count None) OtherPrefix new h = omega (arith, ap (λ (l : Ledger). l.spent) h.2)
moves-spent rule b old (Graft w i own prefix count None) OverAllowance new h = omega (arith, ap (λ (l : Ledger). l.spent) h.3)
moves-spent rule b old (Graft w i own prefix count (Some tree)) Taken new h = omega (arith, ap (λ (l : Ledger). l.spent) h.5, h.3)
moves-spent rule b old (Offer w own order time) OtherBlock new h = omega (arith, ap (λ (l : Ledger). l.spent) h.1)
moves-spent rule b old (Offer w own order time) Lower new h = omega (arith, ap (λ (l : Ledger). l.spent) h.2)
moves-spent rule b old (Offer w own order time) (NotLower n) new h = omega (arith, ap (λ (l : Ledger). l.spent) h.3)
moves-spent rule b old (Back w i) NotOut new h = omega (arith, ap (λ (l : Ledger). l.spent) h.1)
moves-spent rule b old (Back w i) Returned new h = omega (arith, ap (λ (l : Ledger). l.spent) h.1)
moves-spent rule b old (Retire w) Retired new h = omega (arith, ap (λ (l : Ledger). l.spent) h)
moves-spent rule b old event reply new h = absurd h

run-spent : (rule : Rule) (b : Problem) (h : List (Event × Reply)) (old new : Ledger) → Run rule b old h new → new.spent ≡ old.spent + weigh (λ e. spends e.0 e.1) h
run-spent rule b [] old new r = omega (arith, ap (λ (l : Ledger). l.spent) r)
run-spent rule b (e ∷ h) old new r = omega (arith, moves-spent rule b old e.0 e.1 r.0 r.1.1, run-spent rule b h r.0 new r.2)

-- AND BY WHOM

abbrev by : ℕ → Event × Reply → ℕ
by w e = cond (eqb (worker e.0) w) (spends e.0 e.1) 0

-- of these numbers one at most is v
one-of : (v x k low : ℕ) → v < low → weigh (λ w. cond (eqb v w) x 0) (rising k low) ≡ 0
one-of v x zero low h = refl
one-of v x (suc k) low h =
    omega (arith, cond-false {A = ℕ} (eqb v low) x 0 (ne_eqb v low (λ e. absurd (omega (arith, h, e)))), one-of v x k (suc low) (omega (arith, h)))

the-one : (v x k low : ℕ) → low ≤ v → v < low + k → weigh (λ w. cond (eqb v w) x 0) (rising k low) ≡ x
the-one v x zero low h1 h2 = absurd (omega (arith, h1, h2))
the-one v x (suc k) low h1 h2 =
    elim (cases_eq v low) [
      | inl e ↦ omega (arith, cond-true {A = ℕ} (eqb v low) x 0 (eq-eqb v low e), one-of v x k (suc low) (omega (arith, e)))
      | inr ne ↦ omega (arith, cond-false {A = ℕ} (eqb v low) x 0 (ne_eqb v low ne), the-one v x k (suc low) (omega (arith, h1, ne)) (omega (arith, h2)))
    ]

weigh-plus : (f g : ℕ → ℕ) (ws : List ℕ) → weigh (λ w. f w + g w) ws ≡ weigh f ws + weigh g ws
weigh-plus f g [] = refl
weigh-plus f g (w ∷ ws) = omega (arith, weigh-plus f g ws)

weigh-nothing : (ws : List ℕ) → weigh (λ w. 0) ws ≡ 0
weigh-nothing [] = refl
weigh-nothing (w ∷ ws) = omega (arith, weigh-nothing ws)

abbrev AreWorkers : ℕ → List (Event × Reply) → Type 0
AreWorkers workers [] = Unit {0}
AreWorkers workers (e ∷ h) = (1 ≤ worker e.0) × (worker e.0 ≤ workers) × AreWorkers workers h

all-splits : (workers : ℕ) (h : List (Event × Reply)) → AreWorkers workers h → weigh (λ w. weigh (by w) h) (rising workers 1) ≡ weigh (λ e. spends e.0 e.1) h
all-splits workers [] is = weigh-nothing (rising workers 1)
all-splits workers (e ∷ h) is =
    omega (
      arith,
      weigh-plus (λ w. by w e) (λ w. weigh (by w) h) (rising workers 1),
      the-one (worker e.0) (spends e.0 e.1) workers 1 is.0 (omega (arith, is.1)),
      all-splits workers h is.2,
    )

-- THE WORKERS STAY

moves-workers : (rule : Rule) (b : Problem) (old : Ledger) (event : Event) (reply : Reply) (new : Ledger) → Moves rule b old event reply new → length new.allowances ≡ length old.allowances
moves-workers rule b old (Grant w) (Granted n) new h = ap (λ (l : Ledger). length l.allowances) h.1 ∙ length-set old.allowances (w - 1) (allowance old w + share_of old)
moves-workers rule b old (Claim w) (Claimed (Some i)) new h = ap (λ (l : Ledger). length l.allowances) h.2
moves-workers rule b old (Claim w) (Claimed None) new h = ap (λ (l : Ledger). length l.allowances) h.1
moves-workers rule b old (Graft w i own prefix count None) NotOut new h = ap (λ (l : Ledger). length l.allowances) h.1
moves-workers rule b old (Graft w i own prefix count None) OtherPrefix new h = ap (λ (l : Ledger). length l.allowances) h.2
moves-workers rule b old (Graft w i own prefix count None) OverAllowance new h = ap (λ (l : Ledger). length l.allowances) h.3
moves-workers rule b old (Graft w i own prefix count (Some tree)) Taken new h = ap (λ (l : Ledger). length l.allowances) h.5 ∙ length-set old.allowances (w - 1) (allowance old w - splits tree)
moves-workers rule b old (Offer w own order time) OtherBlock new h = ap (λ (l : Ledger). length l.allowances) h.1
moves-workers rule b old (Offer w own order time) Lower new h = ap (λ (l : Ledger). length l.allowances) h.2
moves-workers rule b old (Offer w own order time) (NotLower n) new h = ap (λ (l : Ledger). length l.allowances) h.3
moves-workers rule b old (Back w i) NotOut new h = ap (λ (l : Ledger). length l.allowances) h.1
moves-workers rule b old (Back w i) Returned new h = ap (λ (l : Ledger). length l.allowances) h.1
moves-workers rule b old (Retire w) Retired new h = ap (λ (l : Ledger). length l.allowances) h ∙ length-set old.allowances (w - 1) 0
moves-workers rule b old event reply new h = absurd h

run-workers : (rule : Rule) (b : Problem) (workers : ℕ) (h : List (Event × Reply)) (old new : Ledger) → length old.allowances ≡ workers → Run rule b old h new → AreWorkers workers h
run-workers rule b workers [] old new e r = tt
run-workers rule b workers (x ∷ h) old new e r =
    (r.1.0.0, omega (arith, r.1.0.1, e), run-workers rule b workers h r.0 new (moves-workers rule b old x.0 x.1 r.0 r.1.1 ∙ e) r.2)

-- what the workers' entries spend is what was spent
pub history-spent : (rule : Rule) (b : Problem) (budget workers : ℕ) (h : List (Event × Reply)) (l : Ledger) → Run rule b (opening b budget workers) h l → weigh (λ w. spent_by w h) (rising workers 1) ≡ l.spent
history-spent rule b budget workers h l r =
    let are : AreWorkers workers h = run-workers rule b workers h (opening b budget workers) l (length-replicate workers 0) r in
    omega (arith, run-spent rule b h (opening b budget workers) l r, all-splits workers h are)

-- WHAT IS REACHED

pub run-next : (rule : Rule) (b : Problem) (h : List (Event × Reply)) (first old new : Ledger) (event : Event) (reply : Reply) → Run rule b first h old → Step rule b old event reply new → Run rule b first (h ++ (event, reply) ∷ []) new
run-next rule b h first old new event reply r s = run-join rule b h ((event, reply) ∷ []) first old new r (new, s, refl)

pub run-each : (rule : Rule) (b : Problem) (budget workers : ℕ) (h k : List (Event × Reply)) (new : Ledger) → Run rule b (opening b budget workers) (h ++ k) new → (mid : Ledger) × Run rule b (opening b budget workers) h mid × Covers rule b budget mid × NeverRises b mid new
run-each rule b budget workers h k new r =
    let (mid, goes, rest) = run-front rule b h k (opening b budget workers) new r in
    (mid, goes, history-covers rule b budget workers h mid goes, run-falls rule b k mid new rest)

pub reached-step : (rule : Rule) (b : Problem) (budget workers : ℕ) (old new : Ledger) (event : Event) (reply : Reply) → IsReached rule b budget workers old → Step rule b old event reply new → IsReached rule b budget workers new
reached-step rule b budget workers old new event reply (h, r) s = (h ++ (event, reply) ∷ [], run-next rule b h (opening b budget workers) old new event reply r s)

pub reached-covers : (rule : Rule) (b : Problem) (budget workers : ℕ) (l : Ledger) → IsReached rule b budget workers l → Covers rule b budget l
reached-covers rule b budget workers l (h, r) = history-covers rule b budget workers h l r

pub reached-table : (rule : Rule) (b : Problem) (budget workers : ℕ) (l : Ledger) → IsReached rule b budget workers l → IsTable b l
reached-table rule b budget workers l (h, r) = history-table rule b budget workers h l r

pub reached-source : (rule : Rule) (b : Problem) (budget workers : ℕ) (l : Ledger) → IsReached rule b budget workers l → best_time b l ≤ source_time b
reached-source rule b budget workers l (h, r) = run-falls rule b h (opening b budget workers) l r
