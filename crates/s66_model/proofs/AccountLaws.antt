-- What an entry more makes of the workers' accounts, and that a seat goes on agreeing with its ledger.
use Rattle.std.proofs.Common.{ℕ, zero, suc, ◌+◌, ◌-◌, ◌≤◌, ◌<◌, ◌≡◌, ◌≢◌, Bool, true, false, cond, List, [], ◌∷◌, ◌++◌, length, map, get_or, refl, sym, ap, ap₂, arith, eqb, ◌∙◌, Some, None}
use Rattle.std.proofs.Common.{length-append, not, eq-eqb, ne_eqb, append-nil}
use Rattle.std.proofs.lemmas.List.{length-map, get_or-map}
use Rattle.std.proofs.lemmas.List.Elements.{filter-append}
use Rattle.std.proofs.lemmas.List.Filters.{length-filter_both}
use Rattle.s66_isa.specs.{weigh, rising}
use Rattle.s66_isa.proofs.Lists.{weigh-append}
use Rattle.s66_model.specs.{Rule, Problem, Ledger, Event, Grant, Claim, Graft, Offer, Back, Retire, Reply, Granted, Claimed, Taken, NotOut, OtherPrefix, OverAllowance, Lower, NotLower, OtherBlock}
use Rattle.s66_model.specs.{Returned, Retired, worker, opening, best_time, Moves, Step, Run, spends, spent_by, brief, entries_of, last_brief, Account, account_of, counted, no_account, Summary}
use Rattle.s66_model.specs.{summary_of, account_at, SeatRecord, Agrees, opened, least_after, after_event, after_reading}
use Rattle.s66_model.proofs.Beginnings.{length-rising}
use Rattle.s66_model.proofs.Histories.{history-spent}
use Rattle.s66_model.proofs.LedgerRuns.{step-falls}

-- ONE ENTRY MORE

last-of-more : (es : List (Event × Reply)) (e : Event × Reply) → last_brief (es ++ e ∷ []) ≡ Some (brief e.0, e.1)
last-of-more [] e = refl
last-of-more (x ∷ []) e = refl
last-of-more (x ∷ (y ∷ es)) e = last-of-more (y ∷ es) e

module _ (h : List (Event × Reply)) (event : Event) (reply : Reply) (w : ℕ) where
  abbrev more : List (Event × Reply)
  more = h ++ (event, reply) ∷ []

  entries-more : (own : Bool) → eqb (worker event) w ≡ own → entries_of w more ≡ entries_of w h ++ cond own ((event, reply) ∷ []) []
  entries-more own is =
      filter-append (λ (e : Event × Reply). eqb (worker e.0) w) h ((event, reply) ∷ [])
      ∙ ap (λ (t : Bool). entries_of w h ++ cond t ((event, reply) ∷ []) []) is

  spent-more : (own : Bool) → eqb (worker event) w ≡ own → spent_by w more ≡ spent_by w h + cond own (spends event reply) 0
  spent-more own is =
      omega (
        arith,
        weigh-append (λ (e : Event × Reply). cond (eqb (worker e.0) w) (spends e.0 e.1) 0) h ((event, reply) ∷ []),
        ap (λ (t : Bool). cond t (spends event reply) 0) is,
      )

  pub account-own : worker event ≡ w → account_of more w ≡ counted (account_of h w) event reply
  account-own is =
      let own = eq-eqb (worker event) w is in
      let entries = entries-more true own in
      let splits : spent_by w more ≡ spent_by w h + spends event reply = spent-more true own in
      let count : length (entries_of w more) ≡ length (entries_of w h) + 1 = omega (arith, ap (λ (es : List (Event × Reply)). length es) entries, length-append (entries_of w h) ((event, reply) ∷ [])) in
      ap₂ (λ (n s : ℕ). record { events = n; last = last_brief (entries_of w more); splits = s }) count splits
      ∙ ap (λ last. record { events = length (entries_of w h) + 1; last = last; splits = spent_by w h + spends event reply }) (ap last_brief entries ∙ last-of-more (entries_of w h) (event, reply))

  pub account-other : worker event ≢ w → account_of more w ≡ account_of h w
  account-other isnt =
      let other = ne_eqb (worker event) w isnt in
      let entries : entries_of w more ≡ entries_of w h = entries-more false other ∙ append-nil (entries_of w h) in
      let splits : spent_by w more ≡ spent_by w h = omega (arith, spent-more false other) in
      ap₂ (λ (es : List (Event × Reply)) (s : ℕ). record { events = length es; last = last_brief es; splits = s }) entries splits

-- a worker has no more entries than there are
pub events-few : (h : List (Event × Reply)) (w : ℕ) → (account_of h w).events ≤ length h
events-few h w =
    omega (arith, length-filter_both (λ (e : Event × Reply). eqb (worker e.0) w) (λ e. not (eqb (worker e.0) w)) (λ e. refl) h)

-- ALL ACCOUNTS

weigh-map : {X Y : Type 0} (g : X → Y) (f : Y → ℕ) (xs : List X) → weigh f (map g xs) ≡ weigh (λ x. f (g x)) xs
weigh-map g f [] = refl
weigh-map g f (x ∷ xs) = ap (λ (n : ℕ). f (g x) + n) (weigh-map g f xs)

-- their splits add up to what is spent
pub accounts-spent : (rule : Rule) (b : Problem) (budget workers : ℕ) (h : List (Event × Reply)) (l : Ledger) → Run rule b (opening b budget workers) h l → weigh (λ a. a.splits) (summary_of rule b budget workers h l).accounts ≡ l.spent
accounts-spent rule b budget workers h l r =
    weigh-map (account_of h) (λ (a : Account). a.splits) (rising workers 1) ∙ history-spent rule b budget workers h l r

rising-at : (k low i d : ℕ) → i < k → get_or (rising k low) i d ≡ low + i
rising-at zero low i d lt = absurd (omega (arith, lt))
rising-at (suc k) low zero d lt = omega arith
rising-at (suc k) low (suc i) d lt = omega (arith, rising-at k (suc low) i d (omega (arith, lt)))

module _ (rule : Rule) (b : Problem) (budget workers : ℕ) (h : List (Event × Reply)) (l : Ledger) where
  abbrev summary : Summary
  summary = summary_of rule b budget workers h l

  pub accounts-count : length summary.accounts ≡ workers
  accounts-count = length-map (rising workers 1) (account_of h) ∙ length-rising workers 1

  pub account-at : (w : ℕ) → 1 ≤ w → w ≤ workers → account_at summary w ≡ account_of h w
  account-at w low high =
      let lt : w - 1 < workers = omega (arith, low, high) in
      get_or-map (account_of h) (rising workers 1) (w - 1) 0 no_account (omega (arith, lt, length-rising workers 1))
      ∙ ap (account_of h) (omega (arith, rising-at workers 1 (w - 1) 0 lt, low))

  pub opened-agrees : (w : ℕ) → 1 ≤ w → w ≤ workers → Agrees summary (opened summary w)
  opened-agrees w low high =
      record {
        worker = (low, omega (arith, high, accounts-count));
        rule = refl;
        problem = refl;
        budget = refl;
        account = refl;
        least = omega arith;
      }

-- AN EVENT

-- the best time after an event isn't above the least that the worker then knows
best-known : (rule : Rule) (b : Problem) (old : Ledger) (event : Event) (reply : Reply) (new : Ledger) (least : ℕ) → Moves rule b old event reply new → best_time b old ≤ least → best_time b new ≤ least_after least event reply
best-known rule b old (Grant w) (Granted n) new least h le = omega (arith, ap (best_time b) h.1, le)
best-known rule b old (Claim w) (Claimed (Some i)) new least h le = omega (arith, ap (best_time b) h.2, le)
best-known rule b old (Claim w) (Claimed None) new least h le = omega (arith, ap (best_time b) h.1, le)
best-known rule b old (Graft w i own prefix count None) NotOut new least h le = omega (arith, ap (best_time b) h.1, le)
best-known rule b old (Graft w i own prefix count None) OtherPrefix new least h le = omega (arith, ap (best_time b) h.2, le)
best-known rule b old (Graft w i own prefix count None) OverAllowance new least h le = omega (arith, ap (best_time b) h.3, le)
best-known rule b old (Graft w i own prefix count (Some tree)) Taken new least h le = omega (arith, ap (best_time b) h.5, le)
best-known rule b old (Offer w own order time) OtherBlock new least h le = omega (arith, ap (best_time b) h.1, le)
best-known rule b old (Offer w own order time) Lower new least h le =
    omega (arith, ap (best_time b) h.2, h.0.2, h.1, le)
best-known rule b old (Offer w own order time) (NotLower n) new least h le =
    omega (arith, ap (best_time b) h.3, h.1, h.2, le)
best-known rule b old (Back w i) NotOut new least h le = omega (arith, ap (best_time b) h.1, le)
best-known rule b old (Back w i) Returned new least h le = omega (arith, ap (best_time b) h.1, le)
best-known rule b old (Retire w) Retired new least h le = omega (arith, ap (best_time b) h, le)
best-known rule b old event reply new least h le = absurd h

module _ (rule : Rule) (b : Problem) (budget workers : ℕ) (h : List (Event × Reply)) (old : Ledger) (event : Event) (reply : Reply) (new : Ledger) (p : SeatRecord) where
  abbrev before : Summary
  before = summary_of rule b budget workers h old

  abbrev after : Summary
  after = summary_of rule b budget workers (h ++ (event, reply) ∷ []) new

  -- its own event
  pub agrees-own : Step rule b old event reply new → Agrees before p → worker event ≡ p.who → Agrees after (after_event p event reply)
  agrees-own step is own =
      let high : p.who ≤ workers = omega (arith, is.worker.1, accounts-count rule b budget workers h old) in
      record {
        worker = (is.worker.0, omega (arith, high, accounts-count rule b budget workers (h ++ (event, reply) ∷ []) new));
        rule = is.rule;
        problem = is.problem;
        budget = is.budget;
        account =
            ap (λ a. counted a event reply) (is.account ∙ account-at rule b budget workers h old p.who is.worker.0 high)
            ∙ (sym (account-own h event reply p.who own) ∙ sym (account-at rule b budget workers (h ++ (event, reply) ∷ []) new p.who is.worker.0 high));
        least = best-known rule b old event reply new p.least step.1 is.least;
      }

  -- another worker's
  pub agrees-other : Step rule b old event reply new → Agrees before p → worker event ≢ p.who → Agrees after p
  agrees-other step is other =
      let high : p.who ≤ workers = omega (arith, is.worker.1, accounts-count rule b budget workers h old) in
      record {
        worker = (is.worker.0, omega (arith, high, accounts-count rule b budget workers (h ++ (event, reply) ∷ []) new));
        rule = is.rule;
        problem = is.problem;
        budget = is.budget;
        account =
            is.account
            ∙ (account-at rule b budget workers h old p.who is.worker.0 high
            ∙ (sym (account-other h event reply p.who other) ∙ sym (account-at rule b budget workers (h ++ (event, reply) ∷ []) new p.who is.worker.0 high)));
        least = omega (arith, is.least, step-falls rule b old new event reply step);
      }

-- a reading of the best time
pub agrees-read : (s : Summary) (p : SeatRecord) → Agrees s p → Agrees s (after_reading p s.best)
agrees-read s p is =
    record {
      worker = is.worker;
      rule = is.rule;
      problem = is.problem;
      budget = is.budget;
      account = is.account;
      least = omega (arith, is.least);
    }
