-- To be believed: what a history holds of each worker, what the rule of a ledger's lock reads of the ledger, and what a worker's seat keeps of it.
use Rattle.std.specs.Prelude.{ℕ, ◌+◌, ◌-◌, ◌≡◌, ◌≤◌, ◌==◌, List, [], ◌∷◌, length, map, filter, get_or, min, Option, Some, None}
use Rattle.s66_isa.specs.{rising}
use Rattle.s66_model.specs.declared.rule.Rule.{Rule}
use Rattle.s66_model.specs.Timing.{Problem}
use Rattle.s66_model.specs.LedgerRuns.{Ledger, Event, Grant, Claim, Graft, Offer, Back, Retire, Reply, Lower, NotLower, worker, best_time}
use Rattle.s66_model.specs.Recorded.{spends, spent_by}

-- AN EVENT IN BRIEF: its kind, with its node, splits or time

pub data Brief : Type 0 where
  Grants : Brief
  Claims : Brief
  Grafts : (node splits : ℕ) → Brief
  Offers : (time : ℕ) → Brief
  GivesBack : (node : ℕ) → Brief
  Retires : Brief

abbrev pub brief : Event → Brief
brief (Grant w) = Grants
brief (Claim w) = Claims
brief (Graft w node own prefix splits tree) = Grafts node splits
brief (Offer w own order time) = Offers time
brief (Back w node) = GivesBack node
brief (Retire w) = Retires

-- A WORKER'S ACCOUNT

abbrev pub entries_of : ℕ → List (Event × Reply) → List (Event × Reply)
entries_of w history = filter (λ entry. worker entry.0 == w) history

abbrev pub last_brief : List (Event × Reply) → Option (Brief × Reply)
last_brief [] = None
last_brief (entry ∷ []) = Some (brief entry.0, entry.1)
last_brief (entry ∷ (next ∷ entries)) = last_brief (next ∷ entries)

-- how many entries are the worker's, the last of them, and the splits that they spend
pub record Account : Type 0 where
  pub events : ℕ
  pub last : Option (Brief × Reply)
  pub splits : ℕ

abbrev pub account_of : List (Event × Reply) → ℕ → Account
account_of history w =
    record {
      events = length (entries_of w history);
      last = last_brief (entries_of w history);
      splits = spent_by w history;
    }

-- with one entry more
abbrev pub counted : Account → Event → Reply → Account
counted account event reply =
    record {
      events = account.events + 1;
      last = Some (brief event, reply);
      splits = account.splits + spends event reply;
    }

abbrev pub no_account : Account
no_account = record { events = 0; last = None; splits = 0 }

-- THE SUMMARY OF A LEDGER

pub record Summary : Type 0 where
  -- of dominated leaves
  pub rule : Rule
  pub problem : Problem
  pub budget : ℕ
  -- the best time
  pub best : ℕ
  -- of the workers, who count from 1
  pub accounts : List Account

-- all that the rule of a ledger's lock reads of the ledger
abbrev pub summary_of : Rule → Problem → (budget workers : ℕ) → List (Event × Reply) → Ledger → Summary
summary_of rule b budget workers history l =
    record {
      rule = rule;
      problem = b;
      budget = budget;
      best = best_time b l;
      accounts = map (account_of history) (rising workers 1);
    }

abbrev pub account_at : Summary → ℕ → Account
account_at s w = get_or s.accounts (w - 1) no_account

-- WHAT A SEAT KEEPS

-- of worker who: the ledger's rule, block, profile and budget, the worker's account, and the least time that the seat opened with, read, offered or was answered
pub record SeatRecord : Type 0 where
  pub who : ℕ
  pub rule : Rule
  pub problem : Problem
  pub budget : ℕ
  pub account : Account
  pub least : ℕ

-- it says what the ledger says, whose best time isn't above its least
pub record Agrees (s : Summary) (p : SeatRecord) : Type 0 where
  pub worker : (1 ≤ p.who) × (p.who ≤ length s.accounts)
  pub rule : p.rule ≡ s.rule
  pub problem : p.problem ≡ s.problem
  pub budget : p.budget ≡ s.budget
  pub account : p.account ≡ account_at s p.who
  pub least : s.best ≤ p.least

-- as it opens
abbrev pub opened : Summary → ℕ → SeatRecord
opened s w =
    record {
      who = w;
      rule = s.rule;
      problem = s.problem;
      budget = s.budget;
      account = account_at s w;
      least = s.best;
    }

-- an order of another block or profile gives no time
abbrev pub least_after : ℕ → Event → Reply → ℕ
least_after least (Offer w own order time) Lower = min least time
least_after least (Offer w own order time) (NotLower answer) = min least (min time answer)
least_after least event reply = least

-- after an event of its worker; an offer of another block shows no time
abbrev pub after_event : SeatRecord → Event → Reply → SeatRecord
after_event p event reply = record p { account = counted p.account event reply; least = least_after p.least event reply }

-- after the best time was read
abbrev pub after_reading : SeatRecord → ℕ → SeatRecord
after_reading p best = record p { least = min p.least best }
