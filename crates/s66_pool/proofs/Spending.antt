-- What the entries of a worker in a history spend, summed one after the other (`splits_by`).
use Rattle.std.proofs.Common.{◌≡◌, ℕ, suc, ◌+◌, ◌<◌, ◌≤◌, cond, eqb, List, [], ◌∷◌, length, map, take, drop, get_or, refl, ap, arith, ◌∙◌, drop-cons}
use Rattle.s66_isa.specs.{weigh}
use Rattle.s66_model.specs.{Problem, worker, spends, spent_by, Account, account_at, Vertex, Terminal}
use Rattle.s66_model.proofs.AccountLaws.{account-at, accounts-count}
use Rattle.s66_ledger.specs.{EventRecord, byte_count, line_count, entry_of, entries_of, LedgerOf, events_of, account_summary}
use Rattle.s66_ledger.specs.declared.event_record.EventRecord.TheVariants as entry
use Rattle.s66_ledger.specs.declared.event_record.Refusal.TheVariants as refusal
use Rattle.s66_pool.proofs.AfterCalls.{account-within}

abbrev pub spent_in : Problem → ℕ → List EventRecord → ℕ
spent_in b w entries = spent_by w (map (λ e. entry_of b e [] []) entries)

pub next-spent : (b : Problem) (w : ℕ) (entries : List EventRecord) (i : ℕ) (d : EventRecord) (n : ℕ) → i < length entries
    → (let stated = entry_of b (get_or entries i d) [] [] in n ≡ cond (eqb (worker stated.0) w) (spends stated.0 stated.1) 0)
    → n + spent_in b w (drop (i + 1) entries) ≡ spent_in b w (drop i entries)
next-spent b w entries i d n lt spent =
    let cut = ap (spent_in b w) (drop-cons entries i d lt) in
    let rest : spent_in b w (drop (i + 1) entries) ≡ spent_in b w (drop (suc i) entries) = (let e : i + 1 ≡ suc i = omega arith in ap (λ (k : ℕ). spent_in b w (drop k entries)) e) in
    omega (arith, cut, rest, spent)

-- what an entry spends doesn't depend on its bytes
bytes-aside : (b : Problem) (w : ℕ) (e : EventRecord) (bytes : List ℕ) (lines : List (Vertex Terminal)) → cond (eqb (worker (entry_of b e bytes lines).0) w) (spends (entry_of b e bytes lines).0 (entry_of b e bytes lines).1) 0 ≡ cond (eqb (worker (entry_of b e [] []).0) w) (spends (entry_of b e [] []).0 (entry_of b e [] []).1) 0
bytes-aside b w (entry.Grant _ _) _ _ = refl
bytes-aside b w (entry.Claim _ _) _ _ = refl
bytes-aside b w (entry.Taken _ _ _ _ _ _) _ _ = refl
bytes-aside b w (entry.Refused _ _ _ _ _ refusal.NotOut) _ _ = refl
bytes-aside b w (entry.Refused _ _ _ _ _ refusal.OtherPrefix) _ _ = refl
bytes-aside b w (entry.Refused _ _ _ _ _ refusal.OverAllowance) _ _ = refl
bytes-aside b w (entry.Offer _ _ _ _ _) _ _ = refl
bytes-aside b w (entry.Back _ _ _) _ _ = refl
bytes-aside b w (entry.Retire _) _ _ = refl

entries-spent : (b : Problem) (w : ℕ) (entries : List EventRecord) (bytes : List ℕ) (lines : List (Vertex Terminal)) → spent_by w (entries_of b entries bytes lines) ≡ spent_in b w entries
entries-spent b w [] bytes lines = refl
entries-spent b w (e ∷ es) bytes lines =
    omega (arith, bytes-aside b w e (take (byte_count e) bytes) (take (line_count e) lines), entries-spent b w es (drop (byte_count e) bytes) (drop (line_count e) lines))

pub account-spent : (l : LedgerOf) (w : ℕ) → 1 ≤ w → w ≤ l.workers → (account_at (account_summary l) w).splits ≡ spent_in l.problem w l.entries
account-spent l w low high =
    ap (λ (a : Account). a.splits) (account-at l.rule l.problem l.budget l.workers (events_of l) l.state w low high)
    ∙ entries-spent l.problem w l.entries l.bytes (drop 1 l.lines)

-- no more than all
pub spent-within : (l : LedgerOf) (w : ℕ) → 1 ≤ w → w ≤ l.workers → spent_in l.problem w l.entries ≤ weigh (λ a. a.splits) (account_summary l).accounts
spent-within l w low high =
    omega (arith, account-spent l w low high, account-within (account_summary l) w low (omega (arith, high, accounts-count l.rule l.problem l.budget l.workers (events_of l) l.state)))
