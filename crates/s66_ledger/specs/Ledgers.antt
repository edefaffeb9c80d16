-- Used by contracts: what they see of a ledger with its history, and what one call of it is. Used by an invariant: what is true of every ledger.
use Rattle.std.specs.Prelude.{ℕ, ◌≡◌, List, [], ◌∷◌, ◌++◌, ◌+◌, length, drop}
use Rattle.s66_isa.specs.{weigh}
use Rattle.s66_model.specs.{Rule, Problem, Vertex, Terminal, Ledger, Event, Reply, Step, Run, opening, Summary, summary_of}
use Rattle.s66_ledger.specs.declared.event_record.EventRecord.{EventRecord}
use Rattle.s66_ledger.specs.HistoryEntries.{byte_count, line_count, entries_of}
use Rattle.s66_ledger.specs.LedgerMachine.{MachineOf}

-- a problem's ledger, for a budget and this many workers
pub record LedgerOf : Type 0 where
  -- of its dominated leaves
  pub rule : Rule
  pub problem : Problem
  pub budget : ℕ
  pub workers : ℕ
  pub state : Ledger
  -- an entry for each event, the oldest first
  pub entries : List EventRecord
  -- the bytes of the entries, one's after another's
  pub bytes : List ℕ
  -- the lines of pieces that made its nodes
  pub lines : List (Vertex Terminal)

-- the events of its history, with their replies; no line made the first node
abbrev pub events_of : LedgerOf → List (Event × Reply)
events_of l = entries_of l.problem l.entries l.bytes (drop 1 l.lines)

-- one event with its reply: a step of the machine, and an entry
abbrev pub IsEvent : LedgerOf → Event → Reply → LedgerOf → Type 0
IsEvent old event reply new =
    (new.problem ≡ old.problem) × (new.budget ≡ old.budget) × (new.workers ≡ old.workers)
    × Step old.rule old.problem old.state event reply new.state × (events_of new ≡ events_of old ++ (event, reply) ∷ []) × (new.rule ≡ old.rule)

-- its history leads from the opening to its state, and each of its bytes is some entry's, as is each line but the first
pub record IsRecorded (l : LedgerOf) : Type 0 where
  pub run : Run l.rule l.problem (opening l.problem l.budget l.workers) (events_of l) l.state
  pub bytes : weigh byte_count l.entries ≡ length l.bytes
  pub lines : weigh line_count l.entries + 1 ≡ length l.lines

-- what the rule of a lock reads of it
abbrev pub account_summary : LedgerOf → Summary
account_summary l = summary_of l.rule l.problem l.budget l.workers (events_of l) l.state

abbrev pub with_history : MachineOf → List EventRecord → List ℕ → LedgerOf
with_history m entries bytes =
    record { rule = m.rule; problem = m.problem; budget = m.budget; workers = m.workers; state = m.state; entries = entries; bytes = bytes; lines = m.lines }
