-- Used by contracts: which event of the machine an entry of a ledger's history is, and with which reply.
use Rattle.std.specs.Prelude.{ℕ, true, Some, None, if◌then◌else◌, List, [], ◌∷◌, take, drop}
use Rattle.s66_model.specs.{Problem, Vertex, read_tree, Terminal, Frontier, Event, Reply, Granted, Claimed, Returned, NotOut, Retired, Taken}
use Rattle.s66_model.specs.LedgerRuns as model
use Rattle.s66_node.specs.{node_line}
use Rattle.s66_ledger.specs.declared.event_record.EventRecord.{EventRecord}
use Rattle.s66_ledger.specs.declared.event_record.EventRecord.TheVariants as entry
use Rattle.s66_ledger.specs.declared.event_record.Refusal.{Refusal}
use Rattle.s66_ledger.specs.declared.event_record.Refusal.TheVariants as refusal
use Rattle.s66_ledger.specs.declared.reply.GraftError.{GraftError}
use Rattle.s66_ledger.specs.declared.reply.GraftError.TheVariants as error
use Rattle.s66_ledger.specs.Replies.{offered_reply}

abbrev pub refusal_reply : Refusal → Reply
refusal_reply refusal.NotOut = model.NotOut
refusal_reply refusal.OtherPrefix = model.OtherPrefix
refusal_reply refusal.OverAllowance = model.OverAllowance

abbrev pub error_of : Refusal → GraftError
error_of refusal.NotOut = error.NotOut
error_of refusal.OtherPrefix = error.OtherPrefix
error_of refusal.OverAllowance = error.OverAllowance

-- how many bytes of the history are the entry's own
abbrev pub byte_count : EventRecord → ℕ
byte_count (entry.Grant _ _) = 0
byte_count (entry.Claim _ _) = 0
byte_count (entry.Taken _ _ depth _ _ _) = depth
byte_count (entry.Refused _ _ _ depth _ _) = depth
byte_count (entry.Offer _ _ count _ _) = count
byte_count (entry.Back _ _ _) = 0
byte_count (entry.Retire _) = 0

-- how many nodes of the ledger the entry made, each by a line of its piece
abbrev pub line_count : EventRecord → ℕ
line_count (entry.Grant _ _) = 0
line_count (entry.Claim _ _) = 0
line_count (entry.Taken _ _ _ _ nodes _) = nodes
line_count (entry.Refused _ _ _ _ _ _) = 0
line_count (entry.Offer _ _ _ _ _) = 0
line_count (entry.Back _ _ _) = 0
line_count (entry.Retire _) = 0

-- of a ledger of this problem, by the entry, its own bytes, and the lines that it made nodes of
abbrev pub entry_of : Problem → EventRecord → List ℕ → List (Vertex Terminal) → Event × Reply
entry_of b (entry.Grant w splits) own_bytes own_lines = (model.Grant w, Granted splits)
entry_of b (entry.Claim w node) own_bytes own_lines = (model.Claim w, Claimed node)
entry_of b (entry.Taken w node depth root nodes splits) own_bytes own_lines =
    (model.Graft w node true own_bytes splits (Some (read_tree Frontier (node_line b [] own_bytes root ∷ own_lines))), Taken)
entry_of b (entry.Refused w node own depth splits why) own_bytes own_lines = (model.Graft w node own own_bytes splits None, refusal_reply why)
entry_of b (entry.Offer w own count time offered) own_bytes own_lines = (model.Offer w own own_bytes time, offered_reply offered)
entry_of b (entry.Back w node returned) own_bytes own_lines = (model.Back w node, if returned then Returned else NotOut)
entry_of b (entry.Retire w) own_bytes own_lines = (model.Retire w, Retired)

-- of entries: the bytes of one come after those of the entries before it, and so do its lines
abbrev pub entries_of : Problem → List EventRecord → List ℕ → List (Vertex Terminal) → List (Event × Reply)
entries_of b [] bytes lines = []
entries_of b (e ∷ es) bytes lines =
    entry_of b e (take (byte_count e) bytes) (take (line_count e) lines) ∷ entries_of b es (drop (byte_count e) bytes) (drop (line_count e) lines)
