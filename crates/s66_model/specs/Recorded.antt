-- To be believed: what a ledger records of a graft and of an offer, whatever it answers, and what its entries spend.
use Rattle.std.specs.Prelude.{ℕ, ◌≡◌, ◌↔◌, ◌⊎◌, ◌==◌, Bool, true, if◌then◌else◌, List, Some, None}
use Rattle.s66_isa.specs.{weigh}
use Rattle.s66_model.specs.declared.rule.Rule.{Rule}
use Rattle.s66_model.specs.Timing.{Problem, total_of}
use Rattle.s66_model.specs.Trees.{Tree, Alone, Parted, Siblings, NoMore, Unsplit, Split, splits}
use Rattle.s66_model.specs.Piece.{Terminal, Carries, Frontier, Passed}
use Rattle.s66_model.specs.LedgerRuns.{Event, Graft, Offer, Reply, Taken, worker}

-- own says whether p, which an order is of, is the ledger's block and profile
abbrev pub IsOwn : (b p : Problem) → Bool → Type 0
IsOwn b p own = (own ≡ true) ↔ (p ≡ b)

-- a piece's splits are recorded in any case, and what is taken of its tree
abbrev pub graft_event : (w node : ℕ) (own : Bool) (prefix : List ℕ) → Tree Terminal → Reply → Event
graft_event w node own prefix tree Taken = Graft w node own prefix (splits tree) (Some tree)
graft_event w node own prefix tree reply = Graft w node own prefix (splits tree) None

-- a ledger may put dominated prefixes of a piece into the frontier, and takes all else as it is
abbrev pub TerminalOpens : Terminal → Terminal → Type 0
TerminalOpens (Carries leaf) taken = taken ≡ Carries leaf
TerminalOpens Frontier taken = taken ≡ Frontier
TerminalOpens (Passed name) taken = (taken ≡ Passed name) ⊎ (taken ≡ Frontier)

abbrev pub SiblingsOpen : Siblings Terminal → Siblings Terminal → Type 0
SiblingsOpen NoMore NoMore = Unit {0}
SiblingsOpen (Unsplit terminal siblings) (Unsplit taken others) = TerminalOpens terminal taken × SiblingsOpen siblings others
SiblingsOpen (Split numbers sub siblings) (Split ns under others) = (numbers ≡ ns) × SiblingsOpen sub under × SiblingsOpen siblings others
SiblingsOpen siblings others = ⊥

abbrev pub TreeOpens : Tree Terminal → Tree Terminal → Type 0
TreeOpens (Alone terminal) (Alone taken) = TerminalOpens terminal taken
TreeOpens (Parted numbers siblings) (Parted ns others) = (numbers ≡ ns) × SiblingsOpen siblings others
TreeOpens tree taken = ⊥

-- and whether that and the rule of its dominated leaves are those of a piece
abbrev pub IsOwnPiece : (rule : Rule) (b : Problem) (r : Rule) (p : Problem) → Bool → Type 0
IsOwnPiece rule b r p own = (own ≡ true) ↔ ((r ≡ rule) × (p ≡ b))

-- the event of worker w's graft at a node, of a piece of p over this prefix, by the rule r
abbrev pub IsGraftOf : (rule : Rule) (b : Problem) (w node : ℕ) (r : Rule) (p : Problem) (prefix : List ℕ) → Tree Terminal → Reply → Event → Type 0
IsGraftOf rule b w node r p prefix tree reply event =
    (own : Bool) × (taken : Tree Terminal) × IsOwnPiece rule b r p own × TreeOpens tree taken × (event ≡ graft_event w node own prefix taken reply)

-- the event of worker w's offer of an order of p, with its total
abbrev pub IsOfferOf : (b : Problem) (w : ℕ) (p : Problem) (order : List ℕ) → Event → Type 0
IsOfferOf b w p order event = (own : Bool) × IsOwn b p own × (event ≡ Offer w own order (total_of p order))

-- SPLITS

-- an entry spends the splits of a piece that was taken
abbrev pub spends : Event → Reply → ℕ
spends (Graft w node own prefix splits tree) Taken = splits
spends event reply = 0

-- what the entries of worker w spend
abbrev pub spent_by : ℕ → List (Event × Reply) → ℕ
spent_by w history = weigh (λ entry. if worker entry.0 == w then spends entry.0 entry.1 else 0) history
