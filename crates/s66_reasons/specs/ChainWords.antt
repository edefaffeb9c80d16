-- To be believed: the rows of a chain: what each of its instructions waits for of the one before it, and the end of the last.
use Rattle.std.specs.Prelude.{ℕ, ◌+◌, if◌then◌else◌, ◌&&◌, ◌==◌, List, [], ◌∷◌, ◌++◌, codes, drop, get_or, Option, None, Some}
use Rattle.s66_isa.specs.{Reg, Row, Write, has_reg}
use Rattle.s66_model.specs.{points_of, row_at, head, link, tail, uses}
use Rattle.s66_cert.specs.{Document}
use Rattle.s66_why.specs.{register_name}
use Rattle.s66_checker.specs.{problem_of}
use Rattle.s66_reasons.specs.Words.{Reason, instruction}

-- the first of these results for which n waits so long; none if it waits for a reference to memory
abbrev pub awaited : ℕ → Row → List Write → Option Reg
awaited wait n [] = None
awaited wait n (w ∷ ws) = if uses n w.reg && w.latency == wait then Some w.reg else awaited wait n ws

abbrev pub link_words : Document → ℕ → ℕ → Option Reg → List ℕ
link_words d m n None = instruction d n ++ codes " can reference memory, after " ++ instruction d m ++ codes " has"
link_words d m n (Some x) =
    register_name x ++ codes " of " ++ instruction d m ++ codes " is there, which " ++ instruction d n
    ++ (if has_reg x (row_at (problem_of d) n).reads then codes " reads" else codes " writes again")

-- m starts at t, and n starts no sooner than this
abbrev pub link_row : Document → ℕ → ℕ → ℕ → Reason
link_row d t m n =
    let wait : ℕ = link (row_at (problem_of d) m) (row_at (problem_of d) n) in
    record { number = t + wait; words = link_words d m n (awaited wait (row_at (problem_of d) n) (row_at (problem_of d) m).writes) }

-- the first of these results that takes so long
abbrev pub lasting : ℕ → List Write → Option Reg
lasting time [] = None
lasting time (w ∷ ws) = if w.latency == time then Some w.reg else lasting time ws

-- the result that is there last of all that an instruction does; none if its unit is free no sooner
abbrev pub last_result : Row → Option Reg
last_result r = if r.hold + 1 == tail r then None else lasting (tail r) r.writes

abbrev pub end_words : Document → ℕ → Option Reg → List ℕ
end_words d n None = codes "the unit of " ++ instruction d n ++ codes " is free, and that is the end"
end_words d n (Some x) = register_name x ++ codes " of " ++ instruction d n ++ codes " is there, and that is the end"

-- n starts at t
abbrev pub end_row : Document → ℕ → ℕ → Reason
end_row d t n =
    record { number = t + tail (row_at (problem_of d) n); words = end_words d n (last_result (row_at (problem_of d) n)) }

-- from the start of n at t along the chain
abbrev pub walk_rows : Document → ℕ → ℕ → List ℕ → List Reason
walk_rows d t n [] = end_row d t n ∷ []
walk_rows d t n (m ∷ ms) = link_row d t n m ∷ walk_rows d (t + link (row_at (problem_of d) n) (row_at (problem_of d) m)) m ms

-- the first can start no sooner than this; without a prefix that is at 0, and nothing is said of it
abbrev pub start_row : Document → List ℕ → ℕ → Reason
start_row d at n =
    record { number = head (points_of (problem_of d) at) (row_at (problem_of d) n); words = instruction d n ++ codes " can start" }

abbrev pub start_rows : Document → List ℕ → ℕ → List Reason
start_rows d [] n = []
start_rows d (m ∷ at) n = start_row d (m ∷ at) n ∷ []

-- from the start of n
abbrev pub rows_from : Document → List ℕ → ℕ → List ℕ → List Reason
rows_from d at n ms = start_rows d at n ++ walk_rows d (head (points_of (problem_of d) at) (row_at (problem_of d) n)) n ms

-- a chain has a first number
abbrev pub chain_rows : Document → List ℕ → List ℕ → List Reason
chain_rows d at ns = rows_from d at (get_or ns 0 0) (drop 1 ns)
