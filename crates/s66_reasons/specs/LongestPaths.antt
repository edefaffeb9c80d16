-- To be believed: a longest path from an instruction to the end by what is known after the fact lines of a document, arc by arc, and what is said of each arc.
use Rattle.std.specs.Prelude.{ℕ, zero, suc, ◌+◌, ◌-◌, if◌then◌else◌, Bool, false, ◌&&◌, ◌||◌, ◌==◌, List, [], ◌∷◌, ◌++◌, codes, decimal, get_or, length, nat_le, Option, None, Some, unwrap_or}
use Rattle.std.specs.Option.{option_or}
use Rattle.s66_isa.specs.{Kind}
use Rattle.s66_model.specs.{row_at}
use Rattle.s66_moments.specs.{Stage, Issue, Start, Done, Free, Moment, Origin, At, End, Pair, Load, LoadLine, FactStep, Network, most_arcs, network, precedes, same_moment, targets, arcs_of, plus}
use Rattle.s66_moments.specs.{reaches, span}
use Rattle.s66_moments.specs.declared.fact_line.FactStep.TheVariants.{Fact, Suppose, Refuted}
use Rattle.s66_cert.specs.{Document}
use Rattle.s66_why.specs.{register_name}
use Rattle.s66_checker.specs.{facts_of, known_of, problem_of}
use Rattle.s66_reasons.specs.declared.hop.Hop.{Hop}
use Rattle.s66_reasons.specs.ChainWords.{end_words, link_words}
use Rattle.s66_reasons.specs.Words.{Reason, counted, instruction, listed, unit_name}

-- THE PATH

-- how much later each moment comes at least than each other by one arc, in orders that take less than the bound
abbrev pub arcs : Document → Network
arcs d = arcs_of (problem_of d) (known_of d)

-- how much later the end comes at least than a moment, along arcs
abbrev pub to_end : Document → Moment → Option ℕ
to_end d Origin = span (problem_of d) (arcs d) Origin End
to_end d (At n stage) = span (problem_of d) (arcs d) (At n stage) End
to_end d End = Some 0

-- the arc from e to f, if that and a longest path from f take so long
abbrev pub hop_to : Document → (left : ℕ) → (e f : Moment) → Option Hop
hop_to d left e f =
    if reaches left (plus (arcs d e f) (to_end d f)) then Some (record { wait = unwrap_or (arcs d e f) 0; to = f }) else None

-- the arc from e to the first of these moments to which there is one, as `hop_to` has it
abbrev pub first_hop : Document → (left : ℕ) → Moment → List Moment → Option Hop
first_hop d left e [] = None
first_hop d left e (f ∷ fs) = option_or (hop_to d left e f) (first_hop d left e fs)

-- the same to the first of all moments to which an arc may lead: the end, and then those of each number
abbrev pub next_hop : Document → (left : ℕ) → Moment → Option Hop
next_hop d left e = first_hop d left e (targets (problem_of d))

-- an arc and those after it; none if it isn't there
abbrev pub hop_and : Option Hop → (Hop → List Hop) → List Hop
hop_and None more = []
hop_and (Some hop) more = hop ∷ more hop

-- the arcs of a longest path from e to the end, at most so many: the end comes so much later than e, and no arc leads on from it
abbrev pub hops_from : Document → (most left : ℕ) → Moment → List Hop
hops_from d zero left e = []
hops_from d (suc more) left e = hop_and (next_hop d left e) (λ (hop : Hop). hops_from d more (left - hop.wait) hop.to)

-- the arcs of a longest path from the issue of n to the end
abbrev pub hops_of : Document → ℕ → List Hop
hops_of d n = hops_from d (most_arcs (problem_of d)) (unwrap_or (to_end d (At n Issue)) 0) (At n Issue)

-- WHICH FACT LINES GIVE AN ARC: those outside of suppositions, and the last one of a supposition, which leaves its pair known

-- the pair that is to be shown behind a line
abbrev pub to_show_after : Option (ℕ × ℕ) → FactStep → Option (ℕ × ℕ)
to_show_after to_show (Fact line) = to_show
to_show_after to_show (Suppose m n) = Some (m, n)
to_show_after to_show Refuted = None

-- the pair that a line leaves known
abbrev pub pair_left : (to_show : Option (ℕ × ℕ)) → FactStep → Option (ℕ × ℕ)
pair_left None (Fact (Pair m n)) = Some (m, n)
pair_left None (Fact (Load line)) = None
pair_left None (Suppose m n) = None
pair_left None Refuted = None
pair_left (Some pair) (Fact line) = None
pair_left (Some pair) (Suppose m n) = None
pair_left (Some pair) Refuted = Some pair

-- the load that it leaves known
abbrev pub load_left : (to_show : Option (ℕ × ℕ)) → FactStep → Option LoadLine
load_left None (Fact (Pair m n)) = None
load_left None (Fact (Load line)) = Some line
load_left None (Suppose m n) = None
load_left None Refuted = None
load_left (Some pair) step = None

-- what each of these lines leaves known
abbrev pub each_left : {X : Type 0} → (Option (ℕ × ℕ) → FactStep → Option X) → (to_show : Option (ℕ × ℕ)) → List FactStep → List (Option X)
each_left left to_show [] = []
each_left left to_show (step ∷ steps) = left to_show step ∷ each_left left (to_show_after to_show step) steps

abbrev pub pairs_left : Document → List (Option (ℕ × ℕ))
pairs_left d = each_left pair_left None (facts_of d)

abbrev pub loads_left : Document → List (Option LoadLine)
loads_left d = each_left load_left None (facts_of d)

abbrev pub is_some_passing : {X : Type 0} → (X → Bool) → Option X → Bool
is_some_passing test None = false
is_some_passing test (Some x) = test x

-- the number of the first of these that is there and passes, if the first of them has this number; 0 if none does
abbrev pub first_number : {X : Type 0} → (X → Bool) → ℕ → List (Option X) → ℕ
first_number test number [] = 0
first_number test number (x ∷ xs) = if is_some_passing test x then number else first_number test (number + 1) xs

-- m is n, or stands before it by this
abbrev pub up_to : (before : ℕ → ℕ → Bool) → (m n : ℕ) → Bool
up_to before m n = m == n || before m n

-- m stands before n by dependence, this pair, and then this
abbrev pub puts_before : Document → (before : ℕ → ℕ → Bool) → (m n : ℕ) → ℕ × ℕ → Bool
puts_before d before m n pair = up_to (precedes (problem_of d).block) m pair.0 && up_to before pair.1 n

-- the number of the first such pair; 0 if there is none
abbrev pub pair_by : Document → (before : ℕ → ℕ → Bool) → (m n : ℕ) → ℕ
pair_by d before m n = first_number (puts_before d before m n) 1 (pairs_left d)

-- the first of two numbers that isn't 0
abbrev pub either : ℕ → ℕ → ℕ
either one other = if one == 0 then other else one

-- the number of the first pair by which m stands before n with dependence alone, or else of the first with all that is known behind it; 0 if
-- n depends on m
abbrev pub pair_from : Document → (m n : ℕ) → ℕ
pair_from d m n =
    let depends : ℕ → ℕ → Bool = precedes (problem_of d).block in
    if up_to depends m n then 0 else either (pair_by d depends m n) (pair_by d (known_of d).before m n)

-- the second number of the pair that the line of this number leaves
abbrev pub second_of_pair : Document → (number : ℕ) → ℕ
second_of_pair d number = (unwrap_or (get_or (pairs_left d) (number - 1) None) (0, 0)).1

-- the numbers of pairs, at most so many, that together put m before n: of one, and then of those that put its second before n
abbrev pub pairs_over : Document → (most m n : ℕ) → List ℕ
pairs_over d zero m n = []
pairs_over d (suc more) m n =
    let number : ℕ = pair_from d m n in
    if number == 0 then [] else number ∷ pairs_over d more (second_of_pair d number) n

-- no more than there are instructions; none if n depends on m
abbrev pub pairs_of : Document → (m n : ℕ) → List ℕ
pairs_of d m n = pairs_over d (length (problem_of d).block) m n

-- f comes so much later than e by this load
abbrev pub keeps_apart : (e f : Moment) → (wait : ℕ) → LoadLine → Bool
keeps_apart e f wait line = same_moment line.from e && same_moment line.to f && nat_le wait line.wait

-- the number of the first load that gives this arc from e; 0 if none does
abbrev pub line_of_load : Document → Moment → Hop → ℕ
line_of_load d e hop = first_number (keeps_apart e hop.to hop.wait) 1 (loads_left d)

-- WHAT IS SAID

-- a fact line, by its number
abbrev pub line_name : ℕ → List ℕ
line_name number = decimal number ++ codes "."

-- by which fact lines, if by some
abbrev pub by_words : List ℕ → List ℕ
by_words [] = []
by_words (number ∷ more) = codes " (by " ++ listed line_name (number ∷ more) ++ codes ")"

abbrev pub parcels_words : Document → (parcels m n : ℕ) → List ℕ
parcels_words d parcels m n =
    instruction d n ++ codes " can issue, " ++ counted parcels (codes "parcel") ++ codes " after " ++ instruction d m

abbrev pub free_unit_words : Document → Kind → (m n : ℕ) → List ℕ
free_unit_words d kind m n =
    codes "the " ++ unit_name kind ++ codes " unit of " ++ instruction d m ++ codes " is free, which " ++ instruction d n ++ codes " needs"

-- the third order of conflict, in a register that m reads
abbrev pub third_words : Document → (m n : ℕ) → Stage → List ℕ
third_words d m n (Done x) =
    instruction d m ++ codes " has read " ++ register_name x ++ codes ", so that of " ++ instruction d n ++ codes " can be there"
third_words d m n Issue = link_words d m n None
third_words d m n Start = link_words d m n None
third_words d m n Free = link_words d m n None

-- n waits for this stage of m
abbrev pub later_words : Document → (m n : ℕ) → (e f : Stage) → List ℕ
later_words d m n Issue f = parcels_words d (row_at (problem_of d) m).parcels m n
later_words d m n Start f = third_words d m n f
later_words d m n (Done x) f = link_words d m n (Some x)
later_words d m n Free f = free_unit_words d (row_at (problem_of d) m).kind m n

-- what is last of n
abbrev pub at_end_words : Document → ℕ → Stage → List ℕ
at_end_words d n (Done x) = end_words d n (Some x)
at_end_words d n Issue = end_words d n None
at_end_words d n Start = end_words d n None
at_end_words d n Free = end_words d n None

-- the row of an arc of the table, which leads to f in this minor cycle; none if both moments are of one instruction
abbrev pub table_rows : Document → (number : ℕ) → (e f : Moment) → List Reason
table_rows d number Origin f = []
table_rows d number (At m e) Origin = []
table_rows d number (At m e) (At n f) =
    if m == n then [] else record { number = number; words = later_words d m n e f ++ by_words (pairs_of d m n) } ∷ []
table_rows d number (At m e) End = record { number = number; words = at_end_words d m e } ∷ []
table_rows d number End f = []

-- what a load comes before
abbrev pub reached_words : Moment → List ℕ
reached_words Origin = []
reached_words (At n Issue) = decimal n ++ codes " issues"
reached_words (At n Start) = decimal n ++ codes " starts"
reached_words (At n (Done x)) = []
reached_words (At n Free) = []
reached_words End = codes "the end"

abbrev pub longest_load_row : Document → (number : ℕ) → Moment → Hop → Reason
longest_load_row d number e hop = record { number = number; words = reached_words hop.to ++ codes ", by " ++ decimal (line_of_load d e hop) ++ codes "." }

-- an arc is of the table if that has it as long
abbrev pub hop_rows : Document → (number : ℕ) → Moment → Hop → List Reason
hop_rows d number e hop =
    if reaches hop.wait (network (problem_of d) (known_of d).before e hop.to) then table_rows d number e hop.to
    else longest_load_row d number e hop ∷ []

-- the rows of arcs that lead on from e in this minor cycle
abbrev pub path_rows : Document → (number : ℕ) → Moment → List Hop → List Reason
path_rows d number e [] = []
path_rows d number e (hop ∷ hops) = hop_rows d (number + hop.wait) e hop ++ path_rows d (number + hop.wait) hop.to hops
