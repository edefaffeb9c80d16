-- To be believed: fact lines in sentences, each number in them one that the line is checked by, or of a load what is left to its wait.
use Rattle.std.specs.Prelude.{ℕ, ◌+◌, ◌-◌, ◌*◌, if◌then◌else◌, Bool, true, false, ◌&&◌, ◌==◌, max, Option, None, Some, List, [], ◌∷◌, ◌++◌, codes, decimal, get_or, length, map, option_map, take, unwrap_or}
use Rattle.s66_isa.specs.{Kind, weigh, numbers}
use Rattle.s66_model.specs.{Problem, copies, row_at}
use Rattle.s66_moments.specs.{Issue, Start, Done, Free, Moment, Origin, At, End, FactLine, FactStep, Use, use_time, Network, Supposition, Premises, is_late_at, is_late_through, with_step, Known}
use Rattle.s66_moments.specs.{arcs_of, is_late_by_parcels, kind_of_load, only_if, reaches, same_moment, span, use_of}
use Rattle.s66_moments.specs.declared.fact_line.FactLine.TheVariants as fact
use Rattle.s66_moments.specs.declared.fact_line.FactStep.TheVariants as step
use Rattle.s66_cert.specs.{Document}
use Rattle.s66_checker.specs.{facts_of, problem_of}
use Rattle.s66_reasons.specs.declared.work.Work.{Work}
use Rattle.s66_reasons.specs.Words.{each_words, instruction, listed, longest_use, unit_name}

-- WHERE A LOAD BEGINS AND ENDS

abbrev pub from_words : Moment → List ℕ
from_words Origin = codes "From the beginning"
from_words (At n Issue) = codes "From where " ++ decimal n ++ codes " issues"
from_words (At n Start) = codes "From where " ++ decimal n ++ codes " starts"
from_words (At n (Done x)) = []
from_words (At n Free) = []
from_words End = []

abbrev pub to_words : Moment → List ℕ
to_words Origin = []
to_words (At n Issue) = codes "where " ++ decimal n ++ codes " issues"
to_words (At n Start) = codes "where " ++ decimal n ++ codes " starts"
to_words (At n (Done x)) = []
to_words (At n Free) = []
to_words End = codes "the end"

-- A LOAD: what these instructions need of the units of their kind

abbrev pub work_of_load : Problem → List ℕ → Work
work_of_load b ns =
    record {
      kind = kind_of_load b ns;
      copies = copies b (kind_of_load b ns);
      total = weigh (λ (u : Use). u.amount) (map (use_of b) ns);
      most = longest_use b ns;
      time = use_time b (kind_of_load b ns) (map (use_of b) ns);
    }

-- where it leads, how long it is from where the last use begins, and how long with what comes before
abbrev pub left_to : Moment → (rest all : ℕ) → List ℕ
left_to to rest all = to_words to ++ codes " it is " ++ decimal rest ++ codes " or more: " ++ decimal all

abbrev pub one_words : Work → Moment → (after wait : ℕ) → ℕ → List ℕ
one_words w to after wait n = decimal n ++ codes " has its " ++ unit_name w.kind ++ codes " unit, and from there to " ++ left_to to (wait - after) (max after wait)

abbrev pub which_words : Work → List ℕ → List ℕ
which_words w ns = codes "one of " ++ listed decimal ns ++ codes " has its " ++ unit_name w.kind ++ codes " unit"

abbrev pub units_words : (copies : ℕ) → List ℕ
units_words copies = if copies == 1 then codes "it" else codes "the " ++ decimal copies

abbrev pub side_by_side : (copies time : ℕ) → List ℕ
side_by_side copies time = if copies == 1 then [] else codes " and " ++ decimal time ++ codes " side by side"

abbrev pub in_all : Work → List ℕ
in_all w = decimal w.total ++ codes " in all" ++ side_by_side w.copies w.time

abbrev pub need_words : Work → (count : ℕ) → List ℕ
need_words w count = codes "; these need " ++ units_words w.copies ++ codes " for " ++ each_words count w.total w.most ++ codes ", " ++ in_all w

-- the last of them begins its use when all others are over
abbrev pub begins : Work → (after : ℕ) → ℕ
begins w after = after + w.time - w.most

abbrev pub last_words : Moment → (begins wait : ℕ) → List ℕ
last_words to begins wait =
    codes "; so the last of them begins at " ++ decimal begins ++ codes " or later, and from there to " ++ left_to to (wait - begins) (max begins wait)

-- if their uses differ
abbrev pub mixed_words : Moment → (wait : ℕ) → List ℕ
mixed_words to wait = codes "; so with what is left after the last of them begins it is " ++ decimal wait ++ codes " or more to " ++ to_words to

abbrev pub so_words : Work → Moment → (after wait count : ℕ) → List ℕ
so_words w to after wait count = if w.total == count * w.most then last_words to (begins w after) wait else mixed_words to wait

-- so long is what these say in all, of so many: the wait at least
abbrev pub load_end : Work → (after wait count : ℕ) → ℕ
load_end w after wait count =
    if count == 1 then max after wait else (if w.total == count * w.most then max (begins w after) wait else wait)

abbrev pub many_words : Work → Moment → (after wait : ℕ) → List ℕ → List ℕ
many_words w to after wait ns = which_words w ns ++ need_words w (length ns) ++ so_words w to after wait (length ns)

abbrev pub until_words : Work → Moment → (after wait : ℕ) → List ℕ → List ℕ
until_words w to after wait ns = if length ns == 1 then one_words w to after wait (get_or ns 0 0) else many_words w to after wait ns

abbrev pub load_sentence : Problem → (from to : Moment) → (after wait : ℕ) → List ℕ → List ℕ
load_sentence b from to after wait ns =
    from_words from ++ (codes " it is " ++ decimal after ++ codes " or more until ") ++ until_words (work_of_load b ns) to after wait ns

-- A FORCED PAIR: why the second can't stand before the first

-- at the soonest, by what is known: the longest path from the origin
abbrev pub soonest_known : Problem → Network → Moment → ℕ
soonest_known b arcs e = unwrap_or (span b arcs Origin e) 0

-- how long it is from there to the end: the longest path
abbrev pub rest_known : Problem → Network → Moment → ℕ
rest_known b arcs e = unwrap_or (span b arcs e End) 0

-- up to then it takes so long, and so long from there: what both are in all
abbrev pub rest_words : (until rest : ℕ) → List ℕ
rest_words until rest = codes ", and from there to the end it is " ++ decimal rest ++ codes " or more: " ++ decimal (until + rest)

abbrev pub issues_words : (soonest n : ℕ) → List ℕ
issues_words soonest n = decimal n ++ codes " issues at " ++ (decimal soonest ++ codes " or later; behind it ")

abbrev pub could_words : (parcels m : ℕ) → List ℕ
could_words parcels m = decimal m ++ codes " could issue " ++ (decimal parcels ++ codes " later")

abbrev pub by_parcels : (soonest parcels rest m n : ℕ) → List ℕ
by_parcels soonest parcels rest m n = issues_words soonest n ++ could_words parcels m ++ rest_words (soonest + parcels) rest

abbrev pub has_words : Kind → (soonest n : ℕ) → List ℕ
has_words kind soonest n =
    decimal n ++ codes " has the " ++ unit_name kind ++ (codes " unit until " ++ decimal soonest ++ codes " or later; behind it ")

abbrev pub by_unit : Kind → (soonest rest m n : ℕ) → List ℕ
by_unit kind soonest rest m n = has_words kind soonest n ++ (decimal m ++ codes " could issue then") ++ rest_words soonest rest

abbrev pub pair_words : Document → ℕ → ℕ → List ℕ
pair_words d m n = instruction d m ++ (codes " stands before " ++ instruction d n ++ codes " in a faster order: ")

-- why it would be too late
abbrev pub late_words : Problem → (bound : ℕ) → Network → ℕ → ℕ → List ℕ
late_words b bound arcs m n =
    let rest : ℕ = rest_known b arcs (At m Issue) in
    if is_late_by_parcels b arcs bound m n then by_parcels (soonest_known b arcs (At n Issue)) (row_at b n).parcels rest m n
    else by_unit (row_at b n).kind (soonest_known b arcs (At n Free)) rest m n

abbrev pub pair_sentence : Document → Network → ℕ → ℕ → List ℕ
pair_sentence d arcs m n = pair_words d m n ++ late_words (problem_of d) d.bound arcs m n

-- A FACT LINE, by what is known before it

abbrev pub fact_sentence : Document → Known → FactLine → List ℕ
fact_sentence d known (fact.Pair m n) = pair_sentence d (arcs_of (problem_of d) known) m n
fact_sentence d known (fact.Load line) = load_sentence (problem_of d) line.from line.to line.after line.wait line.numbers.items

-- SUPPOSITIONS: what is said from the first line to the last one, further in, holds of faster orders that have what is supposed

abbrev pub suppose_sentence : Document → (m n : ℕ) → List ℕ
suppose_sentence d m n = codes "If " ++ instruction d n ++ (codes " stood before " ++ instruction d m ++ codes " in a faster order:")

-- n issues or starts then, so late that the bound is reached
abbrev pub comes_words : (does : List ℕ) → (soonest rest n : ℕ) → List ℕ
comes_words does soonest rest n = decimal n ++ does ++ (decimal soonest ++ codes " or later") ++ rest_words soonest rest

abbrev pub through_words : Problem → Network → (bound n : ℕ) → List ℕ
through_words b arcs bound n =
    if is_late_at b arcs bound Issue n then comes_words (codes " issues at ") (soonest_known b arcs (At n Issue)) (rest_known b arcs (At n Issue)) n
    else comes_words (codes " starts at ") (soonest_known b arcs (At n Start)) (rest_known b arcs (At n Start)) n

-- the first of these whose issue or start a path of the bound leads through
abbrev pub late_number : Problem → Network → (bound : ℕ) → List ℕ → Option ℕ
late_number b arcs bound [] = None
late_number b arcs bound (n ∷ ns) = if is_late_through b arcs bound n then Some n else late_number b arcs bound ns

-- how much later the end comes than the beginning by a load line
abbrev pub wait_to_end : FactStep → Option ℕ
wait_to_end (step.Fact (fact.Pair m n)) = None
wait_to_end (step.Fact (fact.Load line)) = only_if (same_moment line.from Origin && same_moment line.to End) line.wait
wait_to_end (step.Suppose m n) = None
wait_to_end step.Refuted = None

-- what is known before these lines is so behind them: none ends a supposition that began before
abbrev pub stays_known : List FactStep → Bool
stays_known [] = true
stays_known (step.Fact line ∷ steps) = stays_known steps
stays_known (step.Suppose m n ∷ steps) = true
stays_known (step.Refuted ∷ steps) = false

-- the first of these lines, from this number on, by which the end comes so late, and which is still known behind them; with its wait
abbrev pub end_line : (bound number : ℕ) → List FactStep → Option (ℕ × ℕ)
end_line bound number [] = None
end_line bound number (s ∷ steps) =
    if reaches bound (wait_to_end s) && stays_known steps then Some (number, unwrap_or (wait_to_end s) 0) else end_line bound (number + 1) steps

abbrev pub end_by_words : (number wait : ℕ) → List ℕ
end_by_words number wait = codes "the end comes at " ++ decimal wait ++ codes " or later, by " ++ (decimal number ++ codes ".")

abbrev pub end_comes_words : Option (ℕ × ℕ) → List ℕ
end_comes_words None = []
end_comes_words (Some line) = end_by_words line.0 line.1

-- if no path does, a load from the beginning to the end takes the bound, by one of these lines
abbrev pub too_late_words : Problem → Network → (bound : ℕ) → List FactStep → Option ℕ → List ℕ
too_late_words b arcs bound front None = end_comes_words (end_line bound 1 front)
too_late_words b arcs bound front (Some n) = through_words b arcs bound n

-- the number that would stand behind is looked at first, and then all
abbrev pub refuted_words : Problem → Network → (bound : ℕ) → List FactStep → (behind : ℕ) → List ℕ
refuted_words b arcs bound front behind =
    codes "if not, " ++ too_late_words b arcs bound front (late_number b arcs bound (behind ∷ numbers b.block))

-- the pair that is to be shown
abbrev pub to_show : Premises → Option (ℕ × ℕ)
to_show premises = option_map (λ (s : Supposition). (s.first, s.second)) premises.supposed

-- by what is known, after these lines
abbrev pub refuted_sentence : Document → Network → List FactStep → Option (ℕ × ℕ) → List ℕ
refuted_sentence d arcs front None = []
refuted_sentence d arcs front (Some pair) = pair_words d pair.0 pair.1 ++ refuted_words (problem_of d) arcs d.bound front pair.0

-- ALL LINES, numbered, each by what is known there

-- those before the line of this number
abbrev pub lines_before : Document → (number : ℕ) → List FactStep
lines_before d number = take (number - 1) (facts_of d)

abbrev pub step_sentence : Document → Premises → (number : ℕ) → FactStep → List ℕ
step_sentence d premises number (step.Fact line) = fact_sentence d premises.known line
step_sentence d premises number (step.Suppose m n) = suppose_sentence d m n
step_sentence d premises number step.Refuted =
    refuted_sentence d (arcs_of (problem_of d) premises.known) (lines_before d number) (to_show premises)

-- a fact line within a supposition stands further in
abbrev pub margin : (to_show : Option (ℕ × ℕ)) → FactStep → List ℕ
margin None s = codes "  "
margin (Some pair) (step.Fact line) = codes "    "
margin (Some pair) (step.Suppose m n) = codes "  "
margin (Some pair) step.Refuted = codes "  "

abbrev pub numbered_step : Document → Premises → ℕ → FactStep → List ℕ
numbered_step d premises number s = margin (to_show premises) s ++ decimal number ++ codes ". " ++ step_sentence d premises number s ++ codes "\n"

abbrev pub facts_from : Document → Premises → ℕ → List FactStep → List ℕ
facts_from d premises number [] = []
facts_from d premises number (s ∷ steps) = numbered_step d premises number s ++ facts_from d (with_step premises s) (number + 1) steps
