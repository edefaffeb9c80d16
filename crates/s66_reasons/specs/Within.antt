-- Used by contracts within the crate alone: numbers of a block, what is granted of the leaves of a document, which lines of a tree are splits, the arcs of fact lines, moments of a block, and what is known of it.
use Rattle.std.specs.Prelude.{ℕ, ◌≡◌, ◌≤◌, ◌<◌, if◌then◌else◌, ◌&&◌, [], ◌∷◌, Bool, true, false, List, Option, None, Some, length, get_or, max, unwrap_or}
use Rattle.s66_isa.specs.{BLOCK_LIMIT, every}
use Rattle.s66_model.specs.{Problem, IsBeginning, is_remaining, Whole, Chain, Load, Parcels, TreeHolds, Vertex, AtTerminal, AtSplit, Ending, Bounding, Dominated, Factual, Next, Turned, AtLine}
use Rattle.s66_model.specs.{LoadFrom}
use Rattle.s66_moments.specs.{LoadLine, Moment, Origin, At, End, IsNumber, known_first, same_moment, premises_first}
use Rattle.s66_facts.specs.{Ground, known_of as known_in, Grounds, premises_in}
use Rattle.s66_cert.specs.{Document, IsDocument}
use Rattle.s66_checker.specs.Checked.{Checked}
use Rattle.s66_checker.specs.{AreTaken, KnowsAll, line_fault, problem_of}
use Rattle.s66_reasons.specs.Reasons.{leaf_text}

-- each of a block of so many
abbrev pub AreWithin : ℕ → List ℕ → Type 0
AreWithin count ns = (i : ℕ) → i < length ns → (1 ≤ get_or ns i 0) × (get_or ns i 0 ≤ count)

abbrev pub is_split : Vertex Ending → Bool
is_split (AtTerminal ending) = false
is_split (AtSplit numbers) = true

-- no line of its tree has a fault
abbrev pub IsFaultless : Document → Type 0
IsFaultless d =
    TreeHolds (problem_of d).block (λ at ending. IsBeginning (problem_of d).block at × (line_fault d at (AtTerminal ending) ≡ None)) [] d.tree

-- what a verdict yes grants of a document
pub record IsRight (d : Document) : Type 0 where
  pub document : IsDocument BLOCK_LIMIT d
  pub taken : AreTaken d
  pub lines : IsFaultless d

-- and of a leaf at its prefix: its instructions are of the block, or remain
abbrev pub IsGranted : Document → List ℕ → Vertex Ending → Type 0
IsGranted d at (AtSplit numbers) = Unit {0}
IsGranted d at (AtTerminal (Bounding Whole)) = Unit {0}
IsGranted d at (AtTerminal (Bounding (Chain numbers))) = (1 ≤ length numbers) × (length numbers ≤ BLOCK_LIMIT) × AreWithin (length (problem_of d).block) numbers
IsGranted d at (AtTerminal (Bounding (Load kind))) = Unit {0}
IsGranted d at (AtTerminal (Bounding Parcels)) = Unit {0}
IsGranted d at (AtTerminal (Dominated name)) = Unit {0}
IsGranted d at (AtTerminal (Factual (Next number))) = IsNumber (problem_of d) number
IsGranted d at (AtTerminal (Factual (Turned first second))) = IsNumber (problem_of d) first × IsNumber (problem_of d) second
IsGranted d at (AtTerminal (Factual (AtLine line))) = Unit {0}
IsGranted d at (AtTerminal (Factual (LoadFrom after numbers))) =
    (0 < length numbers) × (length numbers ≤ BLOCK_LIMIT) × (every (is_remaining (problem_of d).block at) numbers ≡ true)

-- an arc from e to f, with a load that may be there too
abbrev pub with_load : (e f : Moment) → Option LoadLine → Option ℕ → Option ℕ
with_load e f None wait = wait
with_load e f (Some line) wait =
    if same_moment e line.from && same_moment f line.to then Some (max line.wait (unwrap_or wait 0)) else wait

abbrev pub with_loads : (e f : Moment) → List (Option LoadLine) → Option ℕ → Option ℕ
with_loads e f [] wait = wait
with_loads e f (load ∷ loads) wait = with_loads e f loads (with_load e f load wait)

-- a moment of an instruction is of one of the block
abbrev pub IsNumberOf : Problem → Moment → Type 0
IsNumberOf b Origin = Unit {0}
IsNumberOf b (At n stage) = IsNumber b n
IsNumberOf b End = Unit {0}

-- what is said of a leaf at its prefix, and of a split nothing
abbrev pub vertex_text : Document → List ℕ → Vertex Ending → List ℕ
vertex_text d at (AtSplit numbers) = []
vertex_text d at (AtTerminal ending) = leaf_text d at ending

-- the numbers of a load: some of those that remain after a prefix
pub record AreLoaded (prefix : Checked) (numbers : List ℕ) : Type 0 where
  pub some : 0 < length numbers
  pub few : length numbers ≤ BLOCK_LIMIT
  pub remain : every (is_remaining prefix.problem.block prefix.numbers) numbers ≡ true

-- the empty prefix of the block of a document, whose fact lines are taken, and what is known of this block by dependence alone
pub record AreFirst (d : Document) (prefix : Checked) (by_dependence : Ground) : Type 0 where
  pub problem : prefix.problem ≡ problem_of d
  pub start : prefix.numbers ≡ []
  pub first_problem : by_dependence.problem ≡ problem_of d
  pub known : known_in by_dependence ≡ known_first (problem_of d)
  pub taken : AreTaken d

-- these, and what is known after the fact lines
pub record AreKnown (d : Document) (prefix : Checked) (by_dependence by_lines : Ground) : Type 0 where
  pub first : AreFirst d prefix by_dependence
  pub all : KnowsAll d by_lines

-- the empty prefix, and what is known before the first step
pub record AreBegun (d : Document) (prefix : Checked) (grounds : Grounds) : Type 0 where
  pub first : AreFirst d prefix grounds.ground
  pub premises : premises_in grounds ≡ premises_first (problem_of d)
  pub steps : grounds.steps ≡ 0
