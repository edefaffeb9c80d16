-- To be believed: certificates as documents, with the ranges of their numbers and their trees, and their texts.
use Rattle.std.specs.Prelude.{◌≡◌, ℕ, Bool, true, false, List, [], ◌∷◌, ◌++◌, ◌≤◌, Option, None, Some, codes, decimal, length}
use Rattle.s66_isa.specs.{some_of, after_blanks, kind_name, PROFILE_LENGTH, PROFILE_LIMIT}
use Rattle.s66_model.specs.{Rule, NoneNamed, WrittenEarlier, ClampedStanding, Whole, Chain, Load, Parcels, Tree, Alone, Parted, Siblings, NoMore, Unsplit, Split, Vertex, AtTerminal, AtSplit, flat}
use Rattle.s66_model.specs.{splits, Ending, Bounding, Dominated, Factual, Next, Turned, AtLine, LoadFrom, has_dominated_line}
use Rattle.s66_moments.specs.{Issue, Start, Done, Free, Moment, Origin, At, End, FactLine, FactStep, IsAnchored}
use Rattle.s66_moments.specs.declared.fact_line.FactLine.TheVariants as fact
use Rattle.s66_moments.specs.declared.fact_line.FactStep.TheVariants as step
use Rattle.s66_line.specs.{IsInstruction}
use Rattle.s66_cert.specs.declared.version.Version.{Version}
use Rattle.s66_cert.specs.Versions.{version, version_number}
use Rattle.s66_cert.specs.declared.limits.TheConstants.{TIME_LIMIT, SPLIT_LIMIT, FACT_LIMIT, LINE_LIMIT}

-- what it claims: under this profile, the instructions of these texts, in this order, take this time, and none takes less than the bound, as the fact lines, if it may have some, and the tree show by the rule
pub record Document : Type 0 where
  pub rule : Rule
  pub facts : Option (List FactStep)
  pub profile : List ℕ
  pub block : List (List ℕ)
  pub time : ℕ
  pub bound : ℕ
  pub numbers : List ℕ
  pub tree : Tree Ending

-- RANGES

-- each from low to high
abbrev pub AreIn : ℕ → ℕ → List ℕ → Type 0
AreIn low high [] = Unit {0}
AreIn low high (n ∷ ns) = (low ≤ n) × (n ≤ high) × AreIn low high ns

-- numbers of instructions of a block of at most limit: one at least, and no more than that
abbrev pub AreNumbers : ℕ → List ℕ → Type 0
AreNumbers limit ns = (1 ≤ length ns) × (length ns ≤ limit) × AreIn 1 limit ns

abbrev pub IsLeafLine : ℕ → Ending → Type 0
IsLeafLine limit (Bounding Whole) = Unit {0}
IsLeafLine limit (Bounding (Chain numbers)) = AreNumbers limit numbers
IsLeafLine limit (Bounding (Load kind)) = Unit {0}
IsLeafLine limit (Bounding Parcels) = Unit {0}
IsLeafLine limit (Dominated name) = AreNumbers limit name
IsLeafLine limit (Factual (Next number)) = AreIn 1 limit (number ∷ [])
IsLeafLine limit (Factual (Turned first second)) = AreIn 1 limit (first ∷ second ∷ [])
IsLeafLine limit (Factual (AtLine line)) = AreIn 1 LINE_LIMIT (line ∷ [])
IsLeafLine limit (Factual (LoadFrom after numbers)) = (after ≤ TIME_LIMIT) × AreNumbers limit numbers

-- a tree for each number of a split
abbrev pub SiblingsFit : ℕ → List ℕ → Siblings Ending → Type 0
SiblingsFit limit [] NoMore = Unit {0}
SiblingsFit limit (n ∷ ns) (Unsplit leaf siblings) = IsLeafLine limit leaf × SiblingsFit limit ns siblings
SiblingsFit limit (n ∷ ns) (Split numbers sub siblings) = AreNumbers limit numbers × SiblingsFit limit numbers sub × SiblingsFit limit ns siblings
SiblingsFit limit [] (Unsplit leaf siblings) = ⊥
SiblingsFit limit [] (Split numbers sub siblings) = ⊥
SiblingsFit limit (n ∷ ns) NoMore = ⊥

abbrev pub TreeFits : ℕ → Tree Ending → Type 0
TreeFits limit (Alone leaf) = IsLeafLine limit leaf
TreeFits limit (Parted numbers siblings) = AreNumbers limit numbers × SiblingsFit limit numbers siblings

-- FACT LINES

abbrev pub IsFactLine : ℕ → FactLine → Type 0
IsFactLine limit (fact.Pair first second) = AreIn 1 limit (first ∷ second ∷ [])
IsFactLine limit (fact.Load line) =
    IsAnchored limit line × AreIn 0 TIME_LIMIT (line.after ∷ line.wait ∷ []) × AreNumbers limit line.numbers.items

-- with the lines that begin and end suppositions
abbrev pub IsFactStep : ℕ → FactStep → Type 0
IsFactStep limit (step.Fact line) = IsFactLine limit line
IsFactStep limit (step.Suppose first second) = AreIn 1 limit (first ∷ second ∷ [])
IsFactStep limit step.Refuted = Unit {0}

abbrev pub AreFactSteps : ℕ → List FactStep → Type 0
AreFactSteps limit [] = Unit {0}
AreFactSteps limit (step ∷ steps) = IsFactStep limit step × AreFactSteps limit steps

-- they are few, and there are some only by the rule of standing nodes
abbrev pub AreFacts : ℕ → Rule → Option (List FactStep) → Type 0
AreFacts limit rule None = Unit {0}
AreFacts limit rule (Some steps) = (rule ≡ ClampedStanding) × (length steps ≤ FACT_LIMIT) × AreFactSteps limit steps

-- WHICH LEAVES A TREE HAS

-- whether a leaf of the tree is dominated
abbrev pub has_dominated : Tree Ending → Bool
has_dominated tree = has_dominated_line (flat tree)

-- whether dominated leaves name nodes by this rule
abbrev pub names_nodes : Rule → Bool
names_nodes NoneNamed = false
names_nodes WrittenEarlier = true
names_nodes ClampedStanding = true

-- a leaf by facts
abbrev pub is_factual : Vertex Ending → Bool
is_factual (AtSplit numbers) = false
is_factual (AtTerminal (Bounding leaf)) = false
is_factual (AtTerminal (Dominated name)) = false
is_factual (AtTerminal (Factual leaf)) = true

abbrev pub has_factual : Tree Ending → Bool
has_factual tree = some_of is_factual (flat tree)

-- without fact lines nodes are named by the rule exactly when a leaf is dominated, and no leaf is one by facts; with them no leaf is
-- dominated
abbrev pub HasItsLeaves : Rule → Option (List FactStep) → Tree Ending → Type 0
HasItsLeaves rule None tree = (names_nodes rule ≡ has_dominated tree) × (has_factual tree ≡ false)
HasItsLeaves rule (Some steps) tree = has_dominated tree ≡ false

-- THE LINES OF A TREE in preorder, each with its prefix

abbrev pub siblings_placed : List ℕ → List ℕ → Siblings Ending → List (List ℕ × Vertex Ending)
siblings_placed prefix [] siblings = []
siblings_placed prefix (n ∷ ns) NoMore = []
siblings_placed prefix (n ∷ ns) (Unsplit ending siblings) = (prefix ++ n ∷ [], AtTerminal ending) ∷ siblings_placed prefix ns siblings
siblings_placed prefix (n ∷ ns) (Split numbers sub siblings) =
    (prefix ++ n ∷ [], AtSplit numbers) ∷ (siblings_placed (prefix ++ n ∷ []) numbers sub ++ siblings_placed prefix ns siblings)

-- the lines of a tree in preorder, each with its prefix
abbrev pub tree_placed : List ℕ → Tree Ending → List (List ℕ × Vertex Ending)
tree_placed prefix (Alone ending) = (prefix, AtTerminal ending) ∷ []
tree_placed prefix (Parted numbers siblings) = (prefix, AtSplit numbers) ∷ siblings_placed prefix numbers siblings

-- INSTRUCTIONS

abbrev pub AreInstructions : List (List ℕ) → Type 0
AreInstructions [] = Unit {0}
AreInstructions (text ∷ texts) = IsInstruction text × AreInstructions texts

-- a document of a block of at most limit instructions, whose tree has at most this many splits
pub record IsDocumentWithin (limit most : ℕ) (d : Document) : Type 0 where
  pub profile : (length d.profile ≡ PROFILE_LENGTH) × AreIn 1 PROFILE_LIMIT d.profile
  pub block : (1 ≤ length d.block) × (length d.block ≤ limit) × AreInstructions d.block
  pub time : d.time ≤ TIME_LIMIT
  pub bound : d.bound ≤ TIME_LIMIT
  pub numbers : AreNumbers limit d.numbers
  pub tree : TreeFits limit d.tree
  pub splits : splits d.tree ≤ most
  pub facts : AreFacts limit d.rule d.facts
  pub leaves : HasItsLeaves d.rule d.facts d.tree

abbrev pub IsDocument : ℕ → Document → Type 0
IsDocument limit d = IsDocumentWithin limit SPLIT_LIMIT d

-- ITS LINES, without their newlines

abbrev pub leaf_line : Ending → List ℕ
leaf_line (Bounding Whole) = codes "T"
leaf_line (Bounding (Chain numbers)) = codes "C" ++ after_blanks numbers
leaf_line (Bounding (Load kind)) = codes "U " ++ kind_name kind
leaf_line (Bounding Parcels) = codes "P"
leaf_line (Dominated name) = codes "D" ++ after_blanks name
leaf_line (Factual (Next number)) = codes "E " ++ decimal number
leaf_line (Factual (Turned first second)) = codes "R" ++ after_blanks (first ∷ second ∷ [])
leaf_line (Factual (AtLine line)) = codes "N " ++ decimal line
leaf_line (Factual (LoadFrom after numbers)) = codes "L" ++ after_blanks (after ∷ numbers)

abbrev pub vertex_line : Vertex Ending → List ℕ
vertex_line (AtTerminal leaf) = leaf_line leaf
vertex_line (AtSplit numbers) = codes "S" ++ after_blanks numbers

-- of the origin, the end, and the stages that a fact line may have
abbrev pub moment_text : Moment → List ℕ
moment_text Origin = codes "0"
moment_text End = codes "END"
moment_text (At n Issue) = codes "I" ++ decimal n
moment_text (At n Start) = codes "S" ++ decimal n
moment_text (At n (Done x)) = []
moment_text (At n Free) = []

abbrev pub fact_line : FactLine → List ℕ
fact_line (fact.Pair first second) = codes "F" ++ after_blanks (first ∷ second ∷ [])
fact_line (fact.Load line) = codes "A " ++ moment_text line.from ++ codes " " ++ moment_text line.to ++ after_blanks (line.after ∷ line.wait ∷ line.numbers.items)

abbrev pub step_line : FactStep → List ℕ
step_line (step.Fact line) = fact_line line
step_line (step.Suppose first second) = codes "B" ++ after_blanks (first ∷ second ∷ [])
step_line step.Refuted = codes "Q"

-- THE TEXT

abbrev pub tree_lines : List (Vertex Ending) → List ℕ
tree_lines [] = []
tree_lines (vertex ∷ vertices) = vertex_line vertex ++ codes "\n" ++ tree_lines vertices

abbrev pub instructions_text : List (List ℕ) → List ℕ
instructions_text [] = []
instructions_text (text ∷ texts) = codes "I " ++ text ++ codes "\n" ++ instructions_text texts

abbrev pub step_lines : List FactStep → List ℕ
step_lines [] = []
step_lines (step ∷ steps) = step_line step ++ codes "\n" ++ step_lines steps

abbrev pub facts_text : Option (List FactStep) → List ℕ
facts_text None = []
facts_text (Some steps) = step_lines steps

-- up to the instructions, with the number of this version
abbrev pub head_lines : Version → Document → List ℕ
head_lines v d = codes "S66 CERTIFICATE " ++ decimal (version_number v) ++ codes "\nPROFILE" ++ after_blanks d.profile ++ codes "\nBLOCK " ++ decimal (length d.block) ++ codes "\n"

-- from these to the fact lines
abbrev pub claim_lines : Document → List ℕ
claim_lines d = codes "TIME " ++ decimal d.time ++ codes "\nBOUND " ++ decimal d.bound ++ codes "\nORDER" ++ after_blanks d.numbers ++ codes "\n"

-- up to its last line
abbrev pub text_headed : Version → Document → List ℕ
text_headed v d = head_lines v d ++ instructions_text d.block ++ claim_lines d ++ facts_text d.facts ++ tree_lines (flat d.tree)

abbrev pub document_text : Document → List ℕ
document_text d = text_headed (version d.facts d.rule) d ++ codes "END\n"

-- documents follow each other with nothing between
abbrev pub documents_text : List Document → List ℕ
documents_text [] = []
documents_text (d ∷ ds) = document_text d ++ documents_text ds

abbrev pub AreDocumentsWithin : ℕ → ℕ → List Document → Type 0
AreDocumentsWithin limit most [] = Unit {0}
AreDocumentsWithin limit most (d ∷ ds) = IsDocumentWithin limit most d × AreDocumentsWithin limit most ds

-- a text of documents whose trees have at most this many splits
abbrev pub IsTextWithin : ℕ → ℕ → List ℕ → List Document → Type 0
IsTextWithin limit most text ds = AreDocumentsWithin limit most ds × (text ≡ documents_text ds)

-- what a text is read as; these documents, one after the other, and nothing else
abbrev pub IsText : ℕ → List ℕ → List Document → Type 0
IsText limit text ds = IsTextWithin limit SPLIT_LIMIT text ds
