-- The text of documents, as the lines of which it consists.
use Rattle.std.proofs.Common.{ℕ, List, [], ◌∷◌, ◌++◌, Option, None, Some, length}
use Rattle.s66_model.specs.{Vertex, flat, Ending}
use Rattle.s66_moments.specs.{FactStep}
use Rattle.s66_cert.specs.{Version, version, Document, DocumentLine, Header, Profile, Block, Instruction, Time, Bound, Order, OfFact, OfTree, End}

abbrev pub instructions_of : List (List ℕ) → List DocumentLine
instructions_of [] = []
instructions_of (text ∷ texts) = Instruction text ∷ instructions_of texts

abbrev pub steps_of : List FactStep → List DocumentLine
steps_of [] = []
steps_of (step ∷ steps) = OfFact step ∷ steps_of steps

-- if there may be some
abbrev pub facts_of : Option (List FactStep) → List DocumentLine
facts_of None = []
facts_of (Some steps) = steps_of steps

abbrev pub vertices_of : List (Vertex Ending) → List DocumentLine
vertices_of [] = []
vertices_of (vertex ∷ vertices) = OfTree vertex ∷ vertices_of vertices

-- up to the last one, with the number of this version
abbrev pub open_lines : Version → Document → List DocumentLine
open_lines head d =
    Header head ∷ Profile d.profile ∷ Block (length d.block) ∷ (instructions_of d.block ++ Time d.time ∷ Bound d.bound ∷ Order d.numbers ∷ (facts_of d.facts ++ vertices_of (flat d.tree)))

abbrev pub document_lines : Document → List DocumentLine
document_lines d = open_lines (version d.facts d.rule) d ++ End ∷ []

abbrev pub documents_lines : List Document → List DocumentLine
documents_lines [] = []
documents_lines (d ∷ ds) = document_lines d ++ documents_lines ds
