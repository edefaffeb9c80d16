-- Used by contracts: a document as code stores it, its tree by its lines in preorder.
use Rattle.std.specs.Prelude.{◌≡◌, ℕ, List, Option, Vec, option_map}
use Rattle.std.specs.declared.alloc.Global.{Global}
use Rattle.s66_isa.specs.{BLOCK_LIMIT}
use Rattle.s66_model.specs.{Rule, Whole, Tree, Vertex, flat, Ending, Bounding, read_tree}
use Rattle.s66_moments.specs.{FactStep}
use Rattle.s66_cert.specs.Documents.{Document, IsDocument}

abbrev pub facts_in : Option (Vec FactStep Global) → Option (List FactStep)
facts_in facts = option_map (λ (steps : Vec FactStep Global). steps.items) facts

pub record Parts : Type 0 where
  pub rule : Rule
  pub facts : Option (List FactStep)
  pub profile : List ℕ
  pub block : List (List ℕ)
  pub time : ℕ
  pub bound : ℕ
  pub numbers : List ℕ
  pub vertices : List (Vertex Ending)

-- the tree of which these are the lines
abbrev pub tree_of_lines : List (Vertex Ending) → Tree Ending
tree_of_lines vertices = read_tree (Bounding Whole) vertices

abbrev pub document_of : Parts → Document
document_of p = record { rule = p.rule; facts = p.facts; profile = p.profile; block = p.block; time = p.time; bound = p.bound; numbers = p.numbers; tree = tree_of_lines p.vertices }

-- the parts of a document: their lines are those of one whole tree
pub record AreWhole (p : Parts) : Type 0 where
  pub document : IsDocument BLOCK_LIMIT (document_of p)
  pub preorder : flat (tree_of_lines p.vertices) ≡ p.vertices
