-- Used by contracts: what is to show a bound, as code stores it.
use Rattle.std.specs.Prelude.{ℕ, ◌≡◌, ◌≤◌, List, Some}
use Rattle.s66_isa.specs.{BLOCK_LIMIT}
use Rattle.s66_model.specs.{ClampedStanding, Vertex, flat, splits, Ending}
use Rattle.s66_moments.specs.{FactStep}
use Rattle.s66_cert.specs.declared.limits.TheConstants.{SPLIT_LIMIT, TIME_LIMIT}
use Rattle.s66_cert.specs.Documents.{AreFacts, HasItsLeaves, TreeFits}
use Rattle.s66_cert.specs.DocumentParts.{tree_of_lines}

-- a bound, and the fact lines and the lines of a tree that are to show it
pub record EvidenceOf : Type 0 where
  pub bound : ℕ
  pub lines : List FactStep
  pub vertices : List (Vertex Ending)

-- a document with fact lines may have it
pub record IsEvidence (e : EvidenceOf) : Type 0 where
  pub bound : e.bound ≤ TIME_LIMIT
  pub facts : AreFacts BLOCK_LIMIT ClampedStanding (Some e.lines)
  pub preorder : flat (tree_of_lines e.vertices) ≡ e.vertices
  pub tree : TreeFits BLOCK_LIMIT (tree_of_lines e.vertices)
  pub splits : splits (tree_of_lines e.vertices) ≤ SPLIT_LIMIT
  pub leaves : HasItsLeaves ClampedStanding (Some e.lines) (tree_of_lines e.vertices)
