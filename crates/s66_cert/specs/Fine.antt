-- Used by contracts: what was read of documents is in range.
use Rattle.std.specs.Prelude.{◌≡◌, ◌≤◌, ◌+◌, ℕ, zero, suc, true, List, [], ◌∷◌, Option, is_some, length}
use Rattle.s66_isa.specs.{BLOCK_LIMIT, every, PROFILE_LENGTH, PROFILE_LIMIT}
use Rattle.s66_model.specs.{Rule, Vertex, AtTerminal, AtSplit, Ending}
use Rattle.s66_moments.specs.{FactStep}
use Rattle.s66_cert.specs.Documents.{AreDocumentsWithin, AreIn, AreNumbers, AreInstructions, AreFacts, IsLeafLine}
use Rattle.s66_cert.specs.DocumentParts.{Parts}
use Rattle.s66_cert.specs.Reading.{DocumentState, is_leaf_of}
use Rattle.s66_cert.specs.declared.version.Version.{Version}
use Rattle.s66_cert.specs.Versions.{has_suppositions, version_rule, has_facts, may_suppose}
use Rattle.s66_cert.specs.declared.limits.TheConstants.{TIME_LIMIT}
use Rattle.s66_cert.specs.declared.document_place.DocumentPlace.{DocumentPlace}
use Rattle.s66_cert.specs.declared.document_place.DocumentPlace.TheVariants.{AtHeader, AtProfile, AtBlock, AtInstruction, AtTime, AtBound, AtOrder, AtTree, AtEnd}

-- of n trees these lines leave this many to come
abbrev pub Leave : ℕ → List (Vertex Ending) → ℕ → Type 0
Leave n [] left = n ≡ left
Leave (suc n) (AtTerminal leaf ∷ vertices) left = IsLeafLine BLOCK_LIMIT leaf × Leave n vertices left
Leave (suc n) (AtSplit numbers ∷ vertices) left = AreNumbers BLOCK_LIMIT numbers × Leave (length numbers + n) vertices left
Leave zero (AtTerminal leaf ∷ vertices) left = ⊥
Leave zero (AtSplit numbers ∷ vertices) left = ⊥

-- how many of these lines are splits
abbrev pub split_count : List (Vertex Ending) → ℕ
split_count [] = 0
split_count (AtTerminal leaf ∷ vertices) = split_count vertices
split_count (AtSplit numbers ∷ vertices) = suc (split_count vertices)

-- fact lines by a rule that a document of this version may have
pub record AreOfVersion (version : Version) (rule : Rule) (facts : Option (List FactStep)) : Type 0 where
  pub ruled : rule ≡ version_rule version
  pub some : is_some facts ≡ has_facts version
  pub fit : AreFacts BLOCK_LIMIT rule facts
  pub supposed : has_suppositions facts ≡ true → may_suppose version ≡ true

abbrev pub HasProfile : Version → Parts → Type 0
HasProfile version p = (length p.profile ≡ PROFILE_LENGTH) × AreIn 1 PROFILE_LIMIT p.profile × AreOfVersion version p.rule p.facts

abbrev pub HasBlock : Version → Parts → Type 0
HasBlock version p = HasProfile version p × (1 ≤ length p.block) × (length p.block ≤ BLOCK_LIMIT) × AreInstructions p.block

abbrev pub IsAllowed : Parts → Type 0
IsAllowed p = every (is_leaf_of p) p.vertices ≡ true

abbrev pub HasTree : ℕ → Version → Parts → ℕ → ℕ → Type 0
HasTree most version p left splits =
    HasBlock version p × (p.time ≤ TIME_LIMIT) × (p.bound ≤ TIME_LIMIT) × AreNumbers BLOCK_LIMIT p.numbers × Leave 1 p.vertices left × (splits ≡ split_count p.vertices) × (splits ≤ most) × IsAllowed p

-- what its lines said is in range, by which line comes next
abbrev pub IsPart : ℕ → Version → DocumentPlace → Parts → ℕ → ℕ → Type 0
IsPart most version AtHeader p left splits = Unit {0}
IsPart most version AtProfile p left splits = AreOfVersion version p.rule p.facts
IsPart most version AtBlock p left splits = HasProfile version p
IsPart most version AtInstruction p left splits = HasProfile version p × (1 ≤ left) × (length p.block + left ≤ BLOCK_LIMIT) × AreInstructions p.block
IsPart most version AtTime p left splits = HasBlock version p
IsPart most version AtBound p left splits = HasBlock version p × (p.time ≤ TIME_LIMIT)
IsPart most version AtOrder p left splits = HasBlock version p × (p.time ≤ TIME_LIMIT) × (p.bound ≤ TIME_LIMIT)
IsPart most version AtTree p left splits = (1 ≤ left) × HasTree most version p left splits
IsPart most version AtEnd p left splits = HasTree most version p 0 splits

-- what was read is in range
abbrev pub IsFine : ℕ → DocumentState → Type 0
IsFine most s = AreDocumentsWithin BLOCK_LIMIT most s.documents × IsPart most s.version s.place s.part s.left s.splits
