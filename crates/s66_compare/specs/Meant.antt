-- To be believed: what an accepted comparison says of two sources.
use Rattle.std.specs.Prelude.{ℕ, ◌≡◌, List, [], ◌∷◌, Ok, map}
use Rattle.s66_isa.specs.{numbers}
use Rattle.s66_model.specs.{IsLegal, meaning}
use Rattle.s66_line.specs.{Block, constants_in, instrs_of, whole_text_of}
use Rattle.s66_source.specs.{frame_of, Reading, source_of}
use Rattle.s66_compare.specs.Difference.{shapes}
use Rattle.s66_compare.specs.Pairing.{texts_of}

-- the new block has the old one's instructions in a legal order of these
pub record IsReordered (old new : Block) : Type 0 where
  pub order : List ℕ
  pub legal : IsLegal (instrs_of old) order
  pub texts : texts_of new ≡ map (whole_text_of old) order
  -- so it leaves the same in all registers and in memory
  pub meaning : meaning (instrs_of new) (constants_in new) (numbers (instrs_of new)) ≡ meaning (instrs_of old) (constants_in old) (numbers (instrs_of old))

-- each of these blocks, one after the other, and none more
abbrev pub AreReordered : (old new : List Block) → Type 0
AreReordered [] [] = Unit {0}
AreReordered (o ∷ os) (w ∷ ws) = IsReordered o w × AreReordered os ws
AreReordered old new = ⊥

-- each block is the old one in a legal order, and what stands beside the blocks is the same
abbrev pub KeepsSource : (old new : Reading) → Type 0
KeepsSource old new =
    (blocks : List Block) × (again : List Block) × (source_of old ≡ Ok blocks) × (source_of new ≡ Ok again)
    × (AreReordered blocks again × (shapes (frame_of new) ≡ shapes (frame_of old)))
