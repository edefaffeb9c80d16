-- To be believed: what `guard` writes for a source, and how it ends.
use Rattle.std.specs.Prelude.{ℕ, ◌≡◌, List, Ok}
use Rattle.s66_line.specs.{Block}
use Rattle.s66_source.specs.{Reading, source_of}
use Rattle.s66_lint.specs.{IsGuard}
use Rattle.s66_answer.specs.{Status, Done}

-- the source is accepted, and written with switches around some regions of its lines
abbrev pub IsGuardOutput : (source : Reading) (text : List ℕ) → Status → Type 0
IsGuardOutput source text status =
    (blocks : List Block) × (source_of source ≡ Ok blocks) × ((regions : ℕ) × (lines : ℕ) × IsGuard source.text text regions lines) × (status ≡ Done)
