-- To be believed: which blocks of a source are printed.
use Rattle.std.specs.Prelude.{ℕ, ◌-◌, List, Option, None, Some, drop, take}
use Rattle.s66_line.specs.{Block}

-- all, or the one of this number, from 1, if there is one
abbrev pub shown : Option ℕ → List Block → List Block
shown None blocks = blocks
shown (Some n) blocks = take 1 (drop (n - 1) blocks)

-- how many blocks come before those
abbrev pub before : Option ℕ → ℕ
before None = 0
before (Some n) = n - 1
