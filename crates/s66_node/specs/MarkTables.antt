-- Used by contracts: what they see of a table of marks, and what is true of each of its entries.
use Rattle.std.specs.Prelude.{ℕ, ◌≡◌, ◌≤◌, List, length, All}
use Rattle.s66_isa.specs.{numbers_in, has, Set}
use Rattle.s66_model.specs.{Problem}
use Rattle.s66_time.specs.{IsMarkOf, Mark}
use Rattle.s66_node.specs.declared.mark_table.MarkEntry.{MarkEntry}
use Rattle.s66_node.specs.declared.mark_table.TheConstants.{TABLE_LIMIT}

pub record MarkTable : Type 0 where
  -- of which the marks are
  pub problem : Problem
  -- the numbers of the beginnings whose marks these are, and maybe others that were forgotten
  pub names : List (List ℕ)

abbrev pub numbers_of : MarkEntry → List ℕ
numbers_of e = e.numbers.items

-- the mark is that of the numbers, and the set has just these
pub record IsEntryOf (b : Problem) (set : Set) (kept : Mark) (numbers : List ℕ) : Type 0 where
  pub mark : IsMarkOf b numbers kept
  pub pushed : (m : ℕ) → has m (numbers_in set) ≡ has m numbers

abbrev pub IsEntry : Problem → MarkEntry → Type 0
IsEntry b e = IsEntryOf b e.pushed e.mark e.numbers.items

pub record AreEntries (b : Problem) (entries : List MarkEntry) : Type 0 where
  pub few : length entries ≤ TABLE_LIMIT
  pub each : All (IsEntry b) entries
