-- Used by contracts within the crate alone: what the words of a past are, by its points, the oldest first.
use Rattle.std.specs.Prelude.{ℕ, ◌+◌, ◌≡◌, ◌≤◌, ◌<◌, if◌then◌else◌, List, length, take, get_or}
use Rattle.s66_isa.specs.{Kind, greatest, tally, word_of, kind_number, memory_pair}
use Rattle.s66_isa.specs.declared.instr.Memory.TheVariants as memory
use Rattle.s66_isa.specs.Table.{Reg}
use Rattle.s66_model.specs.{Point, busy_at, done_of, readers_wait, total}
use Rattle.s66_checker.specs.declared.replay.words.FreeTimes.{FreeTimes}
use Rattle.s66_checker.specs.declared.replay.words.Words.{Words}

-- of the units that are busy at t, none is left, and one at most, from these times on and no sooner
pub record AreFree (busy : ℕ → ℕ) (f : FreeTimes) : Type 0 where
  pub none : (t : ℕ) → f.all ≤ t → busy t ≡ 0
  pub some : (t : ℕ) → t < f.all → 1 ≤ busy t
  pub one : (t : ℕ) → f.all_but_one ≤ t → busy t ≤ 1
  pub two : (t : ℕ) → t < f.all_but_one → 2 ≤ busy t

abbrev pub never_busy : FreeTimes
never_busy = record { all = 0; all_but_one = 0 }

pub record AreWords (xs : List Point) (w : Words) : Type 0 where
  pub done : (r : Reg) → r.digit ≤ 7 → word_of w.done.words r ≡ done_of xs r
  pub read : (r : Reg) → r.digit ≤ 7 → word_of w.read.words r ≡ readers_wait xs r
  pub free : (kind : Kind) → AreFree (λ t. tally (busy_at kind t) xs) (get_or w.free (kind_number kind) never_busy)
  pub load : w.load ≡ greatest (λ (p : Point). if memory_pair p.row.memory memory.Load then p.start + 1 else 0) xs
  pub store : w.store ≡ greatest (λ (p : Point). if memory_pair p.row.memory memory.Store then p.start + 1 else 0) xs
  pub total : w.total ≡ total xs

-- the words of all points, and those before each of them
pub record ArePast (xs : List Point) (words : Words) (before : List Words) : Type 0 where
  pub now : AreWords xs words
  pub count : length before ≡ length xs
  pub each : (i : ℕ) (d : Words) → i < length xs → AreWords (take i xs) (get_or before i d)
