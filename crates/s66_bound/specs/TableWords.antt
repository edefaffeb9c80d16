-- Used by contracts within the crate alone: what the tables of a block hold.
use Rattle.std.specs.Prelude.{ℕ, ◌+◌, ◌-◌, ◌≡◌, ◌≤◌, ◌<◌, ◌==◌, Bool, true, List, length, get_or, filter}
use Rattle.s66_isa.specs.{Profile, Kind, Among, weigh, kind_number, numbers, index_of, BLOCK_LIMIT, Set, numbers_in, no_set}
use Rattle.s66_isa.specs.Table.{Reg}
use Rattle.s66_model.specs.{Problem, row_at, remaining, IsBeginning, uses, work_of, longest_tail, spare, HasWritten, HasWords}
use Rattle.s66_line.specs.{Block, instrs_of}
use Rattle.s66_time.specs.Ticking.{Ticking}
use Rattle.s66_bound.specs.declared.tables.Tables.{Tables}
use Rattle.s66_bound.specs.LeastWords.{AreEnds}
use Rattle.s66_bound.specs.Ranks.{IsRanking, AreRanks}

abbrev pub timed_by : Block → Profile → Problem
timed_by block profile = record { block = instrs_of block; profile = profile }

-- the words of the numbers after a place are their longest tails
abbrev pub HasLater : Problem → ℕ → List ℕ → Type 0
HasLater b place words = (n : ℕ) → place + 1 < n → n ≤ length b.block → get_or words (n - 1) 0 ≡ longest_tail b n

-- the numbers of the block that pass
abbrev pub AreThose : Problem → (ℕ → Bool) → Set → Type 0
AreThose b test set = numbers_in set ≡ filter test (numbers b.block)

-- of each kind, for how long the instructions take a unit
abbrev pub HasWorks : Problem → List ℕ → Type 0
HasWorks b words = (kind : Kind) → get_or words (kind_number kind) 0 ≡ weigh (λ n. work_of kind (row_at b n)) (numbers b.block)

-- one unit of each kind of which the standard machine has one
pub record HasSingles (p : Profile) : Type 0 where
  pub boolean : p.units_boolean ≡ 1
  pub shift : p.units_shift ≡ 1
  pub add : p.units_add ≡ 1
  pub longadd : p.units_longadd ≡ 1
  pub divide : p.units_divide ≡ 1

-- the ranks of what reads or writes each register
abbrev pub HasUsers : Problem → List Set → Type 0
HasUsers b sets = (x : Reg) → x.digit ≤ 7 → AreRanks b (λ n. uses (row_at b n) x) (get_or sets (index_of x) no_set)

-- each is a register of the machine
abbrev pub AreRegisters : List Reg → Type 0
AreRegisters xs = (x : Reg) → Among x xs → x.digit ≤ 7

-- the tables of a block under a profile
pub record IsTables (b : Problem) (t : Tables) : Type 0 where
  pub few : length b.block ≤ BLOCK_LIMIT
  pub all : numbers_in t.all ≡ numbers b.block
  pub long : AreThose b (λ n. (row_at b n).parcels == 2) t.long
  pub longest : HasWords b (longest_tail b) t.longest
  pub spare : HasWords b (spare b) t.spare
  pub ranking : IsRanking b t.by_tail
  pub ends : AreEnds t.spare (length b.block) t.ends
  pub works : HasWorks b t.works
  pub singles : t.has_singles ≡ true → HasSingles b.profile
  pub users : HasUsers b t.users_by_rank
  pub written : HasWritten b t.written.items
  pub registers : AreRegisters t.written.items

-- the set holds what a clock hasn't pushed of its block
pub record AreRemaining (t : Ticking) (rest : Set) : Type 0 where
  pub numbers : numbers_in rest ≡ remaining (instrs_of t.block) t.numbers
  pub begins : IsBeginning (instrs_of t.block) t.numbers
  pub few : length (instrs_of t.block) ≤ BLOCK_LIMIT
