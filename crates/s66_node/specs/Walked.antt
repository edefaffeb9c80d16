-- Used by contracts: what they see of a walk: what is timed, and the prefix at which it stands.
use Rattle.std.specs.Prelude.{ℕ, ◌-◌, ◌≡◌, ◌≤◌, List, length, take}
use Rattle.s66_isa.specs.{Instr, BLOCK_LIMIT, has, Set, numbers_in}
use Rattle.s66_model.specs.{all_needs, IsBeginning, ready, Problem}
use Rattle.s66_line.specs.{instrs_of}
use Rattle.s66_time.specs.Ticking.{Ticking}
use Rattle.s66_time.specs.{problem_of}
use Rattle.s66_bound.specs.{AreRanksLeft}
use Rattle.s66_node.specs.declared.walk.ReadyFront.{ReadyFront}

pub record Walked : Type 0 where
  pub problem : Problem
  pub numbers : List ℕ

-- the prefix without its last number
abbrev pub front : List ℕ → List ℕ
front prefix = take (length prefix - 1) prefix

-- it is a front of the prefix, with what is ready after it
pub record IsReadyFront (block : List Instr) (prefix : List ℕ) (f : ReadyFront) : Type 0 where
  pub within : f.count ≤ length prefix
  pub placed : (m : ℕ) → has m (numbers_in f.placed) ≡ has m (take f.count prefix)
  pub ready : numbers_in f.ready ≡ ready block (take f.count prefix)

-- what is true of every walk: its clock, its bounds, its dependences, its numbers, the ranks that remain and the front go together
pub record IsWalked (c : Ticking) (b : Problem) (d : List (List ℕ)) (ns : List ℕ) (left : Set) (f : ReadyFront) : Type 0 where
  pub bounds : b ≡ problem_of c
  pub needs : d ≡ all_needs (instrs_of c.block)
  pub numbers : ns ≡ c.numbers
  pub begins : IsBeginning (instrs_of c.block) c.numbers
  pub few : length (instrs_of c.block) ≤ BLOCK_LIMIT
  pub ranks : AreRanksLeft b c.numbers left
  pub front : IsReadyFront (instrs_of c.block) c.numbers f
