-- Used by contracts: a block under a profile, and what is known of it.
use Rattle.std.specs.Prelude.{◌-◌, ◌^◌, ◌≡◌, ◌≤◌, true, List, length}
use Rattle.s66_isa.specs.{BLOCK_LIMIT, Among, Set}
use Rattle.s66_model.specs.{Problem}
use Rattle.s66_moments.specs.{KnownArc, Network, IsTransitive, HasNoRing, Known, is_arc_up, arcs_of}
use Rattle.s66_facts.specs.Marked.{before_in}

-- of each number those that are known to stand before it, and the arcs of loads
pub record Ground : Type 0 where
  pub problem : Problem
  pub marks : List Set
  pub loads : List KnownArc

abbrev pub known_of : Ground → Known
known_of g = record { before = before_in g.marks; loads = g.loads }

abbrev pub ground_arcs : Ground → Network
ground_arcs g = arcs_of g.problem (known_of g)

-- what is known forms no ring
pub record IsAcyclic (g : Ground) : Type 0 where
  pub few : length g.problem.block ≤ BLOCK_LIMIT
  pub count : length g.marks ≡ length g.problem.block
  pub transitive : IsTransitive g.problem (before_in g.marks)
  pub no_ring : HasNoRing g.problem (before_in g.marks)
  pub up : (load : KnownArc) → Among load g.loads → is_arc_up g.problem (before_in g.marks) load.from load.to ≡ true
  pub short : (load : KnownArc) → Among load g.loads → load.wait ≤ 2 ^ 32 - 1
