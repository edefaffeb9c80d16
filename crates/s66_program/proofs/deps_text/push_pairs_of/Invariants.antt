use Rattle.std.proofs.Common.{ℕ, ◌≡◌, ◌++◌, flat_map, length}
use Rattle.s66_isa.specs.{numbers_in, Among}
use Rattle.s66_model.specs.{needs}
use Rattle.s66_line.specs.{instrs_of}
use Rattle.s66_why.specs.{IsOf}
use Rattle.s66_program.specs.{pair_line}
use Rattle.s66_program.proofs.deps_text.push_pairs_of.Given as goal

abbrev pub invariant-loop-earlier : goal.invariant-loop-earlier
invariant-loop-earlier l = record {
  text : l.out.items ++ flat_map (pair_line l.block l.later) (numbers_in l.rest) ≡ l.fn.out.items ++ flat_map (pair_line l.block l.later) (needs (instrs_of l.block) l.later);
  within : (m : ℕ) → Among m (numbers_in l.rest) → IsOf l.block m;
}

abbrev pub decreases-loop-earlier : goal.decreases-loop-earlier
decreases-loop-earlier l = length (numbers_in l.rest)
