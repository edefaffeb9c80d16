-- No result of an instruction is done after its last one.
use Rattle.std.proofs.Common.{◌≤◌, cond, arith}
use Rattle.std.proofs.lemmas.Bool.{cond_both}
use Rattle.s66_isa.specs.{Reg, greatest, same_reg}
use Rattle.s66_isa.proofs.Lists.{greatest-le-greatest}
use Rattle.s66_model.specs.{Point, ResultAt, done_at}

pub done-le-last : (r : Reg) (p : Point) → done_at p r ≤ greatest (λ (d : ResultAt). d.time) p.results
done-le-last r p =
    greatest-le-greatest (λ (d : ResultAt). cond (same_reg d.reg r) d.time 0) (λ (d : ResultAt). d.time)
    (λ d. cond_both (same_reg d.reg r) d.time 0 (λ x. x ≤ d.time) (λ _. omega arith) (λ _. omega arith)) p.results
