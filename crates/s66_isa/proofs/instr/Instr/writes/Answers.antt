use Rattle.std.proofs.Common.{◌≡◌, ◌≤◌, ◌∙◌, ℕ, List, ap, sym, map, subst, take_all}
use Rattle.s66_isa.specs.{greatest, register_latency, writes_of}
use Rattle.s66_isa.specs.Table.{Reg}
use Rattle.s66_isa.proofs.Writes.{row-writes, writes-most}
use Rattle.s66_isa.proofs.instr.Instr.writes.Goals.{After-loop-write}
use Rattle.s66_isa.proofs.instr.Instr.writes.Goals as goal

made : (c : After-loop-write) → c.loop-write.pairs.items ≡ writes_of c.args.profile.now c.args.self.now
made c =
    c.loop-write.invariant
    ∙ (ap (map register_latency) (take_all c.loop-write.write-index c.as_slice-write-items.result.now c.loop-write-test.false ∙ (c.as_slice-write-items.ensures.value ∙ c.writes_of.ensures))
    ∙ row-writes c.args.profile.now c.args.self.now)

pub returns : goal.returns
returns c = record {
  value = made c;
  at_most = subst (λ (ws : List (Reg × ℕ)). greatest (λ (w : Reg × ℕ). w.1) ws ≤ 100) (sym (made c)) (writes-most c.args.profile.now c.args.self.now);
}
