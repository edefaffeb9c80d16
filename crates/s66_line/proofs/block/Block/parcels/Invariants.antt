use Rattle.std.proofs.Common.{◌≡◌, ◌≤◌, ◌+◌, ◌*◌, drop, map}
use Rattle.s66_isa.specs.{weigh, parcels_of, Instr}
use Rattle.s66_line.specs.{Entry, instrs_of}
use Rattle.s66_line.proofs.block.Block.parcels.Given as goal

-- the parcels so far, and then those of the rest, are those of all
abbrev pub invariant-loop-entry : goal.invariant-loop-entry
invariant-loop-entry l = record {
  rest : l.sum + weigh (λ (n : Instr). parcels_of n.op.code) (map (λ (e : Entry). e.instr) (drop l.entry-index l.self.entries)) ≡ weigh (λ (n : Instr). parcels_of n.op.code) (instrs_of l.self);
  few : l.sum ≤ 2 * l.entry-index;
}
