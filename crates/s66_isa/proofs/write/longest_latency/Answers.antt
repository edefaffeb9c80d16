use Rattle.std.proofs.Common.{◌≡◌, ◌∙◌, [], ap, sym, arith, inl, inr}
use Rattle.s66_isa.specs.{Memory, loaded_registers, memory_of}
use Rattle.s66_isa.proofs.Writes.{loaded-latency, unloaded-latency}
use Rattle.s66_isa.proofs.write.longest_latency.Goals.{In-None}
use Rattle.s66_isa.proofs.write.longest_latency.Goals as goal

pub returns-in-Load-clause-value : goal.returns-in-Load-clause-value
returns-in-Load-clause-value c =
    omega (arith, loaded-latency c.args.profile.now c.args.instr.now (sym c.memory.ensures ∙ c.in-Load.is), c.hold-hold.ensures.value, c.max.ensures)

fetches-none : (c : In-None) → loaded_registers (memory_of c.args.instr.now) c.args.instr.now ≡ []
fetches-none c = elim c.in-None.is [
  | inl none ↦ ap (λ (m : Memory). loaded_registers m c.args.instr.now) (sym c.memory.ensures ∙ none)
  | inr store ↦ ap (λ (m : Memory). loaded_registers m c.args.instr.now) (sym c.memory.ensures ∙ store)
]

pub returns-in-None : goal.returns-in-None
returns-in-None c = record {
  value = c.hold-hold.ensures.value ∙ sym (unloaded-latency c.args.profile.now c.args.instr.now (fetches-none c));
  at_most = c.hold-hold.ensures.at_most;
}
