use Rattle.std.proofs.Common.{◌+◌, max, sym, ap, ◌∙◌}
use Rattle.s66_isa.specs.{greatest, Write, row}
use Rattle.s66_bound.proofs.cost.cost_of.Goals as goal

pub returns : goal.returns
unfolding row
returns c =
    let r = row c.args.profile.now c.args.instr.now in
    let writes = c.writes_of-writes.ensures in
    record {
      kind = c.kind.ensures;
      parcels = c.parcels.ensures.value;
      writes = writes;
      used = c.used_registers.ensures r (sym (c.as_slice-2.ensures.value ∙ c.reads.ensures)) (sym (c.as_slice-3.ensures.value ∙ writes));
      memory = c.memory.ensures;
      work = ap (λ k. k + 1) c.hold-work.ensures.value;
      tail =
          c.max.ensures
          ∙ (ap (λ k. max (c.hold-work.result + 1) k) (c.greatest_latency-latency.ensures ∙ ap (greatest (λ (w : Write). w.latency)) (c.as_slice.ensures.value ∙ writes))
          ∙ ap (λ k. max (k + 1) (greatest (λ (w : Write). w.latency) r.writes)) c.hold-work.ensures.value);
    }
