use Rattle.std.proofs.Common.{ap, sym, ◌∙◌, ◌/◌, ◌^◌, ◌==◌, bit_and}
use Rattle.std.proofs.lemmas.Nat.Bits.{shr_and_one}
use Rattle.s66_isa.proofs.RegisterBits.{has-bit}
use Rattle.s66_isa.proofs.registers.Registers.has.Goals as goal

pub returns : goal.returns
returns c =
    let bits = c.args.self.now.bits in
    ap (λ index. bit_and (bits / 2 ^ index) 1 == 1) c.index.ensures.value
    ∙ (ap (λ bit. bit == 1) (shr_and_one bits _) ∙ sym (has-bit c.args.self.now c.args.register c.index.ensures.digit))
