use Rattle.std.proofs.Common.{◌-◌, ◌==◌, sym, ap, ◌∙◌, arith}
use Rattle.std.proofs.lemmas.Nat.Bits.{shr_and_one}
use Rattle.s66_isa.proofs.SetBits.{has-inside, has-outside, in-low, in-high}
use Rattle.s66_isa.proofs.set.Set.has.Goals as goal

pub returns-then-n-ge1 : goal.returns-then-n-ge1
returns-then-n-ge1 c =
    let set = c.args.self.now in
    let n = c.args.n in
    ap (λ bit. bit == 1) (shr_and_one set.low (n - 1) ∙ sym (in-low set n (omega arith))) ∙ sym (has-inside set n (omega arith) (omega arith))

pub returns-else-n-ge1 : goal.returns-else-n-ge1
returns-else-n-ge1 c = grind (arith, has-outside c.args.self.now c.args.n (grind arith))

pub returns-then-n-le-BLOCK_LIMIT : goal.returns-then-n-le-BLOCK_LIMIT
returns-then-n-le-BLOCK_LIMIT c =
    let set = c.args.self.now in
    let n = c.args.n in
    ap (λ bit. bit == 1) (shr_and_one set.high (n - 65) ∙ sym (in-high set n (omega arith))) ∙ sym (has-inside set n (omega arith) (omega arith))

pub returns-else-n-le-BLOCK_LIMIT : goal.returns-else-n-le-BLOCK_LIMIT
returns-else-n-le-BLOCK_LIMIT c = grind (arith, has-outside c.args.self.now c.args.n (grind arith))
