use Rattle.std.proofs.Common.{List, ℕ, ◌≡◌, ◌+◌, ◌-◌, ◌∙◌, ap, arith, length, max, suc}
use Rattle.s66_isa.specs.{greatest, rising}
use Rattle.s66_line.specs.{instrs_of, text_of}
use Rattle.s66_why.proofs.places.text_width.Goals as goal

pub loop-position-preserved : goal.loop-position-preserved
loop-position-preserved c =
    let block = c.args.block.now in
    let i = c.loop-position.position in
    let size : ℕ → ℕ = λ n. length (text_of block n) in
    let n : length (instrs_of block) - i ≡ suc (length (instrs_of block) - (i + 1)) = omega (arith, c.loop-position-test.true, c.count-position-end.ensures.value) in
    let next : suc (i + 1) ≡ i + 1 + 1 = omega arith in
    let step : greatest size (rising (length (instrs_of block) - i) (i + 1)) ≡ max (size (i + 1)) (greatest size (rising (length (instrs_of block) - (i + 1)) (i + 1 + 1))) =
    ap (λ k. greatest size (rising k (i + 1))) n ∙ ap (λ k. max (size (i + 1)) (greatest size (rising (length (instrs_of block) - (i + 1)) k))) next in
    let same : c.len.result ≡ size (i + 1) = omega (arith, c.len.ensures, ap (λ (xs : List ℕ). length xs) c.text.ensures.value) in
    record {
      value = omega (arith, c.max-width.ensures, same, step, c.loop-position.invariant.value);
      few = omega (arith, c.max-width.ensures, c.len.ensures, c.text.ensures, c.loop-position.invariant.few);
    }
