use Rattle.std.proofs.Common.{◌≡◌, ◌+◌, ◌-◌, ◌++◌, ◌∙◌, [], ◌∷◌, ap, append_assoc, arith, replicate, suc, sym}
use Rattle.s66_why.proofs.places.push_blanks.Goals as goal

pub loop-done-preserved : goal.loop-done-preserved
loop-done-preserved c =
    let out = c.loop-done.out.items in
    let left = replicate (c.args.count - (c.loop-done.done + 1)) 32 in
    let n : c.args.count - c.loop-done.done ≡ suc (c.args.count - (c.loop-done.done + 1)) = omega (arith, c.loop-done-test.true) in
    ap (λ xs. xs ++ left) c.in_ok-push.ensures.items ∙ append_assoc out (32 ∷ []) left ∙ sym (ap (λ k. out ++ replicate k 32) n) ∙ c.loop-done.invariant
