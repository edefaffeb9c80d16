use Rattle.std.proofs.Common.{rules, ℕ, List, [], ◌≡◌, ◌<◌, ◌+◌, ◌-◌, ◌^◌, ◌∙◌, length, get_or, ap, arith}
use Rattle.s66_isa.proofs.Sets.{numbers_in-few}
use Rattle.s66_program.proofs.Dependences.{weigh-drop}
use Rattle.s66_program.proofs.deps_text.pairs.Goals as goal

pub overflow_add-sum : goal.overflow_add-sum
overflow_add-sum c =
    let below : c.loop-position.sum + c.count-sum.result < 2 ^ 32 = omega (arith, numbers_in-few c.needs.result) in
    search rules

pub loop-position-preserved : goal.loop-position-preserved
loop-position-preserved c =
    let i = c.loop-position.position in
    let sets = c.args.dependences.now in
    let place : i + 1 - 1 ≡ i = omega arith in
    let counted : c.count-sum.result ≡ length (get_or sets i []) = c.count-sum.ensures ∙ (ap (λ (ns : List ℕ). length ns) c.needs.ensures ∙ ap (λ k. length (get_or sets k [])) place) in
    record { sum = omega (arith, counted, weigh-drop (λ (ns : List ℕ). length ns) sets i [] (omega arith)); few = omega (arith, numbers_in-few c.needs.result) }
