use Rattle.std.proofs.Common.{ℕ, ◌+◌, ◌≡◌, Bool, Option, min, length, ◌∙◌, ap, sym, subst, arith, filter}
use Rattle.s66_isa.specs.{least, rising}
use Rattle.s66_model.specs.{is_remaining, if_last}
use Rattle.s66_checker.proofs.NumbersInTurn.{IsLeast, least_first, least_other, least_passed}
use Rattle.s66_checker.proofs.leaf.parcels.Goals.{then-is_remaining+in-None, then-is_remaining+in-Some, else-is_remaining}
use Rattle.s66_checker.proofs.leaf.parcels.Goals as goal

pub loop-position-preserved : goal.loop-position-preserved
loop-position-preserved c =
    let b = c.args.prefix.now.problem in
    let p = c.loop-position.position in
    let test : ℕ → Bool = is_remaining b.block c.args.prefix.now.numbers in
    let f : ℕ → ℕ = if_last b c.args.prefix.now.numbers in
    let inv = c.loop-position.invariant in
    elim c.if-is_remaining.branch [
      | then-is_remaining+in-None w ↦
          subst (λ (o : Option ℕ). IsLeast f (filter test (rising (p + 1) 1)) o) (sym w.least-is)
          (least_first test f p w.if_last-end.result (subst (λ (o : Option ℕ). IsLeast f (filter test (rising p 1)) o) w.in-None.is inv) (sym c.is_remaining.ensures ∙ w.if-is_remaining.true) w.if_last-end.ensures)
      | then-is_remaining+in-Some w ↦
          subst (λ (o : Option ℕ). IsLeast f (filter test (rising (p + 1) 1)) o) (sym w.least-is)
          (least_other test f p w.in-Some.other w.min.result (subst (λ (o : Option ℕ). IsLeast f (filter test (rising p 1)) o) w.in-Some.is inv) (sym c.is_remaining.ensures ∙ w.if-is_remaining.true) (w.min.ensures ∙ ap (λ e. min e w.in-Some.other) w.if_last-end.ensures))
      | else-is_remaining w ↦
          subst (λ (o : Option ℕ). IsLeast f (filter test (rising (p + 1) 1)) o) (sym w.least-is)
          (least_passed test f p c.loop-position.least inv (sym c.is_remaining.ensures ∙ w.if-is_remaining.false))
    ]

pub returns-in-None-least : goal.returns-in-None-least
returns-in-None-least c =
    let b = c.args.prefix.now.problem in
    let test : ℕ → Bool = is_remaining b.block c.args.prefix.now.numbers in
    let f : ℕ → ℕ = if_last b c.args.prefix.now.numbers in
    let all : c.loop-position.position ≡ length b.block = omega (arith, c.count-position-end.ensures.value) in
    let none = subst (λ (o : Option ℕ). IsLeast f (filter test (rising c.loop-position.position 1)) o) c.in-None-least.is c.loop-position.invariant in
    sym (ap (λ k. least f (filter test (rising k 1))) (sym all) ∙ ap (least f) none)

pub returns-in-Some-least : goal.returns-in-Some-least
returns-in-Some-least c =
    let b = c.args.prefix.now.problem in
    let test : ℕ → Bool = is_remaining b.block c.args.prefix.now.numbers in
    let f : ℕ → ℕ = if_last b c.args.prefix.now.numbers in
    let all : c.loop-position.position ≡ length b.block = omega (arith, c.count-position-end.ensures.value) in
    let some = subst (λ (o : Option ℕ). IsLeast f (filter test (rising c.loop-position.position 1)) o) c.in-Some-least.is c.loop-position.invariant in
    some.1 ∙ ap (λ k. least f (filter test (rising k 1))) all
