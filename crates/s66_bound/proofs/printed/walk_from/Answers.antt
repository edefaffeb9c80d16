use Rattle.std.proofs.Common.{ℕ, List, ◌≡◌, ◌∷◌, ◌++◌, [], true, length, length-append, append_assoc, refl, sym, subst, ap, arith, inl, inr, ◌∙◌, append-nil}
use Rattle.s66_isa.specs.{Among, numbers_in}
use Rattle.s66_model.proofs.WalkOver.{goes_on, walk_over, over-on, over-past, goes-parts, pass-walks}
use Rattle.s66_bound.proofs.printed.walk_from.Goals as goal

pub goes_on-requires-clause-numbers : goal.goes_on-requires-clause-numbers
goes_on-requires-clause-numbers c =
    let here = c.loop-number.invariant.within c.in-Some.number (subst (λ ns. Among c.in-Some.number ns) (sym c.in-Some.ensures.some) (inl refl)) in
    (c.loop-number.invariant.range.0, c.loop-number.invariant.range.1, here.0, here.1)

pub push-requires-then-goes_on : goal.push-requires-then-goes_on
push-requires-then-goes_on c =
    let (b, costs, tables) = c.requires.known in
    let here = c.loop-number.invariant.within c.in-Some.number (subst (λ ns. Among c.in-Some.number ns) (sym c.in-Some.ensures.some) (inl refl)) in
    let on : goes_on b c.loop-number.last c.in-Some.number ≡ true = sym (c.if-goes_on.ensures b costs tables) in
    let (past, keeps_it, lt) = goes-parts b c.loop-number.last c.in-Some.number on in
    (omega arith, omega (arith, c.loop-number.invariant.few, lt, here.1, c.requires.few))

pub loop-number-preserved-then-goes_on : goal.loop-number-preserved-then-goes_on
loop-number-preserved-then-goes_on c =
    let (b, costs, tables) = c.requires.known in
    let n : ℕ = c.in-Some.number in
    let here = c.loop-number.invariant.within n (subst (λ ns. Among n ns) (sym c.in-Some.ensures.some) (inl refl)) in
    let (past, keeps_it, lt) = goes-parts b c.loop-number.last n (sym (c.if-goes_on.ensures b costs tables)) in
    let numbers : List ℕ = c.loop-number.numbers.items in
    let left : List ℕ = numbers_in c.pop_first.new.self in
    record {
      range = here;
      few = omega (arith, ap length c.push-then-goes_on.ensures.items, length-append numbers (n ∷ []), c.loop-number.invariant.few, lt);
      within = λ m among. c.loop-number.invariant.within m (subst (λ ns. Among m ns) (sym c.in-Some.ensures.some) (inr among));
      walked = λ p are is.
          ap (λ ns. ns ++ walk_over p n left) c.push-then-goes_on.ensures.items
          ∙ (append_assoc numbers (n ∷ []) (walk_over p n left)
          ∙ (ap (λ ns. numbers ++ ns) (sym (over-on p c.loop-number.last n left (sym (c.if-goes_on.ensures p are is))))
          ∙ (ap (λ ns. numbers ++ walk_over p c.loop-number.last ns) (sym c.in-Some.ensures.some)
          ∙ c.loop-number.invariant.walked p are is)));
    }

pub loop-number-preserved : goal.loop-number-preserved
loop-number-preserved c =
    let n : ℕ = c.in-Some.number in
    let numbers : List ℕ = c.loop-number.numbers.items in
    let left : List ℕ = numbers_in c.pop_first.new.self in
    record {
      range = c.loop-number.invariant.range;
      few = c.loop-number.invariant.few;
      within = λ m among. c.loop-number.invariant.within m (subst (λ ns. Among m ns) (sym c.in-Some.ensures.some) (inr among));
      walked = λ p are is.
          ap (λ ns. numbers ++ ns) (sym (over-past p c.loop-number.last n left (sym (c.if-goes_on.ensures p are is))))
          ∙ (ap (λ ns. numbers ++ walk_over p c.loop-number.last ns) (sym c.in-Some.ensures.some)
          ∙ c.loop-number.invariant.walked p are is);
    }

pub returns : goal.returns
returns c = λ b prefix are is begins rest stays.
    sym (append-nil c.loop-number.numbers.items)
    ∙ (ap (λ ns. c.loop-number.numbers.items ++ walk_over b c.loop-number.last ns) (sym c.in_default.ensures.none)
    ∙ (c.loop-number.invariant.walked b are is
    ∙ (ap (λ ns. c.args.first ∷ walk_over b c.args.first ns) rest
    ∙ ap (λ ns. c.args.first ∷ ns) (pass-walks b prefix begins c.args.first stays))))
