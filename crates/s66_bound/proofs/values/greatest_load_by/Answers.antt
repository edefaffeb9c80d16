use Rattle.std.proofs.Common.{ℕ, List, [], ◌∷◌, ◌≡◌, max, ap, arith, ◌∙◌}
use Rattle.s66_isa.specs.{Kind, Boolean, Shift, Add, LongAdd, Multiply, Divide, Increment, greatest}
use Rattle.s66_model.specs.{load}
use Rattle.s66_time.specs.{problem_of}
use Rattle.s66_bound.proofs.values.greatest_load_by.Goals as goal

-- one kind more in front
more : (f : Kind → ℕ) (kind : Kind) (kinds : List Kind) (x y z : ℕ) → x ≡ max y z → y ≡ f kind → z ≡ greatest f kinds → x ≡ greatest f (kind ∷ kinds)
more f kind kinds x y z e1 e2 e3 = e1 ∙ ap (λ k. max k z) e2 ∙ ap (max (f kind)) e3

pub returns : goal.returns
returns c =
    let t = c.args.clock.now in
    let f : Kind → ℕ = load (problem_of t) t.numbers in
    let increment : c.load_of-increment.result ≡ greatest f (Increment ∷ []) = omega (arith, c.load_of-increment.ensures) in
    let divide = more f Divide (Increment ∷ []) c.max-divide.result c.load_by.result c.load_of-increment.result c.max-divide.ensures c.load_by.ensures increment in
    let multiply = more f Multiply (Divide ∷ Increment ∷ []) c.max-multiply.result c.load_of.result c.max-divide.result c.max-multiply.ensures c.load_of.ensures divide in
    let long_add = more f LongAdd (Multiply ∷ Divide ∷ Increment ∷ []) c.max-long_add.result c.load_by-2.result c.max-multiply.result c.max-long_add.ensures c.load_by-2.ensures multiply in
    let add = more f Add (LongAdd ∷ Multiply ∷ Divide ∷ Increment ∷ []) c.max-add.result c.load_by-3.result c.max-long_add.result c.max-add.ensures c.load_by-3.ensures long_add in
    let shift = more f Shift (Add ∷ LongAdd ∷ Multiply ∷ Divide ∷ Increment ∷ []) c.max-shift.result c.load_by-4.result c.max-add.result c.max-shift.ensures c.load_by-4.ensures add in
    more f Boolean (Shift ∷ Add ∷ LongAdd ∷ Multiply ∷ Divide ∷ Increment ∷ []) c.max.result c.load_by-5.result c.max-shift.result c.max.ensures c.load_by-5.ensures shift
