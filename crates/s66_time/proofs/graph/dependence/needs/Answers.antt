use Rattle.std.proofs.Common.{ℕ, Bool, ◌≡◌, ◌∙◌, ◌+◌, ◌||◌, eqb, ap, sym, subst, arith, length}
use Rattle.s66_isa.specs.{has, instr_at, Set, numbers_in}
use Rattle.s66_isa.proofs.Sets.{numbers_in-filter, within-all, within-none, within-push, within-pass}
use Rattle.s66_model.specs.{depends}
use Rattle.s66_time.specs.declared.graph.effects.Effects.{Effects}
use Rattle.s66_time.specs.{AreEffects}
use Rattle.s66_time.proofs.Conflicts.{conflict-is}
use Rattle.s66_time.proofs.Readiness.{depends-later, depends-conflict}
use Rattle.s66_time.proofs.graph.dependence.needs.Goals.{then-is_conflict, else-is_conflict}
use Rattle.s66_time.proofs.graph.dependence.needs.Goals as goal

pub loop-position-init : goal.loop-position-init
loop-position-init c = λ block kept last m.
    ap (has m) c.empty-needs.ensures ∙ sym (within-none (λ a. depends block a (length c.args.earlier.now + 1)) m)

pub loop-position-preserved : goal.loop-position-preserved
loop-position-preserved c = λ block kept last m.
    let i = c.loop-position.position in
    let n = length c.args.earlier.now + 1 in
    let e = c.index-earlier-position.result in
    let of_e : AreEffects e (instr_at block (i + 1)) =
    subst (λ (x : Effects). AreEffects x (instr_at block (i + 1))) (sym c.index-earlier-position.is) (kept i e c.loop-position-test.true) in
    let depends-is : c.is_conflict.result ≡ depends block (i + 1) n =
    c.is_conflict.ensures
    ∙ (conflict-is e c.args.later.now (instr_at block (i + 1)) (instr_at block n) of_e last
    ∙ sym (depends-conflict block (i + 1) n (omega arith))) in
    elim c.if-is_conflict.branch [
      | then-is_conflict w ↦
          ap (λ (s : Set). has m (numbers_in s)) w.needs-is
          ∙ (w.with-needs.ensures m
          ∙ (ap (λ b. eqb m (i + 1) || b) (c.loop-position.invariant block kept last m)
          ∙ within-push (λ a. depends block a n) (i + 1) m (omega arith) (sym depends-is ∙ w.if-is_conflict.true)))
      | else-is_conflict w ↦
          ap (λ (s : Set). has m (numbers_in s)) w.needs-is
          ∙ (c.loop-position.invariant block kept last m
          ∙ within-pass (λ a. depends block a n) (i + 1) m (sym depends-is ∙ w.if-is_conflict.false))
    ]

pub returns : goal.returns
returns c = λ block inside few kept last.
    let n = length c.args.earlier.now + 1 in
    let test : ℕ → Bool = λ m. depends block m n in
    numbers_in-filter c.loop-position.needs test (length block) (omega (arith, few))
    (λ m. c.loop-position.invariant block kept last m ∙ within-all test (c.loop-position.position + 1) (length block + 1) m (omega (arith, inside)) (λ a past. depends-later block n a (omega arith)))
