use Rattle.std.proofs.Common.{◌++◌, ◌∷◌, ◌||◌, [], ap, sym, ◌∙◌, take}
use Rattle.std.proofs.lemmas.List.{take_more}
use Rattle.std.proofs.Math.Bool.{or_comm, or-false}
use Rattle.s66_isa.specs.{same_reg, has_reg}
use Rattle.s66_isa.proofs.SameRegister.{has_reg-append}
use Rattle.s66_isa.proofs.registers.Registers.of.Goals as goal

pub loop-register-preserved : goal.loop-register-preserved
loop-register-preserved c = λ r.
    let registers = c.args.registers.now in
    let i = c.loop-register.register-index in
    let x = c.register-item.result in
    c.with-set.ensures r
    ∙ (ap (λ t. same_reg r x || t) (c.loop-register.invariant r)
    ∙ (or_comm (same_reg r x) (has_reg r (take i registers))
    ∙ (ap (λ t. has_reg r (take i registers) || t) (sym (or-false (same_reg r x)))
    ∙ (sym (has_reg-append r (take i registers) (x ∷ []))
    ∙ sym (ap (has_reg r) (take_more registers i x c.loop-register-test.true ∙ ap (λ y. take i registers ++ y ∷ []) (sym c.register-item.is)))))))
