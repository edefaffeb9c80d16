use Rattle.std.proofs.Common.{ℕ, List, ◌≡◌, ◌∙◌, take, ap, sym, subst}
use Rattle.s66_model.specs.{IsBeginning}
use Rattle.s66_checker.specs.Checked.{Checked}
use Rattle.s66_checker.proofs.GoingTo.{front-begins}
use Rattle.s66_checker.proofs.replay.prefix.Prefix.shared_with.Goals as goal

begins : (q : Checked) (own numbers : List ℕ) (k : ℕ) → IsBeginning q.problem.block q.numbers → own ≡ q.numbers → take k own ≡ take k numbers → IsBeginning q.problem.block (take k numbers)
begins q own numbers k is e same = front-begins q.problem.block q.numbers numbers k is (ap (take k) (sym e) ∙ same)

pub returns-else-own-shared-clause-begins : goal.returns-else-own-shared-clause-begins
returns-else-own-shared-clause-begins c =
    begins c.args.self.now c.as_slice-own.result.now c.args.numbers.now c.loop-shared.shared (subst (λ (p : Checked). IsBeginning p.problem.block p.numbers) c.self.view_is c.self.invariant.begins)
    (c.as_slice-own.ensures.value ∙ ap (λ (p : Checked). p.numbers) c.self.view_is) c.loop-shared.invariant.same

pub returns-after-loop-shared-clause-begins : goal.returns-after-loop-shared-clause-begins
returns-after-loop-shared-clause-begins c =
    begins c.args.self.now c.as_slice-own.result.now c.args.numbers.now c.loop-shared.shared (subst (λ (p : Checked). IsBeginning p.problem.block p.numbers) c.self.view_is c.self.invariant.begins)
    (c.as_slice-own.ensures.value ∙ ap (λ (p : Checked). p.numbers) c.self.view_is) c.loop-shared.invariant.same
