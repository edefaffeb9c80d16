use Rattle.std.proofs.Common.{ℕ, ◌-◌, ◌≤◌, ◌≡◌, ◌∙◌, List, length, take, drop, arith, ap, take_all, length-drop}
use Rattle.s66_checker.specs.Checked.{Checked}
use Rattle.s66_checker.specs.{is_beginning_after}
use Rattle.s66_checker.proofs.GoingTo.{front-goes, front-alone}
use Rattle.s66_checker.proofs.replay.prefix.Prefix.go_to.Goals as goal

pub loop-n-init : goal.loop-n-init
loop-n-init c =
    let block = c.args.self.now.problem.block in
    let ms = c.args.numbers.now in
    let k = c.shared_with-shared.result in
    let few : length c.loop-self.self.numbers ≤ k = omega (arith, c.loop-self-test.false, c.len.ensures.value, ap (λ (q : Checked). length q.numbers) c.self-in-loop-self.view_is) in
    let alone : c.loop-self.self.numbers ≡ take k ms = front-alone k c.loop-self.self.numbers ms few c.loop-self.invariant.same in
    let rest : take (length ms - k) (drop k ms) ≡ drop k ms = take_all (length ms - k) (drop k ms) (omega (arith, length-drop k ms)) in
    record {
      problem = c.loop-self.invariant.problem;
      numbers = alone ∙ ap (λ i. take i ms) (omega arith);
      rest = ap (λ (ns : List ℕ). is_beginning_after block ns (take (length ms - k) (drop k ms))) alone ∙ ap (is_beginning_after block (take k ms)) rest ∙ front-goes block ms k c.shared_with-shared.ensures.begins;
    }
