use Rattle.std.proofs.Common.{ℕ, ◌≤◌, ◌<◌, ◌≡◌, List, ltb, ◌⊎◌, ◌∙◌, length, get_or, ap, sym, arith, inl, inr}
use Rattle.s66_checker.specs.Checked.{Checked}
use Rattle.s66_checker.proofs.Earlier.{differ-tells, same-never}
use Rattle.s66_checker.proofs.replay.prefix.Prefix.is_after.Goals.{then-shared-own-via-then-shared-own, then-shared-own-via-else-shared-own+then-shared-numbers}
use Rattle.s66_checker.proofs.replay.prefix.Prefix.is_after.Goals as goal

pub returns-then-shared-own : goal.returns-then-shared-own
returns-then-shared-own c =
    let k = c.shared_with-shared.result in
    let ns = c.args.numbers.now in
    let ms = c.args.self.now.numbers in
    let own : c.as_slice-own.result.now ≡ ms = c.as_slice-own.ensures.value ∙ ap (λ (q : Checked). q.numbers) c.self.view_is in
    let short : (length ns ≤ k) ⊎ (length ms ≤ k) =
    elim c.then-shared-own.branch [
      | then-shared-own-via-then-shared-own w ↦ inr (omega (arith, w.if-shared-own.true, ap (λ (xs : List ℕ). length xs) own))
      | then-shared-own-via-else-shared-own+then-shared-numbers w ↦ inl (omega (arith, w.if-shared-numbers.true))
    ] in
    same-never k ns ms short (sym c.shared_with-shared.ensures.same)

pub returns : goal.returns
returns c =
    let k = c.shared_with-shared.result in
    let ns = c.args.numbers.now in
    let ms = c.args.self.now.numbers in
    let own : c.as_slice-own.result.now ≡ ms = c.as_slice-own.ensures.value ∙ ap (λ (q : Checked). q.numbers) c.self.view_is in
    let within : k < length ns = omega (arith, c.if-shared-numbers.false) in
    let other : k < length ms = omega (arith, c.if-shared-own.false, ap (λ (xs : List ℕ). length xs) own) in
    ap (λ (xs : List ℕ). ltb (get_or ns k 0) (get_or xs k 0)) own
    ∙ differ-tells k ns ms within other (sym c.shared_with-shared.ensures.same) (λ e. c.shared_with-shared.ensures.most other within (sym e))
