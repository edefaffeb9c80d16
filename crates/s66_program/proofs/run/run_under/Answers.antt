use Rattle.std.proofs.Common.{refl, rules, subst, sym}
use Rattle.s66_program.specs.{IsKeptInput}
use Rattle.s66_program.proofs.KeptInput.{whole-output, whole-refusal, whole-remark}
use Rattle.s66_program.proofs.RefusedInput.{refused-input}
use Rattle.s66_program.proofs.run.run_under.Goals as goal

pub returns-in_err-finished : goal.returns-in_err-finished
returns-in_err-finished g c =
    let (input, reads, kept) = c.in_ok-held.ensures.ok in
    let seen = subst (IsKeptInput _ input) (sym c.as_slice.ensures.value) kept in
    refused-input c.args.profile.now c.args.command _ _ _ input input c.in_err-finished.field-0.0 c.from_residual-in_err-finished.result
    reads refl (whole-refusal c.args.command _ input _ c.in_err-finished.field-0.0 c.most_kept.ensures seen c.in_err-finished.ensures.err) c.from_residual-in_err-finished.ensures

pub returns-in-Ok : goal.returns-in-Ok
returns-in-Ok g c =
    let (input, reads, kept) = c.in_ok-held.ensures.ok in
    let seen = subst (IsKeptInput _ input) (sym c.as_slice.ensures.value) kept in
    let whole = whole-output c.args.profile.now c.args.command _ input _ _ _ c.most_kept.ensures seen c.in_ok-finished.ensures.ok in
    let told = whole-remark c.args.profile.now c.args.command _ input _ _ _ _ c.most_kept.ensures seen c.in_ok-finished.ensures.ok c.in_ok-finished.ensures.remark in
    (input, reads, (_, _, whole, search rules, told, c.raised.ensures))

pub returns : goal.returns
returns g c =
    let (input, reads, kept) = c.in_ok-held.ensures.ok in
    let seen = subst (IsKeptInput _ input) (sym c.as_slice.ensures.value) kept in
    let whole = whole-output c.args.profile.now c.args.command _ input _ _ _ c.most_kept.ensures seen c.in_ok-finished.ensures.ok in
    (input, reads, (_, _, whole, search rules))
