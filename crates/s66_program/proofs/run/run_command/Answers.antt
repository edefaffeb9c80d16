use Rattle.std.proofs.Common.{refl, inl, inr}
use Rattle.s66_program.proofs.RefusedInput.{given, untouched}
use Rattle.s66_program.proofs.run.run_command.Goals as goal

pub returns-in_err-profile : goal.returns-in_err-profile
returns-in_err-profile g c =
    inr (c.in_err-profile.field-0.0, given c.from_residual.result _ c.from_residual.ensures.0 c.from_residual.ensures.1, c.in_err-profile.ensures.err, refl, untouched _)

pub returns : goal.returns
returns g c = inl (c.in_ok-profile.profile, c.in_ok-profile.ensures.ok, c.run_under.ensures)
