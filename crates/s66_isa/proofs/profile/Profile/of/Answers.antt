use Rattle.std.proofs.Common.{arith, ◌-◌}
use Rattle.s66_isa.proofs.Profiles.{profile-of-its-numbers}
use Rattle.s66_isa.proofs.profile.Profile.of.Goals as goal

-- src/profile.rt:70:5
pub returns-clause-some : goal.returns-clause-some
returns-clause-some c = profile-of-its-numbers _ c.args.numbers.now (omega (arith, c.type_inv.numbers.1.1.1)) c.from.ensures c.from-2.ensures c.from-3.ensures c.from-4.ensures c.from-5.ensures c.from-6.ensures c.from-7.ensures c.from-8.ensures c.from-9.ensures c.from-10.ensures c.from-11.ensures c.from-12.ensures c.from-13.ensures c.from-14.ensures c.from-15.ensures c.from-16.ensures c.from-17.ensures
