use Rattle.std.proofs.Common.{◌-◌}
use Rattle.s66_isa.specs.{entries}
use Rattle.s66_isa.proofs.Profiles.{entries-in-range}
use Rattle.s66_isa.proofs.profile.Profile.entries.Goals as goal

-- src/profile.rt:118:5
pub returns-clause-range : goal.returns-clause-range
returns-clause-range c = entries-in-range c.args.self.now
