use Rattle.std.proofs.Common.{refl}
use Rattle.s66_model.specs.{worker}
use Rattle.s66_model.proofs.AccountLaws.{account-own, account-other, events-few, accounts-spent}
use Rattle.s66_model.proofs.machine.accounts.account_law.Goals as goal

pub returns : goal.returns
returns c = record {
  own = λ history event reply. account-own history event reply (worker event) refl;
  other = account-other;
  few = events-few;
  splits = accounts-spent;
}
