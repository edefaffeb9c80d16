use Rattle.s66_model.proofs.AccountLaws.{opened-agrees, agrees-own, agrees-other, agrees-read}
use Rattle.s66_model.proofs.machine.accounts.seat_record_law.Goals as goal

pub returns : goal.returns
returns c = record {
  opened = opened-agrees;
  own = λ rule b budget workers h old new event reply p. agrees-own rule b budget workers h old event reply new p;
  other = λ rule b budget workers h old new event reply p. agrees-other rule b budget workers h old event reply new p;
  read = agrees-read;
}
