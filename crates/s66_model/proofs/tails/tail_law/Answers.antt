use Rattle.std.proofs.Common.{length}
use Rattle.s66_model.proofs.Floors.{some-remains}
use Rattle.s66_model.proofs.Longest.{longest-same, chain-static}
use Rattle.s66_model.proofs.ChainParts.{chain-parts}
use Rattle.s66_model.proofs.LateRegisters.{has-late}
use Rattle.s66_model.proofs.TailTable.{table-step}
use Rattle.s66_model.proofs.tails.tail_law.Goals as goal

pub returns : goal.returns
returns c = record {
  same = λ b prefix n begins stays. longest-same b prefix begins (length b.block) n stays;
  step = table-step;
  heads = chain-static;
  registers = λ b prefix xs begins short late. (let (n, stays) = some-remains b.block prefix begins short in chain-parts b prefix xs n begins stays late);
  late = λ b prefix xs covers begins. has-late b prefix xs covers begins;
}
