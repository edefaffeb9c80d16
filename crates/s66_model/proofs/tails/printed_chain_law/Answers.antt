use Rattle.s66_model.proofs.Floors.{some-remains}
use Rattle.s66_model.proofs.Longest.{links_from-static}
use Rattle.s66_model.proofs.PrintedChain.{longest-enough, walk-static, longest_chain-static}
use Rattle.s66_model.proofs.tails.printed_chain_law.Goals as goal

pub returns : goal.returns
returns c = record {
  tails = λ b prefix links n begins stays few. longest-enough b prefix links n begins stays few;
  links = λ b prefix n begins stays. links_from-static b prefix n begins stays;
  walk = λ b prefix links n begins stays few. walk-static b prefix begins links n stays few;
  chain = λ b prefix begins short. (let (n, stays) = some-remains b.block prefix begins short in longest_chain-static b prefix begins n stays);
}
