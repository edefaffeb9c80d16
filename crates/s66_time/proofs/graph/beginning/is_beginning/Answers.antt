use Rattle.std.proofs.Common.{length, eqb-true, eq-eqb}
use Rattle.s66_model.proofs.Beginnings.{beginning-front, front-beginning}
use Rattle.s66_line.specs.{instrs_of}
use Rattle.s66_time.proofs.LongestBeginning.{all-front, front-all}
use Rattle.s66_time.proofs.graph.beginning.is_beginning.Goals as goal

pub returns : goal.returns
returns c =
    let block = instrs_of c.args.block.now in
    let ns = c.args.numbers.now in
    let count = c.beginning_length.result in
    record {
      front =
          let longest = c.beginning_length.ensures.front in
          (λ is. all-front block ns count longest (eqb-true count (length ns) is), λ h. eq-eqb count (length ns) (front-all block ns count longest h));
      beginning =
          let longest = c.beginning_length.ensures.front in (
            λ is. front-beginning block ns (all-front block ns count longest (eqb-true count (length ns) is)),
            λ h. eq-eqb count (length ns) (front-all block ns count longest (beginning-front block ns h)),
          );
    }
