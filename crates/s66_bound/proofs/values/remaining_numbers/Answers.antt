use Rattle.s66_line.specs.{instrs_of}
use Rattle.s66_time.proofs.RemainingSets.{rest-is}
use Rattle.s66_bound.proofs.values.remaining_numbers.Goals as goal

pub returns : goal.returns
returns c =
    let t = c.args.clock.now in
    record {
      numbers = rest-is (instrs_of t.block) t.numbers c.args.tables.now.all c.pushed.result c.without.result c.pushed.ensures.few c.requires.all c.pushed.ensures.value c.without.ensures;
      begins = c.pushed.ensures.begins;
      few = c.pushed.ensures.few;
    }
