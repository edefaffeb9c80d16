-- The fields that a machine of `src/machine.rt` stores are a ledger of the definition.
use Rattle.s66_line.specs.{instrs_of}
use Rattle.s66_ledger.specs.{Inside, Stored}

abbrev pub stored_of : Inside → Stored
stored_of m =
    record {
      rule = m.rule;
      problem = record { block = instrs_of m.block.now; profile = m.profile };
      budget = m.budget;
      nodes = m.table;
      source = m.source;
      best = m.best;
      left = m.left;
      allowances = m.allowances.items;
      spent = m.spent;
    }
