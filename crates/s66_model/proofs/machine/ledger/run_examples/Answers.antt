use Rattle.std.proofs.Common.{rules, refl}
use Rattle.s66_isa.specs.{row}
use Rattle.s66_model.specs.{issue_of, start_of, point, conflict, Open, Out, first_node, root_split}
use Rattle.s66_model.proofs.LegalOrders.{order-legal}
use Rattle.s66_model.proofs.machine.ledger.run_examples.Goals as goal

-- the state after each event, and why it is that
pub returns-clause-events : goal.returns-clause-events
unfolding row issue_of start_of point conflict
returns-clause-events c = (
  first_node Open,
  search rules,
  (
    first_node Out,
    search rules,
    (
      root_split Open Open Open,
      search rules,
      (
        root_split Open Open Open,
        search rules,
        (
          root_split Open Open Open,
          search (rules, order-legal),
          (root_split Open Open Open, search rules, (root_split Open Out Open, search rules, refl)),
        ),
      ),
    ),
  ),
)
