use Rattle.std.proofs.Common.{◌≤◌, subst, sym}
use Rattle.s66_model.specs.{Problem, best_time, allowance}
use Rattle.s66_node.specs.{tree_of, IsBestTimed}
use Rattle.s66_ledger.specs.{piece_splits, IsWithinRound, IsTaken}
use Rattle.s66_ledger.proofs.Leading.{leads-on}
use Rattle.s66_ledger.proofs.Rounds.{offer-within, graft-between}
use Rattle.s66_ledger.proofs.TimedWholes.{least-timed}
use Rattle.s66_ledger.proofs.Progress.{piece_splits-some, expansion-gains, taken-less}
use Rattle.s66_ledger.proofs.ledger.Ledger.take_in.Goals as goal

pub returns-in_err-graft_within-clause-leads : goal.returns-in_err-graft_within-clause-leads
returns-in_err-graft_within-clause-leads c =
    leads-on c.args.self.now c.offer_best.new.self c.graft_within.new.self c.offer_best.ensures.offers.leads c.graft_within.ensures.leads

pub returns : goal.returns
returns c =
    let old = c.args.self.now in
    let mid = c.offer_best.new.self in
    let new = c.graft_within.new.self in
    let p = c.args.piece in
    record {
      leads = leads-on c.args.self.now c.offer_best.new.self c.graft_within.new.self c.offer_best.ensures.offers.leads c.graft_within.ensures.leads;
      between =
          let within : IsWithinRound mid.problem mid.state c.args.ticket = offer-within old mid c.offer_best.ensures.offers c.args.ticket c.requires.within in
          let here = subst (λ at. IsBestTimed old.problem at (tree_of p) p.timed) (sym c.requires.piece.prefix) c.requires.piece.timed in
          let timed = subst (λ (b : Problem). IsBestTimed b p.prefix (tree_of p) p.timed) (sym c.offer_best.ensures.offers.leads.0) here in
          let each = least-timed mid.problem (best_time mid.problem mid.state) p.prefix (tree_of p) p.timed timed c.in_ok-offer_best.ensures.at_most in
          graft-between mid new c.args.ticket p within each (subst (λ i. IsTaken mid i p new) c.node.ensures c.in_ok-graft_within.ensures.ok);
      less =
          let most = piece_splits old.rule (allowance old.state 1) in
          let some : 1 ≤ most = piece_splits-some old.rule (allowance old.state 1) c.requires.some in
          let gains = expansion-gains old.rule old.problem (best_time old.problem old.state) most c.args.ticket.prefix (tree_of p) p.timed c.requires.piece.expansion some c.requires.below c.requires.piece.timed in
          taken-less old mid new c.args.ticket p c.requires.covers c.offer_best.ensures.offers c.in_ok-offer_best.ensures.at_most (subst (λ i. IsTaken mid i p new) c.node.ensures c.in_ok-graft_within.ensures.ok) gains;
    }
