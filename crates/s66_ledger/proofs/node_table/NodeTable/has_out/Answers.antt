use Rattle.std.proofs.Common.{ℕ, ◌∙◌, nat_eq, subst, eqb-true}
use Rattle.std.proofs.lemmas.Bool.{not-false}
use Rattle.s66_ledger.specs.{StoresOut}
use Rattle.s66_ledger.proofs.LiveCounts.{none-out}
use Rattle.s66_ledger.proofs.node_table.NodeTable.has_out.Goals as goal

pub returns : goal.returns
returns c =
    let t = c.self.inside in
    λ none.
    subst (λ ns. (i : ℕ) → ¬ StoresOut ns i) c.self.view_is (none-out t.nodes.items (c.self.invariant.3.count ∙ eqb-true t.out 0 (not-false (nat_eq t.out 0) none)))
