use Rattle.std.proofs.Common.{ℕ, ◌≡◌, Bool, true, false, true≢false, List, refl, sym, ap, arith, ◌∙◌}
use Rattle.s66_model.specs.{Problem, total_of, Tree, Alone, Parted, Siblings, NoMore, Unsplit, Split, sibling_splits, splits, Terminal, Offer, Reply, Taken, IsOwn, SiblingsOpen, TreeOpens}
use Rattle.s66_model.specs.{graft_event, spends, Grafts, brief}
use Rattle.s66_model.proofs.machine.history.recorded_law.Goals as goal

own-same : (b p : Problem) (own other : Bool) → IsOwn b p own → IsOwn b p other → own ≡ other
own-same b p true true h k = refl
own-same b p true false h k = absurd (true≢false (sym (k.1 (h.0 refl))))
own-same b p false true h k = absurd (true≢false (sym (h.1 (k.0 refl))))
own-same b p false false h k = refl

-- what is taken has the splits of the piece
siblings-opened : (siblings others : Siblings Terminal) → SiblingsOpen siblings others → sibling_splits siblings ≡ sibling_splits others
siblings-opened NoMore NoMore h = refl
siblings-opened (Unsplit terminal siblings) (Unsplit taken others) h = siblings-opened siblings others h.1
siblings-opened (Split numbers sub siblings) (Split ns under others) h =
    omega (arith, siblings-opened sub under h.1, siblings-opened siblings others h.2)
siblings-opened siblings others h = absurd h

tree-opened : (tree taken : Tree Terminal) → TreeOpens tree taken → splits tree ≡ splits taken
tree-opened (Alone terminal) (Alone taken) h = refl
tree-opened (Parted numbers siblings) (Parted ns others) h = omega (arith, siblings-opened siblings others h.1)
tree-opened tree taken h = absurd h

graft-brief : (w node : ℕ) (own : Bool) (prefix : List ℕ) (tree : Tree Terminal) (reply : Reply) → brief (graft_event w node own prefix tree reply) ≡ Grafts node (splits tree)
graft-brief w node own prefix tree Taken = refl
graft-brief w node own prefix tree reply = refl

pub returns : goal.returns
returns c = record {
  graft = λ rule b w node r p prefix tree reply event (own, taken, is, opens, e).
      (ap brief e ∙ (graft-brief w node own prefix taken reply ∙ ap (λ n. Grafts node n) (sym (tree-opened tree taken opens))));
  spends = λ rule b w node r p prefix tree event (own, taken, is, opens, e).
      ap (λ x. spends x Taken) e ∙ sym (tree-opened tree taken opens);
  offer = λ b w p order event other (own, is, e) (own2, is2, e2).
      e ∙ (ap (λ o. Offer w o order (total_of p order)) (own-same b p own own2 is is2) ∙ sym e2);
}
