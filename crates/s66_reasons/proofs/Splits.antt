-- The first line of a tree, and how many of its lines are splits.
use Rattle.std.proofs.Common.{◌≡◌, ◌≤◌, ◌∙◌, refl, ap, sym, arith}
use Rattle.s66_isa.specs.{tally}
use Rattle.s66_isa.proofs.Lists.{tally-append}
use Rattle.s66_model.specs.{Tree, Alone, Parted, Siblings, NoMore, Unsplit, Split, flat, flat_siblings, splits, sibling_splits, Ending}
use Rattle.s66_cert.specs.{SPLIT_LIMIT, Parts, AreWhole, document_of}
use Rattle.s66_reasons.specs.{is_split}

siblings-splits : (siblings : Siblings Ending) → tally is_split (flat_siblings siblings) ≡ sibling_splits siblings
siblings-splits NoMore = refl
siblings-splits (Unsplit ending siblings) = omega (arith, siblings-splits siblings)
siblings-splits (Split numbers sub siblings) =
    omega (arith, tally-append is_split (flat_siblings sub) (flat_siblings siblings), siblings-splits sub, siblings-splits siblings)

pub tree-splits : (tree : Tree Ending) → tally is_split (flat tree) ≡ splits tree
tree-splits (Alone ending) = refl
tree-splits (Parted numbers siblings) = omega (arith, siblings-splits siblings)

-- as code stores them
pub stored-splits : (p : Parts) → AreWhole p → tally is_split p.vertices ≡ splits (document_of p).tree
stored-splits p whole = ap (tally is_split) (sym whole.preorder) ∙ tree-splits (document_of p).tree

pub few-splits : (p : Parts) → AreWhole p → tally is_split p.vertices ≤ SPLIT_LIMIT
few-splits p whole = omega (arith, stored-splits p whole, whole.document.splits)
