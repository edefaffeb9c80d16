-- The tree of a document has at least one line, and few for its splits.
use Rattle.std.proofs.Common.{◌≤◌, ◌<◌, ◌+◌, ◌*◌, ◌^◌, ℕ, List, [], ◌∷◌, length, ap, arith, length-append}
use Rattle.s66_isa.specs.{BLOCK_LIMIT}
use Rattle.s66_model.specs.{Tree, Alone, Parted, Siblings, NoMore, Unsplit, Split, flat_siblings, flat, sibling_splits, splits, Ending}
use Rattle.s66_cert.specs.{SiblingsFit, TreeFits, Parts, AreWhole, tree_of_lines}

-- each split has at most BLOCK_LIMIT children
few-siblings : (ns : List ℕ) (siblings : Siblings Ending) → SiblingsFit BLOCK_LIMIT ns siblings → length (flat_siblings siblings) ≤ length ns + BLOCK_LIMIT * sibling_splits siblings
few-siblings [] NoMore fit = omega arith
few-siblings (n ∷ ns) (Unsplit ending siblings) fit = omega (arith, few-siblings ns siblings fit.1)
few-siblings (n ∷ ns) (Split numbers sub siblings) fit =
    omega (arith, length-append (flat_siblings sub) (flat_siblings siblings), few-siblings numbers sub fit.1, few-siblings ns siblings fit.2, fit.0.1)
few-siblings [] (Unsplit ending siblings) fit = absurd fit
few-siblings [] (Split numbers sub siblings) fit = absurd fit
few-siblings (n ∷ ns) NoMore fit = absurd fit

few-flat : (tree : Tree Ending) → TreeFits BLOCK_LIMIT tree → (1 ≤ length (flat tree)) × (length (flat tree) ≤ 1 + BLOCK_LIMIT * splits tree)
few-flat (Alone ending) fits = (omega arith, omega arith)
few-flat (Parted numbers siblings) fits = (omega arith, omega (arith, few-siblings numbers siblings fits.1, fits.0.1))

pub few_lines : (p : Parts) → AreWhole p → length p.vertices < 2 ^ 32
few_lines p whole = omega (arith, ap length whole.preorder, (few-flat (tree_of_lines p.vertices) whole.document.tree).1, whole.document.splits)

pub some_lines : (p : Parts) → AreWhole p → 1 ≤ length p.vertices
some_lines p whole = omega (arith, ap length whole.preorder, (few-flat (tree_of_lines p.vertices) whole.document.tree).0)
