-- To be believed: what contracts see of a leaf: which it is, and its value.
use Rattle.std.specs.Prelude.{ℕ}
use Rattle.s66_model.specs.Leaves as leaves
use Rattle.s66_bound.specs.declared.leaf.Leaf.{Leaf}
use Rattle.s66_bound.specs.declared.leaf.Leaf.TheVariants as stated

-- the leaf without its value
abbrev pub leaf_of : Leaf → leaves.Leaf
leaf_of (stated.Whole value) = leaves.Whole
leaf_of (stated.Chain numbers value) = leaves.Chain numbers.items
leaf_of (stated.Load kind value) = leaves.Load kind
leaf_of (stated.Parcels value) = leaves.Parcels

abbrev pub value_of : Leaf → ℕ
value_of (stated.Whole value) = value
value_of (stated.Chain numbers value) = value
value_of (stated.Load kind value) = value
value_of (stated.Parcels value) = value
