pub mod Nodes
pub mod Pieces
pub mod Walked
pub mod Growing
pub mod Walking
pub mod MarkTables
pub mod Reversed
pub use Nodes.{is_stored_open, is_stored_live, has_floor, prefixes_from, prefixes_over, node_line, Named, named, no_named, named_at, node_lines, IsNode, NodesFrom, AreNodes}
pub use Pieces.{PieceOf, prefixes_of, piece_lines, tree_of, IsBestTimed, AreTreeNodes, IsKeptPiece, IsExpandedPiece}
pub use Walked.{front, IsReadyFront, IsWalked}
pub use Growing.{SiblingsGrow, TreeGrows, sibling_prefixes, tree_prefixes, RestsGrow, flat_rests, rest_prefixes, rest_values, rests_split_at, Part, Grows}
pub use Walking.{Span, span, IsDue, IsLeft, terminal_by, state_by, value_by, named_by, IsOpen, IsKnown, IsFound, HasValue, IsValued, IsPushed, AreOfSplits, NameSplits, IsSpent, IsLeast, names_of}
pub use Walking.{grown_prefixes, grown_lines, IsGrown, IsEmpty, IsUnsplitPut, IsSplitPut, lefts, AreOpen, FramesStand, GrowsFor, IsBeingMade}
pub use MarkTables.{MarkTable, numbers_of, IsEntry, AreEntries}
pub use Reversed.{below, reversed}
pub use declared.grow.Grown.{Grown}
pub use declared.grow.OpenSplit.{OpenSplit}
pub use declared.grow.Unsplit.{Unsplit}
pub use declared.mark_table.MarkEntry.{MarkEntry}
pub use declared.mark_table.TheConstants.{TABLE_LIMIT}
pub use declared.name.Dominance.{Dominance}
pub use declared.node.Node.{Node}
pub use declared.node.State.{State}
pub use declared.piece.Origin.{Origin}
pub use declared.walk.ReadyFront.{ReadyFront}
pub use declared.whole_order.WholeOrder.{WholeOrder}
