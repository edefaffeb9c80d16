-- The tree that was grown is a piece: its splits, its floors, its names and its best order are as promised.
use Rattle.std.proofs.Common.{ℕ, ◌<◌, ◌≡◌, ◌⊎◌, true, List, length, refl, sym, ap, arith, inl, inr, ◌∙◌, subst}
use Rattle.s66_isa.specs.{Among}
use Rattle.s66_model.specs.{Rule, NoneNamed, WrittenEarlier, ClampedStanding, Problem, Tree, Alone, AtTerminal, TreeHolds, flat, splits, split_at, DominatesByRule, Terminal, Carries, Frontier, Passed}
use Rattle.s66_model.specs.{TerminalHolds, IsNamedIn, IsPiece, TerminalHoldsWhile, IsExpansion, node_named, is_node, read_tree, TreeMatches}
use Rattle.s66_model.proofs.Forests.{read-flat, tree-match}
use Rattle.s66_model.proofs.TreesHold.{tree-weaken}
use Rattle.s66_node.specs.{Grown, prefixes_over, tree_prefixes, PieceOf, piece_lines, tree_of, IsBestTimed, IsExpandedPiece, AreTreeNodes, IsKeptPiece, Span, IsDue, IsLeft, IsGrown, NameSplits}
use Rattle.s66_node.specs.{names_of}
use Rattle.s66_node.proofs.Growing.{tree-holds, tree-splits}
use Rattle.s66_node.proofs.NamedSplits.{split-node, tree-within}
use Rattle.s66_node.proofs.Terminals.{IsNamed, passed-name, left-holds, left-while}

module _ (rule : Rule) (b : Problem) (best : Span) (allowance : ℕ) (root : List ℕ) (grown : Grown) (tree : Tree Terminal) (h : IsGrown rule b best allowance root grown tree) where
  grown-left : TreeHolds b.block (IsLeft rule b best) root tree
  grown-left = tree-holds b.block (IsDue b best.high) (IsLeft rule b best) (λ at due. due.0) root tree h.grows

  grown-match : TreeMatches tree
  grown-match = tree-match b.block (IsLeft rule b best) tree root grown-left

  -- a dominated leaf has a name as the rule asks
  grown-node : NameSplits WrittenEarlier (split_at root tree) (flat tree) → (name : List ℕ) → Among (AtTerminal (Passed name)) (flat tree) → is_node (node_named root tree name) ≡ true
  grown-node names name among = split-node b.block (IsLeft rule b best) root tree grown-left name (names refl name among)

  named-by : (by : Rule) → NameSplits by (split_at root tree) (flat tree) → (at name : List ℕ) → (length root < length at) ⊎ (tree ≡ Alone (Passed name)) → Among (AtTerminal (Passed name)) (flat tree) → DominatesByRule by b name at → IsNamedIn by root tree at name
  named-by NoneNamed names at name place among dominates = dominates
  named-by WrittenEarlier names at name place among dominates = grown-node names name among
  named-by ClampedStanding names at name (inl below) among dominates = below
  named-by ClampedStanding names at name (inr alone) among dominates = absurd (h.passed name alone)

  abbrev NamedLeft : List ℕ → Terminal → Type 0
  NamedLeft at terminal = IsLeft rule b best at terminal × IsNamed rule b root tree at terminal

  grown-named : (at : List ℕ) (terminal : Terminal) → (length root < length at) ⊎ (tree ≡ Alone terminal) → Among (AtTerminal terminal) (flat tree) → IsLeft rule b best at terminal → NamedLeft at terminal
  grown-named at (Carries leaf) place among is = (is, λ name e. absurd cc)
  grown-named at Frontier place among is = (is, λ name e. absurd cc)
  grown-named at (Passed n) place among is = (is, λ name e. subst (IsNamedIn rule root tree at) (passed-name n name e) (named-by rule h.names at n place among is.1))

  named-left : TreeHolds b.block NamedLeft root tree
  named-left = tree-within b.block (IsLeft rule b best) NamedLeft root tree grown-named grown-left

  expansion : IsExpansion rule b best.high best.low allowance root tree
  expansion =
      record {
        piece = tree-weaken b.block NamedLeft (TerminalHoldsWhile rule b best.high best.low root tree) (left-while rule b root tree best) tree root named-left;
        within = omega (arith, h.splits, h.within);
        below = λ at among. (tree-splits b.block (IsDue b best.high) (IsLeft rule b best) root tree h.grows at among).1;
        spent = λ open_somewhere. h.splits ∙ h.spent open_somewhere;
      }

  is_piece : IsPiece rule b root tree
  is_piece = tree-weaken b.block NamedLeft (TerminalHolds rule b root tree) (left-holds rule b root tree best) tree root named-left

  module _ (p : PieceOf) (by : p.rule ≡ rule) (own : p.problem ≡ b) (over : p.prefix ≡ root) (nodes : p.nodes ≡ grown.nodes.items) (names : p.names ≡ names_of grown) where
    piece-lines : piece_lines p ≡ flat tree
    piece-lines = rw (own, over, nodes, names) (sym h.lines)

    -- it is the tree that was grown
    piece-tree : tree_of p ≡ tree
    piece-tree = ap (read_tree Frontier) piece-lines ∙ read-flat Frontier tree grown-match

    pub piece-expanded : IsBestTimed b root tree p.timed → IsExpandedPiece rule b best.high best.low allowance root p
    piece-expanded timed =
        record {
          expansion = subst (IsExpansion rule b best.high best.low allowance root) (sym piece-tree) expansion;
          timed = subst (λ t. IsBestTimed b root t p.timed) (sym piece-tree) timed;
          problem = own;
          rule = by;
          prefix = over;
        }

    pub piece-kept : IsBestTimed b root tree p.timed → IsKeptPiece p grown.splits
    piece-kept timed =
        record {
          nodes =
              record {
                piece = rw (piece-tree, by, own, over) is_piece;
                lines = ap flat piece-tree ∙ sym piece-lines;
                prefixes =
                    ap (tree_prefixes p.prefix) piece-tree
                    ∙ (ap (λ at. tree_prefixes at tree) over ∙ (h.prefixes ∙ (ap (λ at. prefixes_over at grown.nodes.items) (sym over) ∙ ap (prefixes_over p.prefix) (sym nodes))));
                nodes = rw (own, over, nodes, names) h.nodes;
              };
          splits = ap splits piece-tree ∙ h.splits;
          timed = rw (piece-tree, own, over) timed;
        }

pub kept-nodes : (p q : PieceOf) (count : ℕ) → IsKeptPiece p count → p ≡ q → AreTreeNodes q
kept-nodes p q count kept is = subst AreTreeNodes is kept.nodes

pub kept-splits : (p q : PieceOf) (count : ℕ) → IsKeptPiece p count → p ≡ q → count ≡ splits (tree_of q)
kept-splits p q count kept is = subst (λ (r : PieceOf). count ≡ splits (tree_of r)) is (sym kept.splits)

pub kept-timed : (p q : PieceOf) (count : ℕ) → IsKeptPiece p count → p ≡ q → IsBestTimed q.problem q.prefix (tree_of q) q.timed
kept-timed p q count kept is = subst (λ (r : PieceOf). IsBestTimed r.problem r.prefix (tree_of r) r.timed) is kept.timed
