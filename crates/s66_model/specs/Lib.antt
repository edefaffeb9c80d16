pub mod Lines
pub mod Marks
pub mod Accounts
pub mod Expansion
pub mod LedgerRuns
pub mod Coverage
pub mod NodeTable
pub mod NodeTree
pub mod Ended
pub mod Tickets
pub mod Reached
pub mod Recorded
pub mod TreeLines
pub mod LedgerExamples
pub mod Packing
pub mod Timing
pub mod WrittenOrder
pub mod Dependence
pub mod LegalOrder
pub mod Meaning
pub mod BestAndBound
pub mod Leaves
pub mod Floor
pub mod Tails
pub mod Trees
pub mod Preorder
pub mod Later
pub mod Answer
pub mod Piece
pub mod Stated
pub mod Dominance
pub mod Digits
pub mod NodeNames
pub mod FactLeaves
pub mod DominatedLeaves
pub mod Examples
pub use Lines.{fact_leaf_of, vertex_of, IsShort, IsNextLine, has_dominated_line}
pub use Marks.{number_count, is_dominated, marked, vertices_of, begins_from, HaveTheirNumbers, AreKeptLines}
pub use Accounts.{Claims, Grafts, Offers, GivesBack, brief, entries_of, last_brief, Account, account_of, counted, no_account, Summary, summary_of, account_at, opened, SeatRecord, Agrees, least_after}
pub use Accounts.{after_event, after_reading}
pub use Expansion.{TerminalHoldsWhile, IsExpansion, whole_at, whole_orders, IsBestWhole}
pub use LedgerRuns.{allowance, State, Open, Out, Cut, Closed, Node, is_cut_state, is_open_state, is_live_state, is_out_state, is_cut, is_open, is_out, is_live, no_node, node_at, with_state, worker}
pub use LedgerRuns.{Ledger, best_time, IsWorker, opening, Graft, Event, Grant, Claim, Offer, Back, Retire, Reply, Granted, Claimed, Taken, NotOut, OtherPrefix, OverAllowance, Lower, NotLower}
pub use LedgerRuns.{OtherBlock, Returned, Retired, share_of, after_grant, after_retire, after_move, after_offer, state_of, root_state, sibling_nodes, new_nodes, after_graft, may_name, HasNamed}
pub use LedgerRuns.{TerminalIsNamed, AreNamed, IsOut, Moves, Step, Run}
pub use Coverage.{begins, covers, ClosedHolds, NodeHolds, NodesHold, Covers, NeverRises, live_floors, bound_of, IsFinished}
pub use NodeTable.{same_numbers, stands_at, is_cut_at, IsTable}
pub use NodeTree.{each_sibling, grown_sibling, grown_tree, is_split_at, state_ending, ending_at, node_tree}
pub use Ended.{IsEnded, ended_answer}
pub use Tickets.{TicketOf}
pub use Reached.{IsReached}
pub use Recorded.{IsOwn, graft_event, TerminalOpens, SiblingsOpen, TreeOpens, IsOwnPiece, IsGraftOf, IsOfferOf, spends, spent_by}
pub use TreeLines.{lines_at, lines_of}
pub use LedgerExamples.{node, ledger, first_node, root_split, second_split, granted_to_2, without_grants, ledger_events, load_out, load_grafted, loose_split, NeverAnswers, NeverRuns}
pub use Packing.{fits_at, parcels_from, fillers, len_at}
pub use Timing.{Problem, row_at, copies, ResultAt, Point, done_at, writes_reg, done_of, last_done, end_of, total, next, next_parcel, parcel_of, slot_of, busy_at, can_issue, memory_wait, readers_wait}
pub use Timing.{result_at, free_after, latest_of, latest_result, point_of, points_after, points_of, total_of, CanIssue, IsIssue}
unfoldable pub use Timing.{issue_of, start_of, point}
pub use WrittenOrder.{written_in}
pub use Dependence.{share, depends, needs, all_needs}
unfoldable pub use Dependence.{conflict}
pub use LegalOrder.{IsLegal, IsFront, needs_met, is_remaining, is_ready, ready, remaining, GoesOn, IsBeginning, Completes, IsOrder, IsComplete, IsIncomplete, sum_remaining}
pub use Meaning.{Term, Zero, Initial, Terms, Loaded, Storage, InitialStorage, Stored, Contents, register_value, values_of, Operation, results_computed, address_of, words_loaded, writes, after}
pub use Meaning.{after_writes, storage_after, at_start, operation_at, run, meaning, KeepsMeaning}
pub use BestAndBound.{IsBound, IsBest}
pub use Leaves.{over, link, tail, parcels, if_last, rest_busy, work_of, unit_work, load, uses, is_linked, head, walk, chain_value, IsWalk, IsChain, floor, links_from, longest, value, chain}
pub use Leaves.{longest_walk, longest_chain, Leaf, Whole, Chain, Load, Parcels, leaf_values, MayStand, first_greatest, after_chain, floor_value}
pub use Floor.{InDictionaryOrder, rank, IsFloor}
pub use Tails.{longest_tail, walk_to, tail_remaining, chain_by, HasLate, HasWritten, walk_next, walk_after, chain_front, spare, HasWords}
pub use Trees.{Siblings, NoMore, Unsplit, Split, Tree, Alone, Parted, SiblingsHold, TreeHolds, LeafShows, Shows, sibling_splits, splits, siblings_split_at, split_at, sibling_values, tree_values}
pub use Trees.{Vertex, AtTerminal, AtSplit, flat_siblings, flat}
pub use Preorder.{first_siblings, later_siblings, forest, first_tree, read_tree, SiblingsMatch, TreeMatches}
pub use Later.{ready_above, IsNextReady, children, later, coming}
pub use Answer.{source_time, MayEnd, ending_values, IsAnswer, IsBestAnswer}
pub use Piece.{Terminal, Carries, Frontier, Passed, IsNamedIn, TerminalHolds, IsPiece}
pub use Stated.{siblings_seen, tree_seen, StatedLeaf, StatedFrontier, StatedPassed, StatedHolds, stated_values, terminal_floors, terminal_of, tree_stated, IsStatedTree}
pub use Dominance.{place_in_word, references_wait, stores_wait, insert_falling, free_times, Clamp, IsNoLater, IsSameSet, DominatesBy, no_clamp, Dominates, clamp_at, DominatesClamped, IsNoWorse}
pub use Digits.{HasDigits, HaveDigits}
pub use NodeNames.{terminal_at, sibling_at, node_named, is_node}
pub use FactLeaves.{FactLeaf, Next, Turned, AtLine, LoadFrom}
pub use DominatedLeaves.{Ending, Bounding, Dominated, Factual, IsEarlier, is_standing, may_be_named, DominatesByRule, MayBeDominated, EndingShows, ShowsBy, siblings_bounding, tree_bounding}
pub use Examples.{standard_problem, uneven_profile, times_of, parcels_in, fillers_in, held_write, loaded_write, table_row, one_boolean, one_load, three_multiplies, first_order, third_order}
pub use Examples.{packing_gap, two_gaps, store_then_load, zero_register, latest_writer, two_loads, loads_then_store, two_readers, held_load, booleans_and_sets, late_reader, three_increments}
pub use Examples.{late_result, later_gap, floor_in, chain_in, loads_in, link_in, tails_in, boolean_problem, load_problem, multiply_problem, answer, both_orders, every_order, all_but_one, one_omitted}
pub use Examples.{load_tree, load_orders, load_piece, one_split, child_omitted, ByBoth, late_reader_tree, fourth_bounding, fourth_split, increments_load, increments_tree, first_unsplit, order_ending}
pub use Examples.{no_constants, parts, Differs, register_at_end, storage_at_end, first_result, second_result, a_plus_b}
pub use declared.limits.TheConstants.{BUDGET_LIMIT, WORKERS_LIMIT}
pub use declared.lines.Mark.{Mark}
pub use declared.options.Options.{Options}
pub use declared.rule.Rule.{Rule}
pub use declared.rule.Rule.TheVariants.{ClampedStanding, NoneNamed, WrittenEarlier}
