pub mod Answers
pub mod ClaimedNodes
pub mod AnswerLines
pub mod HistoryEntries
pub mod Finishing
pub mod Grafting
pub mod GraftMoves
pub mod Grafts
pub mod LedgerMachine
pub mod Ledgers
pub mod Links
pub mod LiveNodes
pub mod Nodes
pub mod OpenNodes
pub mod PieceSplits
pub mod Replies
pub use Answers.{AnswerOf, answer_of, ended_of, IsKeptAnswer}
pub use ClaimedNodes.{claimed_node, IsTicketOf, IsLeastOpen}
pub use AnswerLines.{lines_from, lines_left, AreOneTree, StandsAt}
pub use HistoryEntries.{refusal_reply, error_of, byte_count, line_count, entry_of, entries_of}
pub use Finishing.{Leads, NoneOut, IsIdle, WholesAreTimed, IsSearched, IsOffering, NoneOutBelow, IsReopening, IsTimedAt, IsTiming, IsBetweenRounds, IsWithinRound, IsRoundPiece, IsTaken, still_to_go}
pub use Grafting.{placed_parent, settled_state, opened_state, IsNamed, placed, GraftsIn, AreGrafted, IsGrafting, IsSplitUnder, HaveNames, root_line, IsTakenAs, IsAttachedAs}
pub use GraftMoves.{IsGraftMove, taken_event, IsTakenMove, IsRefusedMove}
pub use Grafts.{IsGraft, IsRefusedGraft}
pub use LedgerMachine.{MachineOf, IsMove, ledger_from, Stored, ledger_of, machine_of, IsKeptMachine}
pub use Ledgers.{LedgerOf, events_of, IsEvent, IsRecorded, account_summary, with_history}
pub use Links.{parent_of, child_below, AreLinks, IsChild, HasChild}
pub use LiveNodes.{live_values, AreCounted}
pub use Nodes.{prefixes, no_stored, stored_at, put_state, name_at, is_stored_out, stores_open, stores_out, seen_state, seen_node, made_line, seen_at, nodes_of, made_lines, HaveFloors, HaveDepths}
pub use OpenNodes.{StoresOut, ranked, rank_of, compare_ranked, IsRanked, AreOpenNodes}
pub use PieceSplits.{piece_splits}
pub use Replies.{offered_reply}
pub use declared.event_record.EventRecord.{EventRecord}
pub use declared.event_record.Refusal.{Refusal}
pub use declared.limits.TheConstants.{DEPTH_RANKS, SCHEDULE_SPLITS}
pub use declared.machine.Machine.TheInside.{Inside}
pub use declared.reply.BackError.{BackError}
pub use declared.reply.GraftError.{GraftError}
pub use declared.reply.Offered.{Offered}
