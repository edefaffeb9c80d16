use Rattle.std.specs.Io.KnownBytes.{Consumes}
use Rattle.std.proofs.Common.{ℕ, List, ◌≡◌, ◌≤◌, length}
use Rattle.s66_program.specs.{Calls, IsKeptInput}
use Rattle.s66_program.proofs.reading.read_through.Given as goal

abbrev pub invariant-calls : goal.invariant-calls
invariant-calls g l = record {
  taken : (input : List ℕ) × Consumes (g.F.Feed.seen l.fn.reader).bytes (g.F.Feed.seen l.reader).bytes input × (l.counter ≤ length input) × IsKeptInput l.fn.most input l.held.items;
  same : (g.F.Feed.seen l.reader).failures ≡ (g.F.Feed.seen l.fn.reader).failures;
  made : Calls l.counter 0 (g.F.Feed.seen l.fn.reader) (g.F.Feed.seen l.reader);
}
