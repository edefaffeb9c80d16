use Rattle.std.proofs.Common.{◌≡◌, All, length}
use Rattle.s66_share.proofs.hint.Hint.new.Given as goal

abbrev pub invariant-loop-i : goal.invariant-loop-i
invariant-loop-i l = record {
  table : l.founder.table_id ≡ l.table.shared.table_id;
  keeps : l.founder.me.0 ≡ l.fn.word;
  count : length l.seats.items ≡ l.i;
  here : All (λ s. s.hint ≡ l.table.shared.table_id) l.seats.items;
  kept : All (λ s. s.kept ≡ l.fn.word) l.seats.items;
}
