use Rattle.std.proofs.Common.{◌≡◌, ◌+◌, ◌-◌, ◌++◌, All, vec_len, vec_capacity}
use Rattle.s66_ledger.specs.{account_summary}
use Rattle.s66_share.specs.{all_opened, IsIdle}
use Rattle.s66_pool.proofs.Dealing.{books_from, seats_of}
use Rattle.s66_pool.proofs.hub.Hub.new.Given as goal

abbrev pub invariant-loop-i : goal.invariant-loop-i
invariant-loop-i l = record {
  here : l.founder.table_id ≡ l.lock.table.shared.table_id;
  idles : IsIdle l.founder;
  room : (vec_len l.seats ≡ l.i) × (vec_capacity l.seats ≡ l.workers);
  left : l.founder.me.0.books ≡ books_from (account_summary l.lock.table.shared.key.value) (l.workers - l.i) (l.i + 1);
  dealt : l.seats.items ++ seats_of l.lock.table.shared.table_id l.founder.me.0.books ≡ seats_of l.lock.table.shared.table_id (all_opened (account_summary l.lock.table.shared.key.value));
  all : All (λ s. s.hub ≡ l.lock.table.shared.table_id) l.seats.items;
}
