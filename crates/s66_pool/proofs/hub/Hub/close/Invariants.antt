use Rattle.std.proofs.Common.{◌≡◌, ◌++◌, All, vec_len}
use Rattle.s66_share.specs.{IsIdle}
use Rattle.s66_pool.proofs.Collecting.{books_in}
use Rattle.s66_pool.proofs.hub.Hub.close.Given as goal

abbrev pub invariant-loop-seat : goal.invariant-loop-seat
invariant-loop-seat l = record {
  here : l.all.table_id ≡ l.lock.table.shared.table_id;
  idles : IsIdle l.all;
  collected : books_in l.seats.items ++ l.all.me.0.books ≡ books_in l.fn.seats.items;
  seats : All (λ s. s.hub ≡ l.lock.table.shared.table_id) l.seats.items;
}

abbrev pub decreases-loop-seat : goal.decreases-loop-seat
decreases-loop-seat l = vec_len l.seats
