use Rattle.std.specs.List.{range_with_len}
use Rattle.std.proofs.Common.{ℕ, ◌≡◌, ◌-◌, ◌++◌, flat_map}
use Rattle.s66_isa.specs.{REGISTER_COUNT, register_at}
use Rattle.s66_why.specs.{register_reservations}
use Rattle.s66_views.specs.{register_row_of, page_register_rows}
use Rattle.s66_views.proofs.page.register.push_register_rows.Given as goal

abbrev pub invariant-loop-index : goal.invariant-loop-index
invariant-loop-index l =
    l.out.items
    ++ flat_map (λ (index : ℕ). register_row_of (register_at index) (register_reservations (register_at index) l.points)) (range_with_len l.index (REGISTER_COUNT - l.index))
    ≡ l.fn.out.items ++ page_register_rows l.points
