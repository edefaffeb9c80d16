use Rattle.std.proofs.Common.{ℕ, ◌∙◌, ◌++◌, ap}
use Rattle.s66_isa.specs.{REGISTER_COUNT, register_at}
use Rattle.s66_isa.specs.Table.{Reg}
use Rattle.s66_why.specs.{register_reservations}
use Rattle.s66_why.proofs.Appended.{range-more}
use Rattle.s66_views.specs.{register_row_of}
use Rattle.s66_views.proofs.page.register.push_register_rows.Goals as goal

pub loop-index-preserved : goal.loop-index-preserved
loop-index-preserved c =
    let points = c.args.points.now in
    let out = c.loop-index.out.items in
    range-more (λ (index : ℕ). register_row_of (register_at index) (register_reservations (register_at index) points)) REGISTER_COUNT c.loop-index.index _ c.loop-index.out.items c.push_register_row_of.new.out.items c.loop-index-test.true
    c.loop-index.invariant
    (c.in_ok-push_register_row_of.ensures ∙ ap (λ xs. out ++ register_row_of c.of_index-register.result xs) (c.as_slice.ensures.value ∙ c.register_reservations-reservations.ensures)
    ∙ ap (λ (r : Reg). out ++ register_row_of r (register_reservations r points)) c.of_index-register.ensures)
