use Rattle.std.proofs.Common.{◌≡◌, ◌∙◌, if◌then◌else◌, None, Some, ap, sym}
use Rattle.s66_source.specs.{Placed}
use Rattle.s66_time.specs.Ordered.{Ordered}
use Rattle.s66_answer.specs.{answer_in}
use Rattle.s66_program.specs.{placed_by}
use Rattle.s66_program.proofs.order_text.placing.Goals.{then-trace, else-trace}
use Rattle.s66_program.proofs.order_text.placing.Goals as goal

same-placed : (v w : Placed) → v.order ≡ w.order → v.source ≡ w.source → v.time ≡ w.time → v.bound ≡ w.bound → v.splits ≡ w.splits → v ≡ w
same-placed v w order source time bound splits =
    ap (λ x. record v { order = x }) order ∙ ap (λ x. record w { source = x; time = v.time; bound = v.bound; splits = v.splits }) source
    ∙ ap (λ x. record w { time = x; bound = v.bound; splits = v.splits }) time ∙ ap (λ x. record w { bound = x; splits = v.splits }) bound ∙ ap (λ x. record w { splits = x }) splits

pub returns : goal.returns
returns c =
    let trace = c.args.trace in
    let a = answer_in c.args.answer.now in
    let splits : c.if-trace.result ≡ (if trace then Some a.splits else None) =
    elim c.if-trace.branch [
      | then-trace w ↦ w.result-is ∙ ap Some w.splits.ensures ∙ sym (ap (λ b. if b then Some a.splits else None) w.if-trace.true)
      | else-trace w ↦ w.result-is ∙ sym (ap (λ b. if b then Some a.splits else None) w.if-trace.false)
    ] in
    let found : Placed = record { order = c.in-Ok.order.items; source = c.source.result; time = c.time.result; bound = c.bound.result; splits = c.if-trace.result } in
    λ strategy p block for.
    same-placed found (placed_by p trace block a) (c.in-Ok.ensures.0 ∙ c.numbers.ensures.value ∙ ap (λ (o : Ordered). o.numbers) (c.order.ensures strategy p block for))
    (c.source.ensures strategy p block for) c.time.ensures.value c.bound.ensures splits
