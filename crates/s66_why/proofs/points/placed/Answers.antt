use Rattle.std.proofs.Common.{ℕ, ◌≡◌, ◌∙◌, List, ap, get_or, map, reverse, sym, take}
use Rattle.std.proofs.lemmas.List.{reverse-reverse}
use Rattle.s66_isa.specs.{Row, instr_at, row, Profile}
use Rattle.s66_model.specs.{Point, points_of, point_of, row_at, result_at}
use Rattle.s66_time.specs.Ordered.{Ordered}
use Rattle.s66_time.specs.{point_at}
use Rattle.s66_time.proofs.Positions.{point-at, row-at, number-at}
use Rattle.s66_why.proofs.Earlier.{point-is, point-results}
use Rattle.s66_why.proofs.points.placed.Goals as goal

pub returns : goal.returns
returns c =
    let t = c.args.timed.now in
    let i = c.args.position in
    let b = t.problem in
    let s : List Point = points_of b (take i t.numbers) in
    let n : ℕ = get_or t.numbers i 0 in
    let q : Point = point_at t i in
    let at : q ≡ point_of b s n = point-at t i c.requires.position in
    let number : get_or c.numbers.result.now i 0 ≡ n =
    ap (λ (ns : List ℕ). get_or ns i 0) (c.numbers.ensures.value ∙ ap (λ (o : Ordered). o.numbers) c.order-order.ensures.value) in
    let instr : c.instr.result ≡ instr_at b.block n =
    c.instr.ensures ∙ ap (λ (o : Ordered). instr_at o.block (get_or c.numbers.result.now i 0)) c.order-order.ensures.value ∙ ap (instr_at b.block) number in
    let row_is : c.of-row.result ≡ row_at b n =
    c.of-row.ensures ∙ ap (λ (p : Profile). row p c.instr.result) c.profile.ensures ∙ ap (row b.profile) instr in
    let earlier : reverse c.args.earlier.now ≡ s = ap reverse c.requires.earlier ∙ reverse-reverse s in
    let start : c.at-times.result.start ≡ (point_of b s n).start = c.at-times.ensures.start ∙ ap (λ (p : Point). p.start) at in
    let results : c.results-results.result.items ≡ (point_of b s n).results =
    c.results-results.ensures ∙ ap (λ (u : List Point). map (result_at u c.at-times.result.start) c.of-row.result.writes) earlier
    ∙ ap (λ k. map (result_at s k) c.of-row.result.writes) start ∙ ap (λ (r : Row). map (result_at s (point_of b s n).start) r.writes) row_is
    ∙ sym (point-results b s n) in
    point-is _ _ _ _ _ _ _ q (number ∙ sym (number-at t i c.requires.position)) (row_is ∙ sym (row-at t i c.requires.position)) c.at-times.ensures.parcel c.at-times.ensures.issue c.at-times.ensures.start
    (results ∙ ap (λ (p : Point). p.results) (sym at)) c.at-times.ensures.free
