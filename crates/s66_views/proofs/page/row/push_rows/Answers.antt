use Rattle.std.proofs.Common.{ℕ, ◌≡◌, ◌<◌, ◌++◌, ◌∙◌, List, ap, arith, get_or, length, length-take, map, refl, reverse, sym, take, take_all}
use Rattle.std.proofs.lemmas.List.{get_or_default, get_or-map, length-map, reverse-reverse}
use Rattle.s66_isa.specs.{Boolean}
use Rattle.s66_model.specs.{Point, points_of}
use Rattle.s66_line.specs.{bytes_of}
use Rattle.s66_time.specs.Ordered.{Ordered}
use Rattle.s66_time.specs.{point_at, no_point}
use Rattle.s66_why.specs.{Work, work}
use Rattle.s66_why.proofs.PointCount.{points_length}
use Rattle.s66_views.specs.{instruction_rows}
use Rattle.s66_views.proofs.Points.{rows-more}
use Rattle.s66_views.proofs.page.row.push_rows.Goals as goal

pub bounds-points-position : goal.bounds-points-position
bounds-points-position c =
    omega (arith, c.loop-position-test.true, points_length c.args.timed.now, ap (λ (ps : List Point). length ps) c.requires.points, ap (λ (ns : List ℕ). length ns) c.numbers-position-end.ensures.value, ap (λ (o : Ordered). length o.numbers) c.order.ensures.value)

pub slice_bounds-push_row-end : goal.slice_bounds-push_row-end
slice_bounds-push_row-end c = omega (arith, length-take c.loop-position.position c.args.points.now, bounds-points-position c)

pub bounds-works-position : goal.bounds-works-position
bounds-works-position c =
    let len : length (map work c.args.points.now) ≡ length c.args.points.now = length-map c.args.points.now work in
    omega (arith, len, ap (λ (ws : List Work). length ws) c.requires.works, c.loop-position-test.true, points_length c.args.timed.now, ap (λ (ps : List Point). length ps) c.requires.points, ap (λ (ns : List ℕ). length ns) c.numbers-position-end.ensures.value, ap (λ (o : Ordered). length o.numbers) c.order.ensures.value)

pub loop-position-preserved : goal.loop-position-preserved
loop-position-preserved c =
    let t = c.args.timed.now in
    let ps = c.args.points.now in
    let i = c.loop-position.position in
    let p = c.index-points-position.result in
    let within : i < length ps =
    omega (arith, c.loop-position-test.true, points_length t, ap (λ (qs : List Point). length qs) c.requires.points, ap (λ (ns : List ℕ). length ns) c.numbers-position-end.ensures.value, ap (λ (o : Ordered). length o.numbers) c.order.ensures.value) in
    let is_point : point_at t i ≡ p = ap (λ (qs : List Point). get_or qs i (no_point t.problem.profile)) (sym c.requires.points) ∙ get_or_default ps i _ p within ∙ sym c.index-points-position.is in
    let none : Work = record { number = 0; kind = Boolean; issue = 0; start = 0; latency = 0; done = 0; free = 0; hold = 0 } in
    let is_work : get_or c.args.works.now i none ≡ work p = ap (λ (ws : List Work). get_or ws i none) c.requires.works ∙ get_or-map work ps i p none within ∙ ap work (sym c.index-points-position.is) in
    rows-more c.args.block.now c.args.on_path.now ps i p c.text_at-text.result.now (take i ps) (get_or c.args.works.now i none) _ _ _ within c.index-points-position.is
    (c.text_at-text.ensures ∙ ap (λ (q : Point). bytes_of c.args.block.now q.number) is_point) refl is_work c.loop-position.invariant c.in_ok-push_row.ensures

pub returns : goal.returns
returns c =
    let t = c.args.timed.now in
    let ps = c.args.points.now in
    let i = c.loop-position.position in
    let s : List Point = points_of t.problem t.numbers in
    let all : reverse (take i ps) ≡ s =
    ap reverse (take_all i ps (omega (arith, c.loop-position-test.false, points_length t, ap (λ (qs : List Point). length qs) c.requires.points, ap (λ (ns : List ℕ). length ns) c.numbers-position-end.ensures.value, ap (λ (o : Ordered). length o.numbers) c.order.ensures.value)) ∙ c.requires.points)
    ∙ reverse-reverse s in
    c.loop-position.invariant ∙ ap (λ (u : List Point). c.args.out.now.items ++ instruction_rows c.args.block.now c.args.on_path.now u) all
