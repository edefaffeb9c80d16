use Rattle.std.proofs.Common.{◌≡◌, ◌++◌, ◌∙◌, List, ap, ap₂, map, reverse}
use Rattle.std.proofs.lemmas.List.{reverse-reverse}
use Rattle.std.proofs.lemmas.Result.{IfOk-equal}
use Rattle.s66_model.specs.{Point, points_of, total_of}
use Rattle.s66_time.specs.Ordered.{Ordered}
use Rattle.s66_why.specs.{Step, added, lost, path, steps, stretches}
use Rattle.s66_views.specs.{fillers_in, lost_of, lost_text, path_text, points_text, steps_text, timed_text}
use Rattle.s66_views.specs.Pieces.{order_text}
use Rattle.s66_views.proofs.Appended.{of-five}
use Rattle.s66_views.proofs.PointTexts.{lost-texts}
use Rattle.s66_views.proofs.json_lines.order.push_timed.Goals as goal

pub returns : goal.returns
unfolding timed_text
returns c =
    let t = c.args.timed.now in
    let out = c.args.out.now.items in
    let s : List Point = points_of t.problem t.numbers in
    let total = total_of t.problem t.numbers in
    let points : reverse c.as_slice-points.result.now ≡ s = ap reverse (c.as_slice-points.ensures.value ∙ c.points_of-points.ensures.value) ∙ reverse-reverse s in
    let walked : c.as_slice-steps.result.now ≡ steps s = c.as_slice-steps.ensures.value ∙ c.steps_of-steps.ensures ∙ ap steps points in
    let head = order_text total (fillers_in t) t.numbers in
    let text = points_text s in
    let way = path_text (path s) in
    let adds = steps_text (added s) in
    let sums = c.in_ok-sums.sums in
    let first : c.push_order_numbers.new.out.items ≡ out ++ head =
    c.in_ok-push_order_numbers.ensures ∙ ap₂ (λ a b. out ++ order_text a b c.numbers.result.now) c.total.ensures.value c.fillers-fillers.ensures
    ∙ ap (λ ns. out ++ order_text total (fillers_in t) ns) (c.numbers.ensures.value ∙ ap (λ (o : Ordered). o.numbers) c.order.ensures.value) in
    let second : c.push_points.new.out.items ≡ c.push_order_numbers.new.out.items ++ text =
    c.in_ok-sums.ensures.text ∙ ap (λ (u : List Point). c.push_order_numbers.new.out.items ++ points_text u) points in
    let third : c.push_path.new.out.items ≡ c.push_points.new.out.items ++ way =
    c.in_ok-push_path.ensures
    ∙ ap (λ ns. c.push_points.new.out.items ++ path_text ns) (c.as_slice.ensures.value ∙ c.path_of.ensures ∙ ap (map (λ (x : Step). x.number)) walked) in
    let fourth : c.push_steps.new.out.items ≡ c.push_path.new.out.items ++ adds =
    c.in_ok-push_steps.ensures ∙ ap (λ (xs : List Step). c.push_path.new.out.items ++ steps_text (map (λ (x : Step). x.adds) xs)) walked in
    let last : lost_text sums.first sums.second sums.third ≡ lost_of (stretches s) =
    lost-texts sums (stretches s) (λ conflict. c.in_ok-sums.ensures.sums conflict ∙ ap (λ (u : List Point). lost conflict (stretches u)) points) in
    IfOk-equal c.push_lost.result _ _ _ c.push_lost.ensures
    (ap (λ u. c.push_steps.new.out.items ++ u) last
    ∙ ap (λ zs. zs ++ lost_of (stretches s)) (fourth ∙ ap (λ zs. zs ++ adds) (third ∙ ap (λ zs. zs ++ way) (second ∙ ap (λ zs. zs ++ text) first)))
    ∙ of-five out head text way adds (lost_of (stretches s)))
