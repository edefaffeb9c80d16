use Rattle.std.proofs.Common.{◌≡◌, ◌++◌, ◌∙◌, List, ap, ap₂, append_assoc, map, reverse}
use Rattle.std.proofs.lemmas.List.{reverse-reverse}
use Rattle.std.proofs.lemmas.Result.{IfOk-equal}
use Rattle.s66_model.specs.{Point, points_of}
use Rattle.s66_why.specs.{Step, cycles_of, steps, works}
use Rattle.s66_views.specs.{all_kind_rows, instruction_rows, on_path, page_register_rows}
use Rattle.s66_views.proofs.page.order.push_all_rows.Goals as goal

pub returns : goal.returns
returns c =
    let t = c.args.timed.now in
    let block = c.args.block.now in
    let out = c.args.out.now.items in
    let s : List Point = points_of t.problem t.numbers in
    let are_points : c.as_slice-points.result.now ≡ reverse s = c.as_slice-points.ensures.value ∙ c.points_of-points.ensures.value in
    let points : reverse c.as_slice-points.result.now ≡ s = ap reverse are_points ∙ reverse-reverse s in
    let walked : c.as_slice.result.now ≡ steps s = c.as_slice.ensures.value ∙ c.steps_of-steps.ensures ∙ ap steps points in
    let path : c.as_slice-2.result.now ≡ on_path t = c.as_slice-2.ensures.value ∙ c.path_of-on_path.ensures ∙ ap (map (λ (x : Step). x.number)) walked in
    let drawn : c.as_slice-works.result.now ≡ works t = c.as_slice-works.ensures.value ∙ c.works_of-works.ensures in
    let units = all_kind_rows (cycles_of t) (works t) in
    let registers = page_register_rows (reverse s) in
    let rows = instruction_rows block (on_path t) s in
    let first : c.push_all_kind_rows.new.out.items ≡ out ++ units = c.in_ok-push_all_kind_rows.ensures ∙ ap (λ zs. out ++ zs) (ap₂ all_kind_rows c.total-2.ensures.value drawn) in
    let second : c.push_register_rows.new.out.items ≡ out ++ units ++ registers =
    c.in_ok-push_register_rows.ensures ∙ ap₂ (λ xs ps. xs ++ page_register_rows ps) first are_points in
    IfOk-equal c.push_rows.result _ _ _ c.push_rows.ensures
    (ap₂ (λ xs ns. xs ++ instruction_rows block ns s) second path ∙ ap (λ xs. xs ++ rows) (append_assoc out units registers) ∙ append_assoc out (units ++ registers) rows)
