use Rattle.std.proofs.Common.{ℕ, ◌≡◌, ◌≤◌, ◌++◌, ◌∙◌, List, [], OnOk, ap, ap₂, append_assoc, arith, flat_map, length, reverse, subst, sym}
use Rattle.std.proofs.lemmas.List.{length-reverse, reverse-reverse}
use Rattle.std.proofs.lemmas.Result.{IfOk-equal}
use Rattle.s66_isa.specs.{BLOCK_LIMIT, Among}
use Rattle.s66_model.specs.{IsLegal, Point, Problem, points_of, total}
use Rattle.s66_model.proofs.PointTimes.{points_after-length}
use Rattle.s66_line.specs.{Block, instrs_of}
use Rattle.s66_time.proofs.OrderNumbers.{legal-range}
use Rattle.s66_why.specs.{Step, AreStretchesOf, IsOf, StepsAreOf, sums_line, lost, lost_line, path_lines, steps, stretch_line, stretches}
use Rattle.s66_why.proofs.Forbidden.{points-met}
use Rattle.s66_why.proofs.Lines.{line-of-sums}
use Rattle.s66_why.proofs.Numbers.{each-among, steps-hold, stretches-hold}
use Rattle.s66_why.proofs.text.push_why.Goals as goal

-- the numbers of a legal order of the block are its own
own : (block : Block) (b : Problem) (ns : List ℕ) → b.block ≡ instrs_of block → IsLegal b.block ns → (n : ℕ) → Among n ns → IsOf block n
own block b ns is legal = each-among (IsOf block) ns (λ i d lt. let range = legal-range b.block ns legal i d lt in (range.0, omega (arith, range.1, ap length is)))

few-numbers : (b : Problem) (ns : List ℕ) (ps : List Point) → ps ≡ reverse (points_of b ns) → length ps ≤ BLOCK_LIMIT → length ns ≤ BLOCK_LIMIT
few-numbers b ns ps is few = omega (arith, few, ap (λ (u : List Point). length u) is, length-reverse (points_of b ns), points_after-length b [] ns)

pub push_all_lines-requires-clause-numbers : goal.push_all_lines-requires-clause-numbers
push_all_lines-requires-clause-numbers c =
    let t = c.args.timed.now in
    let block = c.args.block.now in
    let is = c.as_slice-points.ensures.value ∙ c.points_of-points.ensures.value in
    let points : reverse c.as_slice-points.result.now ≡ points_of t.problem t.numbers = ap reverse is ∙ reverse-reverse (points_of t.problem t.numbers) in
    let all = own block t.problem t.numbers c.requires c.points_of-points.ensures.legal in
    let few = few-numbers t.problem t.numbers c.as_slice-points.result.now is c.as_slice-points.ensures.fits in
    subst (λ (u : List Point). AreStretchesOf block (stretches u)) (sym points) (stretches-hold t.problem (IsOf block) t.numbers few (λ n among. ((all n among).0, all n among)))

pub push_path-requires-clause-numbers : goal.push_path-requires-clause-numbers
push_path-requires-clause-numbers c =
    let t = c.args.timed.now in
    let block = c.args.block.now in
    let points : reverse c.as_slice-points.result.now ≡ points_of t.problem t.numbers =
    ap reverse (c.as_slice-points.ensures.value ∙ c.points_of-points.ensures.value) ∙ reverse-reverse (points_of t.problem t.numbers) in
    let all = own block t.problem t.numbers c.requires c.points_of-points.ensures.legal in
    subst (StepsAreOf block) (sym (c.as_slice.ensures.value ∙ c.steps_of-steps.ensures ∙ ap steps points))
    (steps-hold (IsOf block) (points_of t.problem t.numbers) (points-met t.problem (IsOf block) [] t.numbers (λ u none. absurd none) all))

pub returns : goal.returns
returns c =
    let t = c.args.timed.now in
    let block = c.args.block.now in
    let texts = c.args.texts in
    let out = c.args.out.now.items in
    let s : List Point = points_of t.problem t.numbers in
    let points : reverse c.as_slice-points.result.now ≡ s = ap reverse (c.as_slice-points.ensures.value ∙ c.points_of-points.ensures.value) ∙ reverse-reverse s in
    let line = stretch_line texts block in
    let lines = flat_map line (stretches s) in
    let way = path_lines texts block (steps s) (total s) in
    let sums = c.in_ok-sums.sums in
    let first : c.push_all_lines.new.out.items ≡ out ++ lines = c.in_ok-sums.ensures.lines ∙ ap (λ (u : List Point). out ++ flat_map line (stretches u)) points in
    let second : c.push_path.new.out.items ≡ c.push_all_lines.new.out.items ++ way =
    c.in_ok-push_path.ensures
    ∙ ap₂ (λ (xs : List Step) k. c.push_all_lines.new.out.items ++ path_lines texts block xs k) (c.as_slice.ensures.value ∙ c.steps_of-steps.ensures ∙ ap steps points) c.total-2.ensures.value in
    let last : sums_line sums ≡ lost_line (stretches s) =
    line-of-sums sums (stretches s) (λ conflict. c.in_ok-sums.ensures.sums conflict ∙ ap (λ (u : List Point). lost conflict (stretches u)) points) in
    let ended : OnOk c.push_lost_line.result (c.push_lost_line.new.out.items ≡ c.push_path.new.out.items ++ sums_line sums) = c.push_lost_line.ensures in
    IfOk-equal c.push_lost_line.result _ _ _ ended
    (ap (λ zs. zs ++ sums_line sums) (second ∙ ap (λ zs. zs ++ way) first ∙ append_assoc out lines way)
    ∙ ap (λ zs. (out ++ (lines ++ way)) ++ zs) last
    ∙ append_assoc out (lines ++ way) (lost_line (stretches s)))
