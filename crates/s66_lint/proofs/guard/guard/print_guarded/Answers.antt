use Rattle.std.proofs.Common.{◌≡◌, ◌++◌, ◌∷◌, ◌&&◌, ◌||◌, not, ℕ, Bool, List, [], subst, sym, ap, ◌∙◌, arith}
use Rattle.s66_line.specs.{body}
use Rattle.s66_source.specs.{Flagged, is_off_switch, is_on_switch, off_after}
use Rattle.s66_lint.specs.{Kept, Mark, GuardedLine, between, guarded_lines, Finishes, first_mark, later_marks, marks_of, reason_texts}
use Rattle.s66_lint.proofs.GuardPrinting.{between-no_line, between-one_end, completes-grown, kept-one_line, next_line, written-line, written_rest}
use Rattle.s66_lint.proofs.guard.guard.print_guarded.Goals as goal

pub push_line-requires : goal.push_line-requires
push_line-requires c =
    let none = between-no_line c.loop-line.inside c.is_guarded-here.result (reason_texts c.first_reasons.result.now) in
    let same = c.in_ok-push_between.ensures.guarded in
    let few = c.loop-line.invariant.guarded in
    omega (arith, none, same, few)

pub loop-line-preserved : goal.loop-line-preserved
loop-line-preserved c =
    let inside : Bool = c.loop-line.inside in
    let here : Bool = c.is_guarded-here.result in
    let off : Bool = c.loop-line.off in
    let marks : List Mark = marks_of c.loop-line.left.now in
    let line : List ℕ = c.in-Some.line.now in
    let more : List ℕ = c.in-Some.more.now in
    let flag : Flagged = next_line off line more in
    let reasons : List (List ℕ) = reason_texts c.first_reasons.result.now in
    let all : List GuardedLine = guarded_lines (marks_of c.args.marks.now) c.args.text.now in
    let rest : List GuardedLine = written_rest here (off_after off (body line)) (later_marks marks) more in
    let kept : List GuardedLine = Kept here flag ∷ [] in
    let same_body : c.body_of-body.result.now ≡ body line = c.body_of-body.ensures.value in
    let is_here =
    subst (λ (bytes : List ℕ). here ≡ ((first_mark marks).is_harmed && not ((off || is_off_switch bytes) || is_on_switch bytes))) same_body c.is_guarded-here.ensures
    in
    let before : Finishes c.loop-line.printed (between inside here reasons ++ Kept here flag ∷ rest) all =
    subst (λ lines. Finishes c.loop-line.printed lines all)
    (written-line inside off here marks c.loop-line.rest.now line more c.in-Some.ensures.line is_here
    ∙ ap (λ rs. between inside here rs ++ Kept here flag ∷ rest) (sym c.first_reasons.ensures))
    c.loop-line.invariant.complete in
    let after_between : Finishes c.push_between.new.self (kept ++ rest) all =
    completes-grown c.loop-line.printed c.push_between.new.self (between inside here reasons) (kept ++ rest) all c.in_ok-push_between.ensures before in
    let after_line : Finishes c.push_line.new.self rest all =
    completes-grown c.push_between.new.self c.push_line.new.self kept rest all (c.in_ok-push_line.ensures flag.alone) after_between in
    let ends = c.in_ok-push_between.ensures.ends in
    let one_end = between-one_end inside here reasons in
    let no_end = (c.in_ok-push_line.ensures flag.alone).ends in
    let guarded = c.in_ok-push_between.ensures.guarded in
    let no_line = between-no_line inside here reasons in
    let line_more = (c.in_ok-push_line.ensures flag.alone).guarded in
    let one_line = kept-one_line here flag in
    let few = c.loop-line.invariant in
    let few_ends = few.ends in
    let few_lines = few.guarded in
    let shorter = c.in-Some.ensures.shorter in
    record {
      complete = rw (c.later_marks-left.ensures, c.off_after-off.ensures, same_body) after_line;
      ends = omega (arith, ends, one_end, no_end, few_ends, shorter);
      guarded = omega (arith, guarded, no_line, line_more, one_line, few_lines, shorter);
    }
