use Rattle.std.proofs.Common.{subst, sym}
use Rattle.s66_source.specs.Halves.{Halves}
use Rattle.s66_source.specs.{Reading}
use Rattle.s66_program.specs.{IsViewOf}
use Rattle.s66_program.proofs.compare_text.compare_output.Goals as goal

pub returns-clause-ok : goal.returns-clause-ok
returns-clause-ok c =
    let (accepted, compared, ended) = c.in_ok-compared_output.ensures in
    let p = c.args.profile.now in
    let view = c.args.view in
    let text = c.in_ok-compared_output.field-0.text.items in
    let old = c.halves.inside.old.now in
    let of-old = subst (λ (read : Reading). IsViewOf p view read c.in_ok-new.new text accepted) c.in_ok-old.ensures.source compared in
    let of-both = subst (λ (read : Reading). IsViewOf p view (record { cut = c.args.cut; text = old }) read text accepted) c.in_ok-new.ensures.source of-old in
    let of-halves = subst (λ (h : Halves). IsViewOf p view (record { cut = c.args.cut; text = h.old }) (record { cut = c.args.cut; text = h.new }) text accepted) c.halves.view_is of-both in
    (c.in-Some.halves, sym c.in-Some.ensures, (accepted, of-halves, ended))
