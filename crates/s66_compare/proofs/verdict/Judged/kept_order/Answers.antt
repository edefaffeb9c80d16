use Rattle.std.proofs.Common.{◌≡◌, ◌∙◌, ap, subst, sym, true, true≢false}
use Rattle.s66_model.specs.{IsLegal}
use Rattle.s66_line.specs.{instrs_of}
use Rattle.s66_compare.specs.{paired, Judged, is_kept, verdict_of}
use Rattle.s66_compare.proofs.Legal.{kept-legal}
use Rattle.s66_compare.proofs.verdict.Judged.kept_order.Goals as goal

pub unreachable-requires : goal.unreachable-requires
unreachable-requires c =
    let old = c.args.old.now in
    let (new, is) = c.requires in
    let whole = c.self.view_is ∙ is in
    let order : c.self.inside.order.items ≡ paired old new = ap (λ (j : Judged). j.order) whole in
    let kept : is_kept (verdict_of old new (paired old new)) ≡ true = sym (ap (λ (j : Judged). is_kept j.verdict) whole) ∙ sym c.if-not-is_kept.ensures in
    let legal = (kept-legal old new kept).0 in
    true≢false (sym (c.in-Err.ensures.taken.1 (subst (IsLegal (instrs_of old)) (sym (c.as_slice.ensures.value ∙ order)) legal)))
