use Rattle.std.proofs.Common.{◌≡◌, ◌+◌, ◌++◌, ◌∷◌, ◌∙◌, List, ℕ, [], length, ap, sym, subst, arith, length-append}
use Rattle.s66_line.specs.{instrs_of, whole_text_of}
use Rattle.s66_compare.specs.{AreWithin, partner, partners}
use Rattle.s66_compare.proofs.Pairs.{partners_next, texts_from, within_push}
use Rattle.s66_compare.proofs.pairing.paired.Goals as goal

pub loop-position-preserved : goal.loop-position-preserved
loop-position-preserved c =
    let old = c.args.old.now in
    let new = c.args.new.now in
    let i = c.loop-position.position in
    let n = c.in-Some.number in
    let taken = c.loop-position.taken.items in
    let text = c.as_slice-in-loop-position.ensures.value ∙ c.whole_text-text.ensures in
    let is : n ≡ partner old taken (whole_text_of new (i + 1)) =
    c.in-Some.ensures.some ∙ ap (λ ns. partner old ns c.as_slice-in-loop-position.result.now) c.as_slice.ensures.value ∙ ap (partner old taken) text in
    let pushed : c.push.new.self.items ≡ taken ++ n ∷ [] = c.push.ensures.items in
    let counted : length (taken ++ n ∷ []) ≡ length taken + 1 = length-append taken (n ∷ []) in
    record {
      all = ap (λ ns. partners old ns (texts_from new (i + 1))) pushed ∙ sym (partners_next old new taken i n (omega arith) is c.in-Some.ensures.range.0) ∙ c.loop-position.invariant.all;
      count = ap (λ (ns : List ℕ). length ns) pushed ∙ counted ∙ ap (λ k. k + 1) c.loop-position.invariant.count;
      within = subst (AreWithin (length (instrs_of old))) (sym pushed) (within_push (length (instrs_of old)) taken n c.loop-position.invariant.within c.in-Some.ensures.range.0 c.in-Some.ensures.range.1);
    }
