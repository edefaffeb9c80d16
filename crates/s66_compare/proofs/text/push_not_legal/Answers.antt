use Rattle.std.proofs.Common.{◌≡◌, ◌<◌, ◌++◌, ap, arith, length, rules, true, slice_get}
use Rattle.std.proofs.lemmas.Result.{IfOk-equal}
use Rattle.s66_compare.specs.{broken_text, not_legal_text}
use Rattle.s66_compare.proofs.BlockPlaces.{told_by_text}
use Rattle.s66_compare.proofs.text.push_not_legal.Goals as goal

pub returns : goal.returns
returns c =
    let out = c.args.out.now.items in
    let new = c.args.new.now in
    let place = c.args.place in
    let order = c.args.order.now in
    let asked : c.args.text ≡ true = search rules in
    let below : place < length new = omega arith in
    IfOk-equal c.push_broken.result c.push_broken.new.out.items (out ++ broken_text c.index-new-place.result order c.args.number c.args.missing) (out ++ not_legal_text c.args.text (slice_get new place) order c.args.number c.args.missing) c.push_broken.ensures
    (ap (λ text. out ++ text) (told_by_text c.args.text new place c.index-new-place.result order c.args.number c.args.missing asked below c.index-new-place.is))
