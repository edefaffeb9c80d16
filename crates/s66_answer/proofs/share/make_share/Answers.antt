use Rattle.std.proofs.Common.{◌<◌, All, Bool, true, false, if◌then◌else◌, List, [], ◌∷◌, ◌++◌, subst, sym, is_ok}
use Rattle.std.proofs.lemmas.List.Elements.{All-nil, All-push}
use Rattle.s66_answer.specs.{Made}
use Rattle.s66_answer.proofs.share.make_share.Goals as goal

either : {X : Type 0} (P : X → Type 0) (t : Bool) (xs ys : List X) → All P xs → All P ys → All P (if t then xs else ys)
either P true xs ys first second = first
either P false xs ys first second = second

pub loop-init : goal.loop-init
loop-init g c =
    let held = λ (m : Made g.row.T.Denot). (m.number < c.args.count) × g.W.Task.gives c.args.task.now m.number m.value in
    subst (All held) (sym c.new-share.ensures.items) (All-nil held)

pub make-requires : goal.make-requires
make-requires g c = c.requires c.fetch_add-number.result c.if-count-number.false

pub loop-preserved : goal.loop-preserved
loop-preserved g c =
    let held = λ (m : Made g.row.T.Denot). (m.number < c.args.count) × g.W.Task.gives c.args.task.now m.number m.value in
    let items = c.loop.share.items in
    let m : Made g.row.T.Denot = record { number = c.fetch_add-number.result; value = c.in-Ok.value } in
    subst (All held) (sym c.push.ensures.items)
    (either held (is_ok c.push.result) (items ++ m ∷ []) items (All-push held items m c.loop.invariant (c.if-count-number.false, c.in-Ok.ensures)) c.loop.invariant)
