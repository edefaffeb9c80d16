use Rattle.std.proofs.Common.{ℕ, ◌≤◌, ◌≡◌, ◌∙◌, ◌%◌, max, List, leb, reverse, arith, ap, sym}
use Rattle.s66_model.specs.{Point, next, next_parcel, Clamp, stores_wait}
use Rattle.s66_checker.proofs.WordsNoLater.{writers-stated, readers-stated, references-stated, stores-stated, writers-fail, readers-fail, units-fail, references-fail, stores-left}
use Rattle.s66_checker.proofs.replay.dominance.is_no_later.Goals as goal

abbrev both : ℕ → ℕ → Clamp
both readers others = record { readers = readers; others = others }

pub returns-then-not-are_no_later : goal.returns-then-not-are_no_later
returns-then-not-are_no_later c =
    writers-fail c.args.profile.now (both c.args.readers c.args.others) (reverse c.args.own.now) (reverse c.args.other.now) c.are_no_later.result
    (writers-stated c.args.own.now c.args.other.now c.words-first.result.now c.words-second.result.now c.words-first.ensures c.words-second.ensures c.args.others c.are_no_later.result c.are_no_later.ensures) c.if-not-are_no_later.true

pub returns-then-not-are_no_later-2 : goal.returns-then-not-are_no_later-2
returns-then-not-are_no_later-2 c =
    readers-fail c.args.profile.now (both c.args.readers c.args.others) (reverse c.args.own.now) (reverse c.args.other.now) c.are_no_later-2.result
    (readers-stated c.args.own.now c.args.other.now c.words-first.result.now c.words-second.result.now c.words-first.ensures c.words-second.ensures c.args.readers c.are_no_later-2.result c.are_no_later-2.ensures) c.if-not-are_no_later-2.true

pub returns-then-not-are_all_units_no_later : goal.returns-then-not-are_all_units_no_later
returns-then-not-are_all_units_no_later c =
    units-fail c.args.profile.now (both c.args.readers c.args.others) (reverse c.args.own.now) (reverse c.args.other.now) c.are_all_units_no_later.result c.are_all_units_no_later.ensures c.if-not-are_all_units_no_later.true

pub returns-then-first-max : goal.returns-then-first-max
returns-then-first-max c =
    references-fail c.args.profile.now (both c.args.readers c.args.others) (reverse c.args.own.now) (reverse c.args.other.now)
    (omega (arith, c.if-first-max.true, c.max.ensures, references-stated c.args.own.now c.words-first.result.now c.words-first.ensures, references-stated c.args.other.now c.words-second.result.now c.words-second.ensures))

pub returns : goal.returns
returns c =
    let xs = c.args.own.now in
    let ys = c.args.other.now in
    let w = c.words-first.result.now in
    let v = c.words-second.result.now in
    let of_xs = c.words-first.ensures in
    let of_ys = c.words-second.ensures in
    let others = c.args.others in
    let slot : next (reverse xs) ≤ next (reverse ys) =
    omega (arith, c.if-next.false, c.next.ensures.value, c.next-2.ensures.value, ap (λ (ps : List Point). next (reverse ps)) c.points.ensures, ap (λ (ps : List Point). next (reverse ps)) c.points-2.ensures)
    in
    let phase : next_parcel (reverse xs) % 4 ≡ next_parcel (reverse ys) % 4 =
    ap (λ (ps : List Point). next_parcel (reverse ps) % 4) (sym c.points-3.ensures) ∙ ap (λ k. k % 4) (sym c.next_parcel.ensures.value)
    ∙ c.if-next_parcel.false
    ∙ ap (λ k. k % 4) c.next_parcel-2.ensures.value ∙ ap (λ (ps : List Point). next_parcel (reverse ps) % 4) c.points-4.ensures in
    stores-left c.args.profile.now (both c.args.readers others) (reverse xs) (reverse ys) slot phase c.are_no_later.result c.are_no_later-2.result c.are_all_units_no_later.result
    (writers-stated xs ys w v of_xs of_ys others c.are_no_later.result c.are_no_later.ensures) c.if-not-are_no_later.false
    (readers-stated xs ys w v of_xs of_ys c.args.readers c.are_no_later-2.result c.are_no_later-2.ensures) c.if-not-are_no_later-2.false
    c.are_all_units_no_later.ensures c.if-not-are_all_units_no_later.false
    (omega (arith, c.if-first-max.false, c.max.ensures, references-stated xs w of_xs, references-stated ys v of_ys))
    (leb w.load c.max-2.result)
    (ap (λ k. leb k c.max-2.result) (stores-stated xs w of_xs) ∙ ap (leb (stores_wait (reverse xs))) (c.max-2.ensures ∙ ap (λ k. max k others) (stores-stated ys v of_ys)))
