use Rattle.std.proofs.Common.{rules, ℕ, List, ◌+◌, ◌*◌, ◌^◌, ◌<◌, ◌≤◌, ◌≡◌, ◌&&◌, true, false, drop, get_or, length, ◌∙◌, ap, sym, arith, lt-ltb, le-ltb, ltb-true}
use Rattle.std.proofs.lemmas.Bool.{and_parts}
use Rattle.std.proofs.lemmas.List.{at_drop_more, drop_all}
use Rattle.s66_isa.specs.{Row, BLOCK_LIMIT}
use Rattle.s66_model.specs.{Problem, row_at, is_remaining, walk, is_linked, tail}
use Rattle.s66_model.proofs.PointTimes.{good-at}
use Rattle.s66_model.proofs.Remaining.{remaining-parts}
use Rattle.s66_checker.specs.{is_walk}
use Rattle.s66_checker.proofs.LeafBounds.{link-le, tail-le, walk-on, walk-off}
use Rattle.s66_checker.proofs.leaf.walk.Goals as goal

pub overflow_add-time : goal.overflow_add-time
overflow_add-time c =
    let b = c.args.prefix.now.problem in
    let (low, high, new) = remaining-parts b.block c.args.prefix.now.numbers c.loop-m.last c.loop-m.invariant.remains in
    let some : 0 < c.wait-wait.result = omega (arith, c.if-wait-eq0.false) in
    let fits : c.loop-m.time + c.wait-wait.result < 2 ^ 32 =
    omega (arith, c.loop-m.invariant.small, high, c.requires.few, c.wait-wait.ensures.value some, link-le (row_at b c.loop-m.last) (row_at b (get_or c.args.later.now c.loop-m.m-index 0)) (good-at b c.loop-m.last))
    in
    search rules

pub returns-then-wait-eq0-clause-links : goal.returns-then-wait-eq0-clause-links
returns-then-wait-eq0-clause-links c =
    let b = c.args.prefix.now.problem in
    let ns = c.args.prefix.now.numbers in
    let last = c.loop-m.last in
    let i = c.loop-m.m-index in
    let later = c.args.later.now in
    let m = get_or later i 0 in
    let stops : (is_remaining b.block ns m && is_linked b last m) ≡ false = sym c.wait-wait.ensures.links ∙ le-ltb 0 c.wait-wait.result (omega (arith, c.if-wait-eq0.true)) in
    sym (walk-off b ns last m (drop (i + 1) later) stops) ∙ sym (at_drop_more (is_walk b ns last) later i 0 c.loop-m-test.true) ∙ c.loop-m.invariant.links

pub loop-m-preserved : goal.loop-m-preserved
loop-m-preserved c =
    let b = c.args.prefix.now.problem in
    let ns = c.args.prefix.now.numbers in
    let last = c.loop-m.last in
    let i = c.loop-m.m-index in
    let later = c.args.later.now in
    let m = get_or later i 0 in
    let inv = c.loop-m.invariant in
    let some : 0 < c.wait-wait.result = omega (arith, c.if-wait-eq0.false) in
    let goes : (is_remaining b.block ns m && is_linked b last m) ≡ true = sym c.wait-wait.ensures.links ∙ lt-ltb 0 c.wait-wait.result some in
    let parts = and_parts (is_remaining b.block ns m) (is_linked b last m) goes in
    let rising = ltb-true last m (and_parts _ _ parts.1).0 in
    record {
      remains = parts.0;
      links = sym (at_drop_more (is_walk b ns last) later i 0 c.loop-m-test.true ∙ walk-on b ns last m (drop (i + 1) later) inv.remains goes) ∙ inv.links;
      value = omega (arith, inv.value, at_drop_more (walk b last) later i 0 c.loop-m-test.true, c.wait-wait.ensures.value some);
      small = omega (arith, inv.small, rising, c.wait-wait.ensures.value some, link-le (row_at b last) (row_at b m) (good-at b last));
    }

pub row-requires : goal.row-requires
row-requires c =
    let (low, high, new) = remaining-parts c.args.prefix.now.problem.block c.args.prefix.now.numbers c.loop-m.last c.loop-m.invariant.remains in
    (low, high)

small : (b : Problem) (prefix : List ℕ) (last time own : ℕ) (r : Row) → is_remaining b.block prefix last ≡ true → length b.block ≤ BLOCK_LIMIT → time ≤ 100 * last → own ≡ tail r → r ≡ row_at b last → time + own ≤ 100 * BLOCK_LIMIT + 101
small b prefix last time own r stays few le own_is row_is =
    let (low, high, new) = remaining-parts b.block prefix last stays in
    omega (arith, le, high, few, own_is, ap tail row_is, tail-le (row_at b last) (good-at b last))

pub overflow_add-result : goal.overflow_add-result
overflow_add-result c =
    let fits : c.loop-m.time + c.tail.result < 2 ^ 32 =
    omega (arith, small c.args.prefix.now.problem c.args.prefix.now.numbers c.loop-m.last c.loop-m.time c.tail.result c.row.result.now c.loop-m.invariant.remains c.requires.few c.loop-m.invariant.small c.tail.ensures c.row.ensures)
    in
    search rules

pub returns : goal.returns
returns c =
    let b = c.args.prefix.now.problem in
    record {
      links =
          let ns = c.args.prefix.now.numbers in
          let inv = c.loop-m.invariant in
          sym inv.remains ∙ ap (is_walk b ns c.loop-m.last) (sym (drop_all c.loop-m.m-index c.args.later.now c.loop-m-test.false)) ∙ inv.links;
      value = omega (arith, c.loop-m.invariant.value, ap (walk b c.loop-m.last) (drop_all c.loop-m.m-index c.args.later.now c.loop-m-test.false), c.tail.ensures, ap tail c.row.ensures);
      at_most = omega (arith, small c.args.prefix.now.problem c.args.prefix.now.numbers c.loop-m.last c.loop-m.time c.tail.result c.row.result.now c.loop-m.invariant.remains c.requires.few c.loop-m.invariant.small c.tail.ensures c.row.ensures);
    }
