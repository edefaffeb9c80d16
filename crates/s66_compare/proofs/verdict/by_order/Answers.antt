use Rattle.std.proofs.Common.{ℕ, ◌-◌, ◌∙◌, ◌||◌, List, [], ap, sym, arith, take, get_or, length, eqb}
use Rattle.std.proofs.lemmas.List.{take_more}
use Rattle.s66_isa.specs.{has, numbers}
use Rattle.s66_model.proofs.LegalOrders.{has-push}
use Rattle.s66_line.specs.{instrs_of}
use Rattle.s66_time.proofs.Opened.{count-needs}
use Rattle.s66_compare.specs.{is_missing, kept_verdict}
use Rattle.s66_compare.proofs.Missing.{first-none, first-some, missing-are}
use Rattle.s66_compare.proofs.Pairs.{order_next, order_stop, within_at}
use Rattle.s66_compare.proofs.verdict.by_order.Goals as goal

pub needs-requires : goal.needs-requires
needs-requires c =
    let block = instrs_of c.args.old.now in
    let range = within_at (length block) c.args.order.now c.loop-number.number-index 0 c.requires c.loop-number-test.true in
    (range.0, omega (arith, range.1, ap (λ (all : List (List ℕ)). length all) c.of-dependences.ensures, count-needs block))

pub with-before-requires : goal.with-before-requires
with-before-requires c =
    let range = within_at (length (instrs_of c.args.old.now)) c.args.order.now c.loop-number.number-index 0 c.requires c.loop-number-test.true in
    (range.0, omega (arith, range.1))

pub returns-in-Some : goal.returns-in-Some
returns-in-Some c =
    let block = instrs_of c.args.old.now in
    let ns = c.args.order.now in
    let i = c.loop-number.number-index in
    let n = get_or ns i 0 in
    let (low, high) = within_at (length block) ns i 0 c.requires c.loop-number-test.true in
    let needs = c.needs.ensures ∙ ap (λ (all : List (List ℕ)). get_or all (n - 1) []) c.of-dependences.ensures in
    let are = missing-are block c.loop-number.before c.without-missing.result (take i ns) _ n (omega arith) low high needs c.loop-number.invariant.before c.without-missing.ensures in
    let first = first-some (is_missing block (take i ns) n) (numbers block) c.in-Some.first _ (sym are ∙ c.in-Some.ensures.some) in
    sym (order_stop block (kept_verdict block ns) ns i 0 c.in-Some.first c.loop-number-test.true (sym first) c.in-Some.ensures.range.0) ∙ c.loop-number.invariant.all

pub loop-number-preserved : goal.loop-number-preserved
loop-number-preserved c =
    let block = instrs_of c.args.old.now in
    let ns = c.args.order.now in
    let i = c.loop-number.number-index in
    let n = get_or ns i 0 in
    let below = c.loop-number-test.true in
    let (low, high) = within_at (length block) ns i 0 c.requires below in
    let needs = c.needs.ensures ∙ ap (λ (all : List (List ℕ)). get_or all (n - 1) []) c.of-dependences.ensures in
    let are = missing-are block c.loop-number.before c.without-missing.result (take i ns) _ n (omega arith) low high needs c.loop-number.invariant.before c.without-missing.ensures in
    let none = first-none (is_missing block (take i ns) n) (numbers block) (sym are ∙ c.in_default.ensures.none) in
    record {
      all = sym (order_next block (kept_verdict block ns) ns i 0 below none) ∙ c.loop-number.invariant.all;
      before = λ m. c.with-before.ensures m ∙ (ap (λ b. eqb m n || b) (c.loop-number.invariant.before m) ∙ (sym (has-push m n (take i ns)) ∙ ap (has m) (sym (take_more ns i 0 below))));
    }
