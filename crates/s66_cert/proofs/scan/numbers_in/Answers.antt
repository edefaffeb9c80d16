use Rattle.std.proofs.Common.{◌≡◌, ℕ, List, length, Bor, ap, sym, Option, arith, eqb-true, ◌<◌, option_map}
use Rattle.std.proofs.lemmas.Bool.{eqb-false}
use Rattle.s66_cert.proofs.Short.{numbers-none, numbers-too_many, numbers-some, numbers-all, below}
use Rattle.s66_cert.proofs.scan.numbers_in.Goals as goal

abbrev seen : Option (Bor (List ℕ)) → Option (List ℕ)
seen o = option_map (λ (r : Bor (List ℕ)). r.now) o

pub returns-in-None : goal.returns-in-None
returns-in-None g c =
    numbers-none c.args.low c.args.high g.row.N c.loop-left.numbers.items c.in-Some.bytes.now c.split_word.result.0.now (seen c.loop-left.left) (seen c.split_word.result.1) _ (ap seen c.in-Some.is) c.split_word.ensures.word c.split_word.ensures.rest c.in-None.ensures.value c.loop-left.invariant.value

pub returns-then-is_full : goal.returns-then-is_full
returns-then-is_full g c =
    numbers-too_many c.args.low c.args.high g.row.N c.in-Some-number_in.number c.loop-left.numbers.items c.in-Some.bytes.now c.split_word.result.0.now (seen c.loop-left.left) (seen c.split_word.result.1) _ (ap seen c.in-Some.is) c.split_word.ensures.word c.split_word.ensures.rest c.in-Some-number_in.ensures.value
    (eqb-true (length c.loop-left.numbers.items) g.row.N (sym c.if-is_full.ensures.value)) c.loop-left.invariant.value

pub loop-left-preserved : goal.loop-left-preserved
loop-left-preserved g c = record {
  value = rw c.push.ensures.items (numbers-some c.args.low c.args.high c.in-Some-number_in.number c.loop-left.numbers.items c.in-Some.bytes.now c.split_word.result.0.now (seen c.loop-left.left) (seen c.split_word.result.1) _ (ap seen c.in-Some.is) c.split_word.ensures.word c.split_word.ensures.rest c.in-Some-number_in.ensures.value c.loop-left.invariant.value);
  few =
      let differs : length c.loop-left.numbers.items ≡ g.row.N → ⊥ = eqb-false (length c.loop-left.numbers.items) g.row.N (sym c.if-is_full.ensures.value) in
      let less : length c.loop-left.numbers.items < g.row.N = below (length c.loop-left.numbers.items) g.row.N c.loop-left.invariant.few differs in
      omega (arith, c.push.ensures.len, less);
}

pub returns : goal.returns
returns g c = numbers-all c.args.low c.args.high g.row.N c.loop-left.numbers.items (seen c.loop-left.left) _ (ap seen c.in_default.is) c.loop-left.invariant.few c.loop-left.invariant.value
