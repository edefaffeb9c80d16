use Rattle.std.proofs.Common.{◌≡◌, ◌++◌, ◌∙◌, ap, replicate, drop, length, arith, rules}
use Rattle.std.proofs.lemmas.List.FromFn.{length-map-range_with_len}
use Rattle.s66_why.proofs.Runs.{until-filled}
use Rattle.s66_why.proofs.row.fill_until.Goals as goal

pub returns-clause-letters : goal.returns-clause-letters
returns-clause-letters c = λ others count is.
    let m = c.min-end.result in
    let all : length c.args.letters.now ≡ count = ap length is ∙ length-map-range_with_len others 0 count in
    let run : c.fill.new.self ≡ replicate m c.args.letter = search rules in
    ap (λ letters. letters ++ drop m c.args.letters.now) run ∙ ap (λ letters. replicate m c.args.letter ++ drop m letters) is
    ∙ until-filled others c.args.letter c.args.end 0 count m (omega (arith, c.min-end.ensures, all))
