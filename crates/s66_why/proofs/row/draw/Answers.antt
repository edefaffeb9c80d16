use Rattle.std.specs.List.{range_with_len}
use Rattle.std.proofs.Common.{◌≡◌, ◌∙◌, length, map, replicate, rules}
use Rattle.s66_why.specs.{IDLE, runs}
use Rattle.s66_why.proofs.Runs.{one-letter, runs-letters}
use Rattle.s66_why.proofs.row.draw.Goals as goal

pub returns : goal.returns
returns c =
    let n = length c.args.letters.now in
    let idle : c.fill.new.self ≡ replicate n IDLE = search rules in
    let drawn : c.fill_until-5.new.letters ≡ map (runs c.args.activity.now) (range_with_len 0 n) =
    c.fill_until-5.ensures.letters _ n (c.fill_until-4.ensures.letters _ n (c.fill_until-3.ensures.letters _ n (c.fill_until-2.ensures.letters _ n (c.fill_until.ensures.letters _ n (idle ∙ one-letter IDLE 0 n))))) in
    drawn ∙ runs-letters c.args.activity.now (range_with_len 0 n) c.requires
