use Rattle.std.proofs.Common.{ap, ◌∙◌, ◌≡◌, max, set, get_or, length, ◌<◌, subst, rules}
use Rattle.s66_isa.specs.{index_of, word_of}
use Rattle.s66_isa.proofs.RegisterBits.{raised-word}
use Rattle.s66_checker.proofs.replay.words.RegisterWords.raise.Goals as goal

pub returns : goal.returns
returns c = λ r low.
    let words = c.args.self.now.words in
    let x = c.args.register in
    let place : c.index-place.result ≡ index_of x = c.index-place.ensures.value in
    let within : c.index-place.result < length words = search rules in
    ap (λ v. word_of (set words c.index-place.result v) r) c.max.ensures
    ∙ ap (λ k. word_of (set words k (max (get_or words k 0) c.args.time)) r) place
    ∙ raised-word words x r c.args.time c.index-place.ensures.digit low (subst (λ i. i < length words) place within)
