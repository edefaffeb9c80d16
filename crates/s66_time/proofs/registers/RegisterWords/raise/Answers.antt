use Rattle.std.proofs.Common.{ap, ◌∙◌, ◌≡◌, max, set, get_or, refl, length, ◌<◌, subst, rules, take}
use Rattle.std.proofs.lemmas.List.{take_more_set}
use Rattle.s66_isa.specs.{index_of, word_of}
use Rattle.s66_isa.proofs.RegisterBits.{raised-word}
use Rattle.s66_time.specs.{put_back}
use Rattle.s66_time.proofs.Back.{put_back-saved}
use Rattle.s66_time.proofs.registers.RegisterWords.raise.Goals as goal

pub returns-clause-saved : goal.returns-clause-saved
returns-clause-saved p c =
    let place = c.index-place.result in
    let words = c.args.self.now.words in
    ap (λ ws. put_back ws (set words place c.max.result)) (take_more_set c.args.saved.now c.args.at _ (search rules))
    ∙ put_back-saved (take c.args.at c.args.saved.now) _ words c.max.result refl

pub returns-clause-words : goal.returns-clause-words
returns-clause-words p c = λ r low.
    let words = c.args.self.now.words in
    let x = c.args.register in
    let place : c.index-place.result ≡ index_of x = c.index-place.ensures.value in
    let within : c.index-place.result < length words = search rules in
    ap (λ v. word_of (set words c.index-place.result v) r) c.max.ensures
    ∙ ap (λ k. word_of (set words k (max (get_or words k 0) c.args.time)) r) place
    ∙ raised-word words x r c.args.time c.index-place.ensures.digit low (subst (λ i. i < length words) place within)
