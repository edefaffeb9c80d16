use Rattle.std.proofs.Common.{◌∙◌, ap, subst}
use Rattle.s66_isa.specs.{Among}
use Rattle.s66_source.specs.{Placed}
use Rattle.s66_program.proofs.PlacedBlocks.{source-within}
use Rattle.s66_program.proofs.sum_text.row_of.Goals as goal

pub words_of-requires-clause-numbers : goal.words_of-requires-clause-numbers
words_of-requires-clause-numbers c = λ n among.
    source-within c.args.block.now n (subst (Among n) (c.numbers.ensures.value ∙ c.source-source.ensures.numbers) among)

pub words_of-requires-2-clause-numbers : goal.words_of-requires-2-clause-numbers
words_of-requires-2-clause-numbers c = λ n among. c.requires n (subst (Among n) (c.as_slice-2.ensures.value ∙ ap (λ (v : Placed). v.order) c.found.view_is) among)
