use Rattle.std.proofs.Common.{refl, ap, sym, ◌∙◌, ◌+◌, ◌∷◌, drop, length, arith}
use Rattle.s66_model.specs.{vertices_of}
use Rattle.s66_model.specs.declared.lines.Mark.TheVariants.{Split}
use Rattle.s66_model.proofs.Marks.{begin-within, count-within, line-is}
use Rattle.s66_model.proofs.lines.line_at.Goals as goal

pub split_at-requires : goal.split_at-requires
split_at-requires c = begin-within c.args.marks.now c.args.numbers.now c.args.begins.now c.args.place (Split 0) c.requires.kept c.requires.within

pub split_at-requires-2 : goal.split_at-requires-2
split_at-requires-2 c =
    omega (arith, c.number_count.ensures, ap length c.split_at.ensures.back, count-within c.args.marks.now c.args.numbers.now c.args.begins.now c.args.place (Split 0) c.requires.kept c.requires.within)

pub returns : goal.returns
returns c =
    line-is c.args.marks.now c.args.numbers.now c.args.begins.now c.args.place (Split 0) c.requires.kept c.requires.within
    ∙ ap (λ k. k ∷ drop (c.args.place + 1) (vertices_of c.args.marks.now c.args.numbers.now))
    (sym (c.with.ensures ∙ rw (c.split_at-2.ensures.front, c.number_count.ensures, c.split_at.ensures.back) refl))
