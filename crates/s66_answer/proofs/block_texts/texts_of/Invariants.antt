use Rattle.std.proofs.Common.{◌≡◌, ◌++◌, ◌+◌, ◌-◌, length, map}
use Rattle.s66_isa.specs.{rising}
use Rattle.s66_line.specs.{instrs_of, text_of}
use Rattle.s66_answer.specs.{IsSpelledTo, texts_of}
use Rattle.s66_answer.proofs.block_texts.texts_of.Given as goal

abbrev pub invariant-loop-position : goal.invariant-loop-position
invariant-loop-position l = record {
  texts : l.texts.items ++ map (text_of l.block) (rising (length (instrs_of l.block) - l.position) (l.position + 1)) ≡ texts_of l.block;
  spelled : IsSpelledTo l.block l.position;
}
