use Rattle.std.proofs.Common.{ℕ, List, ◌<◌, subst, sym, ap, ◌∙◌, length}
use Rattle.s66_line.specs.{word}
use Rattle.s66_source.proofs.DefinedNames.{long-adds-nothing}
use Rattle.s66_source.proofs.redefined.Redefined.take_definition.Goals as goal

pub returns-then-operation-gt-LONGEST_NAME : goal.returns-then-operation-gt-LONGEST_NAME
returns-then-operation-gt-LONGEST_NAME c =
    sym (long-adds-nothing c.args.self.now c.args.body.now c.requires.own
    (subst (λ (name : List ℕ). 6 < length name) (c.split_word.ensures.word ∙ ap word c.requires.bytes) c.if-operation-gt-LONGEST_NAME.true))
