use Rattle.std.proofs.Common.{length, sym, ap, ◌∙◌, bytes_eq, ne_eqb}
use Rattle.std.proofs.lemmas.Bool.{false_from_ne_true}
use Rattle.std.proofs.lemmas.Slice.Eq.{bytes_eq-Decides}
use Rattle.s66_line.specs.{upper}
use Rattle.s66_line.proofs.UpperCase.{length-upper}
use Rattle.s66_source.proofs.standing.is_name.Goals as goal

pub returns-else-word-name : goal.returns-else-word-name
returns-else-word-name c =
    let word = c.args.word.now in
    let name = c.args.name.now in
    ne_eqb (length word) (length name) c.if-word-name.false
    ∙ sym (false_from_ne_true (bytes_eq (upper word) name) (λ same. c.if-word-name.false (sym (length-upper word) ∙ ap length ((bytes_eq-Decides (upper word) name).0 same))))
