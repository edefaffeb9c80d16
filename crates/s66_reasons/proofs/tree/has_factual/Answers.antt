use Rattle.std.proofs.Common.{◌∙◌, ap, sym}
use Rattle.s66_isa.specs.{some_of}
use Rattle.s66_cert.specs.{is_factual}
use Rattle.s66_reasons.proofs.tree.has_factual.Goals as goal

pub returns : goal.returns
returns c = c.some_factual.ensures ∙ ap (some_of is_factual) (c.tree.ensures.value ∙ sym c.tree.ensures.whole.preorder)
