use Rattle.std.proofs.Common.{◌∙◌, ap, subst}
use Rattle.s66_isa.specs.{Among}
use Rattle.s66_source.specs.{Placed}
use Rattle.s66_source.proofs.keeper.Keeper.push_anew.Goals as goal

pub push_order-requires : goal.push_order-requires
push_order-requires c = λ n among. c.requires.placed n (subst (Among n) (c.as_slice.ensures.value ∙ ap (λ (p : Placed). p.order) c.placed.view_is) among)
