use Rattle.std.proofs.Common.{◌≡◌, ◌<◌, ℕ, zero, suc, List, [], ◌∷◌, length, map, get_or, ap, sym, subst, arith, inl, inr, Vec, Global}
use Rattle.s66_isa.specs.{Among}
use Rattle.s66_line.specs.{IsInstruction}
use Rattle.s66_line.proofs.block.Block.of.Goals as goal

-- the bytes of an item are among those of the list
among-item : (texts : List (Vec ℕ Global)) (i : ℕ) (text : Vec ℕ Global) → i < length texts → text ≡ get_or texts i text → Among text.items (map (λ (t : Vec ℕ Global). t.items) texts)
among-item [] i text within is = absurd (omega (arith, within))
among-item (t ∷ texts) zero text within is = inl (ap (λ (u : Vec ℕ Global). u.items) is)
among-item (t ∷ texts) (suc i) text within is = inr (among-item texts i text (omega (arith, within)) is)

pub entry_of-requires : goal.entry_of-requires
entry_of-requires c =
    subst IsInstruction (sym c.as_slice.ensures.value)
    (c.requires.texts c.index-texts-position.result.items (among-item c.args.texts.now c.loop-position.position c.index-texts-position.result c.loop-position-test.true c.index-texts-position.is))
