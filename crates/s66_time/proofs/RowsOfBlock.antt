-- The rows that a clock works out once are those of its block's instructions.
use Rattle.std.proofs.Common.{ℕ, zero, suc, ◌≡◌, ◌≤◌, ◌<◌, List, [], ◌∷◌, refl, ap, sym, ◌∙◌, map, get_or, length, arith, inl, inr}
use Rattle.std.proofs.lemmas.List.{get_or-map}
use Rattle.s66_isa.specs.Table.{Instr}
use Rattle.s66_isa.specs.{Row, row, kind_of, instr_at, idle_instr, Profile}
use Rattle.s66_isa.proofs.Lists.{cases_le}
use Rattle.s66_model.specs.{HasDigits}

-- the row of a number
pub row-at : (p : Profile) (is : List Instr) (rows : List Row) (place n : ℕ) (d : Row) → rows ≡ map (row p) is → d ≡ get_or rows place d → n ≡ suc place → place < length is → d ≡ row p (instr_at is n)
row-at p is rows place n d e1 e2 e3 lt =
    e2 ∙ ap (λ xs. get_or xs place d) e1 ∙ get_or-map (row p) is place idle_instr d lt ∙ ap (λ m. row p (instr_at is m)) (sym e3)

pub row-kind : (p : Profile) (i : Instr) → (row p i).kind ≡ kind_of i.op.code
unfolding row
row-kind p i = refl

-- THE DIGITS: those of no instruction are 0

pub digits-past : (block : List Instr) (i : ℕ) → length block ≤ i → HasDigits (get_or block i idle_instr)
digits-past [] i past = (omega arith, omega arith, omega arith)
digits-past (n ∷ block) zero past = absurd (omega arith)
digits-past (n ∷ block) (suc i) past = digits-past block i (omega arith)

pub digits-all : (block : List Instr) (count : ℕ) → length block ≤ count → ((i : ℕ) → i < count → HasDigits (get_or block i idle_instr)) → (n : ℕ) → HasDigits (instr_at block n)
digits-all block count le h zero = (omega arith, omega arith, omega arith)
digits-all block count le h (suc i) =
    elim (cases_le count i) [
      | inl past ↦ digits-past block i (omega arith)
      | inr within ↦ h i within
    ]
