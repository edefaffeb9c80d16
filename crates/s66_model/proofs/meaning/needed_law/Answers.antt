use Rattle.std.proofs.Common.{◌≡◌, ap}
use Rattle.s66_isa.specs.{Reg, x_reg}
use Rattle.s66_model.specs.{Contents}
use Rattle.s66_model.proofs.meaning.needed_law.Goals as goal

-- two that mean the same hold the same in a register
register : (r : Reg) {a b : Contents} → a ≡ b → a.registers r ≡ b.registers r
register r same = ap (λ (s : Contents). s.registers r) same

-- BX1 X2 / BX3 X1: X3 holds another value
pub returns-clause-read : goal.returns-clause-read
returns-clause-read c = λ same. (let held = register (x_reg 3) same in cc)

-- BX3 X1 / BX1 X2
pub returns-clause-overwritten : goal.returns-clause-overwritten
returns-clause-overwritten c = λ same. (let held = register (x_reg 3) same in cc)

-- BX1 X2 / MX1: X1 holds the result of the first
pub returns-clause-written_twice : goal.returns-clause-written_twice
returns-clause-written_twice c = λ same. (let held = register (x_reg 1) same in cc)

-- SA6 A6+B1 / SA1 A2+B2: X1 comes from another storage
pub returns-clause-load_after_store : goal.returns-clause-load_after_store
returns-clause-load_after_store c = λ same. (let held = register (x_reg 1) same in cc)

-- SA1 A2+B2 / SA6 A6+B1
pub returns-clause-store_after_load : goal.returns-clause-store_after_load
returns-clause-store_after_load c = λ same. (let held = register (x_reg 1) same in cc)

-- SA6 A6+B1 / SA7 A2+B2
pub returns-clause-two_stores : goal.returns-clause-two_stores
returns-clause-two_stores c = λ same. (let storage = ap (λ (s : Contents). s.storage) same in cc)
