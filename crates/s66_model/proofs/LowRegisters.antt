-- No register but those of digits 0 to 7 is written or read.
use Rattle.std.proofs.Common.{ℕ, ◌≤◌, ◌<◌, ◌≡◌, ◌==◌, true, false, cond, map, List, [], ◌∷◌, ◌++◌, refl, arith, ◌&&◌, ◌||◌, leb, ltb, ne_eqb}
use Rattle.std.proofs.lemmas.Bool.{cond_both, and_right}
use Rattle.s66_isa.specs.{greatest, row, same_reg, has_reg, is_b0, unless_b0, insert, insert_all, bank_number, a_reg, b_reg, x_reg, shape_of, operand_registers, operands_of, stored_registers}
use Rattle.s66_isa.specs.{reads_of, held_registers, loaded_registers, memory_of, hold_of, instr_at, Memory, Operands}
use Rattle.s66_isa.specs.Table.{Reg, Instr}
use Rattle.s66_isa.specs.declared.instr.Memory.TheVariants as memory
use Rattle.s66_isa.specs.declared.instr.Operands.TheVariants as operands
use Rattle.s66_model.specs.{Problem, Point, ResultAt, point, point_of, points_after, points_of, result_at, row_at, done_of, done_at, readers_wait, start_of, HasDigits}

-- LISTS OF REGISTERS

abbrev AreLow : List Reg → Type 0
AreLow [] = Unit {0}
AreLow (r ∷ rs) = (r.digit ≤ 7) × AreLow rs

apart : (r s : Reg) → r.digit ≤ 7 → 7 < s.digit → same_reg r s ≡ false
apart r s low high = and_right (bank_number r.bank == bank_number s.bank) (r.digit == s.digit) (ne_eqb r.digit s.digit (λ same. absurd (omega (arith, same))))

apart-back : (r s : Reg) → s.digit ≤ 7 → 7 < r.digit → same_reg r s ≡ false
apart-back r s low high = and_right (bank_number r.bank == bank_number s.bank) (r.digit == s.digit) (ne_eqb r.digit s.digit (λ same. absurd (omega (arith, same))))

has-none : (r : Reg) (rs : List Reg) → 7 < r.digit → AreLow rs → has_reg r rs ≡ false
has-none r [] high low = refl
has-none r (s ∷ rs) high low = rw (apart-back r s low.0 high) (has-none r rs high low.1)

low-append : (rs ss : List Reg) → AreLow rs → AreLow ss → AreLow (rs ++ ss)
low-append [] ss a b = b
low-append (r ∷ rs) ss a b = (a.0, low-append rs ss a.1 b)

low-insert : (set : List Reg) (r : Reg) → AreLow set → r.digit ≤ 7 → AreLow (insert set r)
low-insert set r low one =
    cond_both (is_b0 r || has_reg r set) set (set ++ r ∷ []) (λ (rs : List Reg). AreLow rs) (λ _. low) (λ _. low-append set (r ∷ []) low (one, tt))

low-all : (set rs : List Reg) → AreLow set → AreLow rs → AreLow (insert_all set rs)
low-all set [] low more = low
low-all set (r ∷ rs) low more = low-all (insert set r) rs (low-insert set r low more.0) more.1

low-unless : (r : Reg) → r.digit ≤ 7 → AreLow (unless_b0 r)
low-unless r one = cond_both (is_b0 r) [] (r ∷ []) (λ (rs : List Reg). AreLow rs) (λ _. tt) (λ _. (one, tt))

-- THOSE OF AN INSTRUCTION

module _ (n : Instr) (h : HasDigits n) where
  low-operands : (shape : Operands) → AreLow (operand_registers shape n)
  low-operands operands.Constant = tt
  low-operands operands.Xi = (h.0, tt)
  low-operands operands.Xj = (h.1, tt)
  low-operands operands.Xk = (h.2, tt)
  low-operands operands.Aj = (h.1, tt)
  low-operands operands.Bj = (h.1, tt)
  low-operands operands.XjXk = (h.1, (h.2, tt))
  low-operands operands.BjXk = (h.1, (h.2, tt))
  low-operands operands.XjBk = (h.1, (h.2, tt))
  low-operands operands.AjBk = (h.1, (h.2, tt))
  low-operands operands.BjBk = (h.1, (h.2, tt))

  low-stored : (m : Memory) → AreLow (stored_registers m n)
  low-stored memory.None = tt
  low-stored memory.Load = tt
  low-stored memory.Store = (h.0, tt)

  low-loaded : (m : Memory) → AreLow (loaded_registers m n)
  low-loaded memory.None = tt
  low-loaded memory.Load = (h.0, tt)
  low-loaded memory.Store = tt

  low-reads : AreLow (reads_of n)
  low-reads = low-all [] (operands_of n ++ stored_registers (memory_of n) n) tt (low-append (operands_of n) (stored_registers (memory_of n) n) (low-operands (shape_of n.op.code)) (low-stored (memory_of n)))

  low-second : AreLow (cond (leb 0o24 n.op.code && ltb n.op.code 0o27) (unless_b0 (b_reg n.j)) [])
  low-second =
      cond_both (leb 0o24 n.op.code && ltb n.op.code 0o27) (unless_b0 (b_reg n.j)) [] (λ (rs : List Reg). AreLow rs) (λ _. low-unless (b_reg n.j) h.1) (λ _. tt)

  low-set : AreLow (cond (ltb n.op.code 0o60) (a_reg n.i ∷ []) (cond (ltb n.op.code 0o70) (unless_b0 (b_reg n.i)) (x_reg n.i ∷ [])))
  low-set =
      cond_both (ltb n.op.code 0o60) (a_reg n.i ∷ []) (cond (ltb n.op.code 0o70) (unless_b0 (b_reg n.i)) (x_reg n.i ∷ [])) (λ (rs : List Reg). AreLow rs) (λ _. (h.0, tt))
      (λ _. cond_both (ltb n.op.code 0o70) (unless_b0 (b_reg n.i)) (x_reg n.i ∷ []) (λ (rs : List Reg). AreLow rs) (λ _. low-unless (b_reg n.i) h.0) (λ _. (h.0, tt)))

  low-held : AreLow (held_registers n)
  low-held =
      cond_both (ltb n.op.code 0o50) (x_reg n.i ∷ cond (leb 0o24 n.op.code && ltb n.op.code 0o27) (unless_b0 (b_reg n.j)) []) (cond (ltb n.op.code 0o60) (a_reg n.i ∷ []) (cond (ltb n.op.code 0o70) (unless_b0 (b_reg n.i)) (x_reg n.i ∷ []))) (λ (rs : List Reg). AreLow rs)
      (λ _. (h.0, low-second)) (λ _. low-set)

-- THOSE OF POINTS

loads-none : (r : Reg) (s : List Point) (start latency : ℕ) (ls : List Reg) → 7 < r.digit → AreLow ls →
    greatest (λ (d : ResultAt). cond (same_reg d.reg r) d.time 0) (map (result_at s start) (map (λ l. record { reg = l; latency = latency; held = false }) ls)) ≡ 0
loads-none r s start latency [] high low = refl
loads-none r s start latency (l ∷ ls) high low = rw (apart l r low.0 high) (omega (arith, loads-none r s start latency ls high low.1))

writes-none : (r : Reg) (s : List Point) (start hold latency : ℕ) (hs ls : List Reg) → 7 < r.digit → AreLow hs → AreLow ls →
    greatest (λ (d : ResultAt). cond (same_reg d.reg r) d.time 0) (map (result_at s start) (map (λ l. record { reg = l; latency = hold; held = true }) hs ++ map (λ l. record { reg = l; latency = latency; held = false }) ls)) ≡ 0
writes-none r s start hold latency [] ls high low loaded = loads-none r s start latency ls high loaded
writes-none r s start hold latency (l ∷ hs) ls high low loaded =
    rw (apart l r low.0 high) (omega (arith, writes-none r s start hold latency hs ls high low.1 loaded))

-- no register but those that there are is written or read
abbrev pub OnlyLow : List Point → Type 0
OnlyLow s = (r : Reg) → 7 < r.digit → (done_of s r ≡ 0) × (readers_wait s r ≡ 0)

done-none : (b : Problem) (s : List Point) (n : ℕ) (r : Reg) → HasDigits (instr_at b.block n) → 7 < r.digit → done_at (point_of b s n) r ≡ 0
unfolding point row
done-none b s n r h high =
    let i : Instr = instr_at b.block n in
    writes-none r s (start_of b s (row_at b n)) (hold_of b.profile i.op.code) b.profile.load (held_registers i) (loaded_registers (memory_of i) i) high (low-held i h) (low-loaded i h (memory_of i))

reads-none : (b : Problem) (s : List Point) (n : ℕ) (r : Reg) → HasDigits (instr_at b.block n) → 7 < r.digit → has_reg r (point_of b s n).row.reads ≡ false
unfolding point row
reads-none b s n r h high = has-none r (reads_of (instr_at b.block n)) high (low-reads (instr_at b.block n) h)

low-after : (b : Problem) (s : List Point) (ns : List ℕ) → ((n : ℕ) → HasDigits (instr_at b.block n)) → OnlyLow s → OnlyLow (points_after b s ns)
low-after b s [] h only = only
low-after b s (n ∷ ns) h only =
    low-after b (point_of b s n ∷ s) ns h
    (λ r high. (omega (arith, done-none b s n r (h n) high, (only r high).0), rw (reads-none b s n r (h n) high) (omega (arith, (only r high).1))))

pub low-points : (b : Problem) (ns : List ℕ) → ((n : ℕ) → HasDigits (instr_at b.block n)) → OnlyLow (points_of b ns)
low-points b ns h = low-after b [] ns h (λ r high. (refl, refl))
