-- Two results of an instruction in the same register come equally late, so that either may stand for both on a path.
use Rattle.std.proofs.Common.{ℕ, ◌≡◌, ◌∙◌, true, false, true≢false, List, [], ◌∷◌, ◌++◌, refl, sym, ap, subst, inl, inr, map}
use Rattle.s66_isa.specs.{Instr, Memory, Profile, Reg, Among, Write, row, hold_of, held_registers, loaded_registers, memory_of, same_reg, a_reg, x_reg}
use Rattle.s66_isa.specs.declared.instr.Memory.TheVariants as memory
use Rattle.s66_isa.proofs.Writes.{held_write, loaded_write, load-holds}

abbrev pub AreAlike : List Write → Type 0
AreAlike ws = (w v : Write) → Among w ws → Among v ws → same_reg v.reg w.reg ≡ true → v.latency ≡ w.latency

-- what the unit holds comes after its work
held-late : (hold : ℕ) (rs : List Reg) (w : Write) → Among w (map (held_write hold) rs ++ []) → w.latency ≡ hold
held-late hold [] w among = absurd among
held-late hold (r ∷ rs) w (inl e) = ap (λ (v : Write). v.latency) e
held-late hold (r ∷ rs) w (inr past) = held-late hold rs w past

all-held : (hold : ℕ) (rs : List Reg) → AreAlike (map (held_write hold) rs ++ [])
all-held hold rs w v among-w among-v same = held-late hold rs v among-v ∙ sym (held-late hold rs w among-w)

-- an address register and what is loaded are of two banks
of-load : (hold load : ℕ) (i : ℕ) → AreAlike (held_write hold (a_reg i) ∷ loaded_write load (x_reg i) ∷ [])
of-load hold load i w v (inl e) (inl f) same = ap (λ (u : Write). u.latency) f ∙ sym (ap (λ (u : Write). u.latency) e)
of-load hold load i w v (inr (inl e)) (inr (inl f)) same = ap (λ (u : Write). u.latency) f ∙ sym (ap (λ (u : Write). u.latency) e)
of-load hold load i w v (inl e) (inr (inl f)) same =
    absurd (true≢false (sym (sym (ap (λ (u : Write). same_reg u.reg (a_reg i)) f) ∙ sym (ap (λ (u : Write). same_reg v.reg u.reg) e) ∙ same)))
of-load hold load i w v (inr (inl e)) (inl f) same =
    absurd (true≢false (sym (sym (ap (λ (u : Write). same_reg u.reg (x_reg i)) f) ∙ sym (ap (λ (u : Write). same_reg v.reg u.reg) e) ∙ same)))
of-load hold load i w v (inr (inr none)) among same = absurd none
of-load hold load i w v (inl e) (inr (inr none)) same = absurd none
of-load hold load i w v (inr (inl e)) (inr (inr none)) same = absurd none

by_memory : (m : Memory) (n : Instr) (hold load : ℕ) → memory_of n ≡ m → AreAlike (map (held_write hold) (held_registers n) ++ map (loaded_write load) (loaded_registers m n))
by_memory memory.None n hold load is = all-held hold (held_registers n)
by_memory memory.Store n hold load is = all-held hold (held_registers n)
by_memory memory.Load n hold load is =
    subst (λ rs. AreAlike (map (held_write hold) rs ++ loaded_write load (x_reg n.i) ∷ [])) (sym (load-holds n is)) (of-load hold load n.i)

pub row-alike : (p : Profile) (n : Instr) → AreAlike (row p n).writes
unfolding row
row-alike p n = by_memory (memory_of n) n (hold_of p n.op.code) p.load refl
