-- Two instructions next to each other may come in either order if the later does not depend on the earlier.
use Rattle.std.proofs.Common.{◌≡◌, true, false, true≢false, cond, ◌||◌, List, [], ◌∷◌, ◌++◌, refl, ap, sym, ◌∙◌, inl, inr}
use Rattle.std.proofs.lemmas.Bool.{cases_Bool, or_parts, or_left, or_right}
use Rattle.std.proofs.Math.Bool.{and_comm, or_comm}
use Rattle.s66_isa.specs.{Instr, Memory, None, Load, Store, Reg, same_reg, has_reg, x_reg, operands_of, stored_registers, reads_of, held_registers, results_of, memory_of, touches, stores, memory_pair}
use Rattle.s66_isa.proofs.SameRegister.{same_reg-self, has_reg-reads}
use Rattle.s66_model.specs.{share, conflict, Term, Terms, Storage, Stored, Operation, Contents, register_value, values_of, results_computed, words_loaded, writes, after_writes, address_of}
use Rattle.s66_model.specs.{storage_after, after}
use Rattle.s66_model.proofs.Registers.{share-none, share-none_back, writes-other, value-other, values-other}

-- contents are equal if all registers and the storage are
same_contents : (f g : Reg → Term) (s t : Storage) → ((q : Reg) → f q ≡ g q) → s ≡ t → ◌≡◌ {A = Contents} (record { registers = f; storage = s }) (record { registers = g; storage = t })
same_contents f g s t h e = λ i. record { registers = λ q. h q i; storage = e i }

-- MEMORY

pub memory_pair-sym : (u v : Memory) → memory_pair u v ≡ memory_pair v u
memory_pair-sym u v = rw (and_comm (touches u) (touches v), or_comm (stores u) (stores v)) refl

-- with the value of each store as it is found in either order
storage-exchange : (u v : Memory) (s : Storage) (a x x' b y y' : Term) → memory_pair u v ≡ false → (u ≡ Store → x' ≡ x) → (v ≡ Store → y' ≡ y) →
    storage_after v (storage_after u s a x) b y' ≡ storage_after u (storage_after v s b y) a x'
storage-exchange None None s a x x' b y y' h k l = refl
storage-exchange None Load s a x x' b y y' h k l = refl
storage-exchange None Store s a x x' b y y' h k l = ap (λ t. Stored s b t) (l refl)
storage-exchange Load None s a x x' b y y' h k l = refl
storage-exchange Load Load s a x x' b y y' h k l = refl
storage-exchange Load Store s a x x' b y y' h k l = absurd (true≢false h)
storage-exchange Store None s a x x' b y y' h k l = ap (λ t. Stored s a t) (sym (k refl))
storage-exchange Store Load s a x x' b y y' h k l = absurd (true≢false h)
storage-exchange Store Store s a x x' b y y' h k l = absurd (true≢false h)

-- a load fetches the same after an instruction that is no store
words_loaded-same : (u v : Memory) (n : Instr) (s : Storage) (a x address : Term) → memory_pair u v ≡ false → words_loaded v n (storage_after u s a x) address ≡ words_loaded v n s address
words_loaded-same u None n s a x address h = refl
words_loaded-same u Store n s a x address h = refl
words_loaded-same None Load n s a x address h = refl
words_loaded-same Load Load n s a x address h = refl
words_loaded-same Store Load n s a x address h = absurd (true≢false h)

has_reg-stored : (u : Memory) (n : Instr) → u ≡ Store → has_reg (x_reg n.i) (stored_registers u n) ≡ true
has_reg-stored None n e = cc
has_reg-stored Load n e = cc
has_reg-stored Store n e = or_left (same_reg (x_reg n.i) (x_reg n.i)) false (same_reg-self (x_reg n.i))

-- REGISTERS

after_writes-at : (ws : List (Reg × Term)) (f g : Reg → Term) (q : Reg) → f q ≡ g q → after_writes ws f q ≡ after_writes ws g q
after_writes-at [] f g q h = h
after_writes-at (w ∷ ws) f g q h = ap (λ t. cond (same_reg w.0 q) w.1 t) (after_writes-at ws f g q h)

-- one of the two writes the register, or neither
registers-exchange : (a b : Operation) (x y : Terms) (s : Storage) (f : Reg → Term) (q : Reg) → share (results_of a.instr) (results_of b.instr) ≡ false →
    after_writes (writes b y s) (after_writes (writes a x s) f) q ≡ after_writes (writes a x s) (after_writes (writes b y s) f) q
registers-exchange a b x y s f q h =
    elim (cases_Bool (has_reg q (results_of b.instr))) [
      | inl is ↦
          let free = share-none_back (results_of a.instr) (results_of b.instr) h q is in
          after_writes-at (writes b y s) (after_writes (writes a x s) f) f q (writes-other a x s f q free)
          ∙ sym (writes-other a x s (after_writes (writes b y s) f) q free)
      | inr is ↦
          writes-other b y s (after_writes (writes a x s) f) q is
          ∙ sym (after_writes-at (writes a x s) (after_writes (writes b y s) f) f q (writes-other b y s f q is))
    ]

-- WHAT AN INSTRUCTION FINDS BEHIND ONE THAT WRITES NOTHING THAT IT READS

operands_in : Contents → Operation → Terms
operands_in c o = values_of c.registers (operands_of o.instr)

-- the results of one and what the other reads have no register in common
abbrev IsApart : Operation → Operation → Type 0
IsApart a b = (q : Reg) → has_reg q (reads_of b.instr) ≡ true → has_reg q (results_of a.instr) ≡ false

operands-same : (c : Contents) (a b : Operation) → IsApart a b → operands_in (after c a) b ≡ operands_in c b
unfolding operands_in
operands-same c a b h =
    values-other a (values_of c.registers (operands_of a.instr)) c.storage c.registers (operands_of b.instr)
    (λ q named is. h q (has_reg-reads q named b.instr ∙ or_left (has_reg q (operands_of b.instr)) (has_reg q (stored_registers (memory_of b.instr) b.instr)) is))

stored-same : (c : Contents) (a b : Operation) → IsApart a b → memory_of b.instr ≡ Store → register_value (after c a).registers (x_reg b.instr.i) ≡ register_value c.registers (x_reg b.instr.i)
stored-same c a b h store =
    let x = x_reg b.instr.i in
    let stored = has_reg-stored (memory_of b.instr) b.instr store in
    value-other a (values_of c.registers (operands_of a.instr)) c.storage c.registers x
    (h x (has_reg-reads x refl b.instr ∙ or_right (has_reg x (operands_of b.instr)) (has_reg x (stored_registers (memory_of b.instr) b.instr)) stored))

writes-same : (c : Contents) (a b : Operation) → IsApart a b → memory_pair (memory_of a.instr) (memory_of b.instr) ≡ false →
    writes b (operands_in (after c a) b) (after c a).storage ≡ writes b (operands_in c b) c.storage
unfolding operands_in
writes-same c a b h free =
    ap (λ t. writes b t (after c a).storage) (operands-same c a b h)
    ∙ ap (λ t. results_computed b (operands_in c b) 0 (held_registers b.instr) ++ t)
    (words_loaded-same (memory_of a.instr) (memory_of b.instr) b.instr c.storage (address_of a (operands_in c a)) (register_value c.registers (x_reg a.instr.i)) (address_of b (operands_in c b)) free)

pub exchange : (c : Contents) (a b : Operation) → conflict a.instr b.instr ≡ false → after (after c a) b ≡ after (after c b) a
unfolding operands_in conflict
exchange c a b h =
    let read = share (results_of a.instr) (reads_of b.instr) in
    let overwritten = share (reads_of a.instr) (results_of b.instr) in
    let written_twice = share (results_of a.instr) (results_of b.instr) in
    let (no_register, no_pair) = or_parts ((read || overwritten) || written_twice) (memory_pair (memory_of a.instr) (memory_of b.instr)) h in
    let (no_operand, not_twice) = or_parts (read || overwritten) written_twice no_register in
    let (not_read, not_overwritten) = or_parts read overwritten no_operand in
    let ahead : IsApart a b = share-none_back (results_of a.instr) (reads_of b.instr) not_read in
    let back : IsApart b a = share-none (reads_of a.instr) (results_of b.instr) not_overwritten in
    let no_pair_back = memory_pair-sym (memory_of b.instr) (memory_of a.instr) ∙ no_pair in
    let x = operands_in c a in
    let y = operands_in c b in
    same_contents (after (after c a) b).registers (after (after c b) a).registers (after (after c a) b).storage (after (after c b) a).storage
    (λ q.
    ap (λ t. after_writes t (after c a).registers q) (writes-same c a b ahead no_pair)
    ∙ (registers-exchange a b x y c.storage c.registers q not_twice
    ∙ sym (ap (λ t. after_writes t (after c b).registers q) (writes-same c b a back no_pair_back))))
    (ap (λ t. storage_after (memory_of b.instr) (after c a).storage (address_of b t) (register_value (after c a).registers (x_reg b.instr.i))) (operands-same c a b ahead)
    ∙ (storage-exchange (memory_of a.instr) (memory_of b.instr) c.storage (address_of a x) (register_value c.registers (x_reg a.instr.i)) (register_value (after c b).registers (x_reg a.instr.i)) (address_of b y) (register_value c.registers (x_reg b.instr.i)) (register_value (after c a).registers (x_reg b.instr.i)) no_pair (stored-same c b a back) (stored-same c a b ahead)
    ∙ sym (ap (λ t. storage_after (memory_of a.instr) (after c b).storage (address_of a t) (register_value (after c b).registers (x_reg a.instr.i))) (operands-same c b a back))))
