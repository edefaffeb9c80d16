-- What is stated of an instruction that comes after two pasts: that it finds nothing later after one of them.
use Rattle.std.proofs.Common.{ℕ, ◌+◌, ◌≤◌, ◌<◌, ◌≡◌, ◌∙◌, ◌&&◌, Bool, true, false, cond, max, List, reverse, refl, sym, ap, leb, le-leb}
use Rattle.std.proofs.lemmas.Bool.{lt-leb}
use Rattle.s66_isa.specs.{Kind, Memory, Reg, every, greatest, Row, Write, has_reg, memory_pair}
use Rattle.s66_model.specs.{Point, done_at, done_of, memory_wait, free_times}
use Rattle.s66_model.proofs.WrittenOrders.{every-same}
use Rattle.s66_checker.specs.{are_results_no_later, are_places_no_later, are_operands_no_later, is_reader_no_later, are_readers_no_later, finds_no_later}
use Rattle.s66_checker.proofs.Reversed.{greatest-reverse}

-- THE OLDEST FIRST, or the newest

module _ (xs ys : List Point) where
  done-same : (time : ℕ) (r : Reg) → leb (done_of xs r) (max (done_of ys r) time) ≡ leb (done_of (reverse xs) r) (max (done_of (reverse ys) r) time)
  done-same time r = rw (greatest-reverse (λ (p : Point). done_at p r) xs, greatest-reverse (λ (p : Point). done_at p r) ys) refl

  results-reversed : (time : ℕ) (ws : List Write) → are_results_no_later time xs ys ws ≡ are_results_no_later time (reverse xs) (reverse ys) ws
  results-reversed time ws =
      every-same (λ (w : Write). leb (done_of xs w.reg) (max (done_of ys w.reg) time)) (λ (w : Write). leb (done_of (reverse xs) w.reg) (max (done_of (reverse ys) w.reg) time)) (λ w. done-same time w.reg) ws

  operands-reversed : (time : ℕ) (rs : List Reg) → are_operands_no_later time xs ys rs ≡ are_operands_no_later time (reverse xs) (reverse ys) rs
  operands-reversed time rs =
      every-same (λ r. leb (done_of xs r) (max (done_of ys r) time)) (λ r. leb (done_of (reverse xs) r) (max (done_of (reverse ys) r) time)) (done-same time) rs

  reader-same : (time : ℕ) (w : Write) → is_reader_no_later time xs ys w ≡ is_reader_no_later time (reverse xs) (reverse ys) w
  reader-same time w =
      rw (greatest-reverse (λ (p : Point). cond {A = ℕ} (has_reg w.reg p.row.reads) (p.start + 1) 0) xs, greatest-reverse (λ (p : Point). cond {A = ℕ} (has_reg w.reg p.row.reads) (p.start + 1) 0) ys) refl

  readers-reversed : (time : ℕ) (ws : List Write) → are_readers_no_later time xs ys ws ≡ are_readers_no_later time (reverse xs) (reverse ys) ws
  readers-reversed time ws = every-same (is_reader_no_later time xs ys) (is_reader_no_later time (reverse xs) (reverse ys)) (reader-same time) ws

-- FIVE TESTS IN TURN

second-fails : (a b c d e : Bool) → a ≡ true → b ≡ false → false ≡ (a && b && c && d && e)
second-fails a b c d e ha hb = rw (ha, hb) refl

third-fails : (a b c d e : Bool) → a ≡ true → b ≡ true → c ≡ false → false ≡ (a && b && c && d && e)
third-fails a b c d e ha hb hc = rw (ha, hb, hc) refl

fourth-fails : (a b c d e : Bool) → a ≡ true → b ≡ true → c ≡ true → d ≡ false → false ≡ (a && b && c && d && e)
fourth-fails a b c d e ha hb hc hd = rw (ha, hb, hc, hd) refl

last-left : (a b c d e : Bool) → a ≡ true → b ≡ true → c ≡ true → d ≡ true → e ≡ (a && b && c && d && e)
last-left a b c d e ha hb hc hd = rw (ha, hb, hc, hd) refl

module _ (count : ℕ) (q p : List Point) (issue start : ℕ) (r : Row) where
  abbrev Results : Bool
  Results = are_results_no_later issue q p r.writes

  abbrev Units : Bool
  Units = are_places_no_later count issue (free_times r.kind q) (free_times r.kind p)

  abbrev Operands : Bool
  Operands = are_operands_no_later start q p r.reads

  abbrev References : Bool
  References = leb (memory_wait q r) (max (memory_wait p r) start)

  abbrev Readers : Bool
  Readers = are_readers_no_later start q p r.writes

  pub results-fail : Results ≡ false → false ≡ finds_no_later count q p issue start r
  results-fail h = rw h refl

  pub units-fail : Results ≡ true → Units ≡ false → false ≡ finds_no_later count q p issue start r
  units-fail = second-fails Results Units Operands References Readers

  pub operands-fail : Results ≡ true → Units ≡ true → Operands ≡ false → false ≡ finds_no_later count q p issue start r
  operands-fail = third-fails Results Units Operands References Readers

  pub memory-fails : Results ≡ true → Units ≡ true → Operands ≡ true → max (memory_wait p r) start < memory_wait q r → false ≡ finds_no_later count q p issue start r
  memory-fails hr hu ho late =
      fourth-fails Results Units Operands References Readers hr hu ho (lt-leb (memory_wait q r) (max (memory_wait p r) start) late)

  pub readers-left : Results ≡ true → Units ≡ true → Operands ≡ true → memory_wait q r ≤ max (memory_wait p r) start → Readers ≡ finds_no_later count q p issue start r
  readers-left hr hu ho le =
      last-left Results Units Operands References Readers hr hu ho (le-leb (memory_wait q r) (max (memory_wait p r) start) le)

-- BY THE WORDS OF TWO PASTS

pub memory-stated : (xs : List Point) (m : Memory) (r : Row) → m ≡ r.memory → greatest (λ (p : Point). cond {A = ℕ} (memory_pair p.row.memory m) (p.start + 1) 0) xs ≡ memory_wait (reverse xs) r
memory-stated xs m r same =
    ap (λ k. greatest (λ (p : Point). cond {A = ℕ} (memory_pair p.row.memory k) (p.start + 1) 0) xs) same
    ∙ sym (greatest-reverse (λ (p : Point). cond {A = ℕ} (memory_pair p.row.memory r.memory) (p.start + 1) 0) xs)

module _ (count : ℕ) (xs ys : List Point) (issue start : ℕ) (r : Row) where
  pub results-stated : (ws : List Write) (stated : Bool) → ws ≡ r.writes → stated ≡ are_results_no_later issue xs ys ws → stated ≡ Results count (reverse xs) (reverse ys) issue start r
  results-stated ws stated all is = is ∙ ap (are_results_no_later issue xs ys) all ∙ results-reversed xs ys issue r.writes

  pub units-stated : (kind : Kind) (stated : Bool) → kind ≡ r.kind → stated ≡ are_places_no_later count issue (free_times kind (reverse xs)) (free_times kind (reverse ys)) → stated ≡ Units count (reverse xs) (reverse ys) issue start r
  units-stated kind stated one is = is ∙ ap (λ k. are_places_no_later count issue (free_times k (reverse xs)) (free_times k (reverse ys))) one

  pub operands-stated : (rs : List Reg) (stated : Bool) → rs ≡ r.reads → stated ≡ are_operands_no_later start xs ys rs → stated ≡ Operands count (reverse xs) (reverse ys) issue start r
  operands-stated rs stated all is = is ∙ ap (are_operands_no_later start xs ys) all ∙ operands-reversed xs ys start r.reads

  pub readers-stated : (ws : List Write) (stated : Bool) → ws ≡ r.writes → stated ≡ are_readers_no_later start xs ys ws → stated ≡ Readers count (reverse xs) (reverse ys) issue start r
  readers-stated ws stated all is = is ∙ ap (are_readers_no_later start xs ys) all ∙ readers-reversed xs ys start r.writes
