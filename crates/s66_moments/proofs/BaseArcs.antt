-- The arcs of the three orders of conflict between the moments of one instruction, and of two of which one stands first.
use Rattle.std.proofs.Common.{ℕ, ◌+◌, ◌≤◌, ◌≡◌, Bool, true, false, true≢false, cond, not, ◌&&◌, max, List, [], ◌∷◌, ◌++◌, length, map, refl, sym, arith, inl, subst}
use Rattle.std.proofs.lemmas.Bool.{cond-true, or_parts}
use Rattle.s66_isa.specs.{Reg, greatest, some_of, Among, Write, same_reg, has_reg, memory_pair}
use Rattle.s66_isa.proofs.Lists.{le-greatest, among-map}
use Rattle.s66_isa.proofs.SameRegister.{same_reg-self, has_reg-le}
use Rattle.s66_model.specs.{Problem, Point, ResultAt, row_at, done_at, last_done, readers_wait, result_at, free_after, start_of, point, point_of, points_after, points_of, IsLegal}
use Rattle.s66_model.proofs.Issue.{issue-is}
use Rattle.s66_model.proofs.ChainBound.{last-is_greatest, reads-le-start, memory-le-start}
use Rattle.s66_model.proofs.PointTimes.{points_after-append, point_of-row}
use Rattle.s66_moments.specs.{Issue, Start, Done, Free, At, time_at, time_of, fetches, Before, IsSo}
use Rattle.s66_moments.proofs.Placed.{among-stays, placed, time_at-placed}
use Rattle.s66_moments.proofs.FactLaws.{before-split}

-- ONE RESULT

-- a result is done no sooner than it could be
pub result-le : (b : Problem) (s : List Point) (n : ℕ) (w : Write) → Among w (row_at b n).writes → max ((point_of b s n).start + w.latency) (readers_wait s w.reg) ≤ done_at (point_of b s n) w.reg
unfolding point
result-le b s n w among =
    let start = start_of b s (row_at b n) in
    omega (
      arith,
      le-greatest (λ (d : ResultAt). cond (same_reg d.reg w.reg) d.time 0) (result_at s start w) (map (result_at s start) (row_at b n).writes) (among-map (result_at s start) w (row_at b n).writes among),
      cond-true {A = ℕ} (same_reg w.reg w.reg) (max (start + w.latency) (readers_wait s w.reg)) 0 (same_reg-self w.reg),
    )

-- earlier writers of what it writes are done when it issues
written-before : (b : Problem) (s : List Point) (n : ℕ) (p : Point) (w : Write) → Among p s → Among w (row_at b n).writes → done_at p w.reg ≤ (point_of b s n).issue
unfolding point
written-before b s n p w in_s among = (issue-is b s (row_at b n)).passes.1 p in_s w among

-- what is not fetched is held
held-ge : (x : Reg) (s : List Point) (start : ℕ) (ws : List Write) → some_of (λ (w : Write). same_reg w.reg x && not w.held) ws ≡ false → greatest (λ (d : ResultAt). cond (same_reg d.reg x) d.time 0) (map (result_at s start) ws) ≤ greatest (λ (d : ResultAt). cond d.held d.time 0) (map (result_at s start) ws)
held-ge x s start [] is = omega arith
held-ge x s start (w ∷ ws) is =
    let both = or_parts (same_reg w.reg x && not w.held) (some_of (λ (u : Write). same_reg u.reg x && not u.held) ws) is in
    let time : ℕ = max (start + w.latency) (readers_wait s w.reg) in
    omega (arith, held-one (same_reg w.reg x) w.held time both.0, held-ge x s start ws both.1)
  where
    held-one : (same held : Bool) (time : ℕ) → (same && not held) ≡ false → cond same time 0 ≤ cond held time 0
    held-one false held time h = omega arith
    held-one true true time h = omega arith
    held-one true false time h = absurd (true≢false h)

free-late : (x : Reg) (s : List Point) (start hold : ℕ) (ws : List Write) → some_of (λ (w : Write). same_reg w.reg x && not w.held) ws ≡ false → greatest (λ (d : ResultAt). cond (same_reg d.reg x) d.time 0) (map (result_at s start) ws) + 1 ≤ free_after start hold (map (result_at s start) ws)
free-late x s start hold [] is = omega arith
free-late x s start hold (w ∷ ws) is = omega (arith, held-ge x s start (w ∷ ws) is)

-- and its unit is free a minor cycle after it
done-free : (b : Problem) (s : List Point) (n : ℕ) (x : Reg) → fetches (row_at b n) x ≡ false → done_at (point_of b s n) x + 1 ≤ (point_of b s n).free
unfolding point
done-free b s n x is = free-late x s (start_of b s (row_at b n)) (row_at b n).hold (row_at b n).writes is

module _ (b : Problem) (order : List ℕ) (legal : IsLegal b.block order) where
  -- ONE INSTRUCTION

  pub start-done : (n : ℕ) (w : Write) → 1 ≤ n → n ≤ length b.block → Among w (row_at b n).writes → time_of b order (At n Start) + w.latency ≤ time_of b order (At n (Done w.reg))
  start-done n w low high among =
      let (front, rest, is) = placed b order legal n low high in
      omega (arith, result-le b (points_of b front) n w among, time_at-placed b order legal front rest n (λ (p : Point). p.start) is, time_at-placed b order legal front rest n (λ (p : Point). done_at p w.reg) is)

  pub held-free : (n : ℕ) (x : Reg) → 1 ≤ n → n ≤ length b.block → fetches (row_at b n) x ≡ false → time_of b order (At n (Done x)) + 1 ≤ time_of b order (At n Free)
  held-free n x low high held =
      let (front, rest, is) = placed b order legal n low high in
      omega (arith, done-free b (points_of b front) n x held, time_at-placed b order legal front rest n (λ (p : Point). done_at p x) is, time_at-placed b order legal front rest n (λ (p : Point). p.free) is)

  -- TWO, of which x stands before y

  module _ (x y : ℕ) (before : IsSo b order (Before x y)) where
    -- what is true of their points
    both : (f g : Point → ℕ) (w : ℕ) → ((front s : List ℕ) → Among (point_of b (points_of b front) x) (points_of b s) → f (point_of b (points_of b front) x) + w ≤ g (point_of b (points_of b s) y)) → time_at x f (points_of b order) + w ≤ time_at y g (points_of b order)
    both f g w h =
        let (front, mid, rest, here, later) = before-split b order legal x y before in
        let p = point_of b (points_of b front) x in
        let e : points_of b (front ++ x ∷ mid) ≡ points_after b (p ∷ points_of b front) mid = points_after-append b [] front (x ∷ mid) in
        let among : Among p (points_of b (front ++ x ∷ mid)) = subst (λ t. Among p t) (sym e) (among-stays b p (p ∷ points_of b front) mid (inl refl)) in
        omega (arith, h front (front ++ x ∷ mid) among, time_at-placed b order legal front (mid ++ y ∷ rest) x f here, time_at-placed b order legal (front ++ x ∷ mid) rest y g later)

    pub read-start : (r : Reg) → has_reg r (row_at b y).reads ≡ true → time_of b order (At x (Done r)) + 0 ≤ time_of b order (At y Start)
    read-start r reads =
        both (λ (p : Point). done_at p r) (λ (p : Point). p.start) 0 (λ front s among. (let p = point_of b (points_of b front) x in
        omega (arith, le-greatest (λ (q : Point). done_at q r) p (points_of b s) among, last-is_greatest b s r, has_reg-le (λ q. last_done q (points_of b s)) r (row_at b y).reads reads, reads-le-start b (points_of b s) y)))

    pub written-issue : (w : Write) → Among w (row_at b y).writes → time_of b order (At x (Done w.reg)) + 0 ≤ time_of b order (At y Issue)
    written-issue w writes =
        both (λ (p : Point). done_at p w.reg) (λ (p : Point). p.issue) 0 (λ front s among. omega (arith, written-before b (points_of b s) y (point_of b (points_of b front) x) w among writes))

    pub memory-start : memory_pair (row_at b x).memory (row_at b y).memory ≡ true → time_of b order (At x Start) + 1 ≤ time_of b order (At y Start)
    memory-start pair =
        both (λ (p : Point). p.start) (λ (p : Point). p.start) 1 (λ front s among. (let p = point_of b (points_of b front) x in
        let pair2 : memory_pair p.row.memory (row_at b y).memory ≡ true = rw (point_of-row b (points_of b front) x) pair in
        omega (arith, le-greatest (λ (q : Point). cond (memory_pair q.row.memory (row_at b y).memory) (q.start + 1) 0) p (points_of b s) among, cond-true {A = ℕ} (memory_pair p.row.memory (row_at b y).memory) (p.start + 1) 0 pair2, memory-le-start b (points_of b s) y)))

    pub reader-done : (w : Write) → Among w (row_at b y).writes → has_reg w.reg (row_at b x).reads ≡ true → time_of b order (At x Start) + 1 ≤ time_of b order (At y (Done w.reg))
    reader-done w writes reads =
        both (λ (p : Point). p.start) (λ (p : Point). done_at p w.reg) 1 (λ front s among. (let p = point_of b (points_of b front) x in
        let reads2 : has_reg w.reg p.row.reads ≡ true = rw (point_of-row b (points_of b front) x) reads in
        omega (arith, le-greatest (λ (q : Point). cond (has_reg w.reg q.row.reads) (q.start + 1) 0) p (points_of b s) among, cond-true {A = ℕ} (has_reg w.reg p.row.reads) (p.start + 1) 0 reads2, result-le b (points_of b s) y w writes)))
