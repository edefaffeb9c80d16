-- What lines are founded on gives their facts, and so for each time that is less.
use Rattle.std.proofs.Common.{ℕ, ◌+◌, ◌-◌, ◌≤◌, ◌<◌, ◌≡◌, true, min, List, [], ◌∷◌, length, map, refl, sym, ap, arith, inl, inr, subst, ◌∙◌}
use Rattle.std.proofs.lemmas.List.{length-map}
use Rattle.s66_isa.specs.{Kind, least, weigh, Among, same_kind}
use Rattle.s66_model.specs.{Problem, Point, row_at, copies, total_of, IsLegal}
use Rattle.s66_moments.specs.{Stage, Issue, Start, Free, Moment, Origin, At, End, time_of, Fact, Arc, Before, Begins, AreSo, Follows, NoOrder, IsNumber, Work, shared_time, AreOnce, Window, IsWithin, Leads}
use Rattle.s66_moments.specs.{Use, Line, ForcedPair, LoadArc, Supposed, fact_of, IsForced, use_time, IsBetween, AreBetween, IsFoundedByPaths, AreEach, IsTooLate, IsRefuted, IsFounded}
use Rattle.s66_moments.specs.{AreFounded, facts_after}
use Rattle.s66_moments.proofs.LoadArcs.{load-arc}
use Rattle.s66_moments.proofs.FactLaws.{among-so, issue-start, start-free, before-itself, forced, forced-parcels, forced-unit, prefix-time_at}
use Rattle.s66_moments.proofs.Steps.{precedes-so, leads-so}

-- AMOUNTS

weigh-map : {X : Type 0} (f : X → ℕ) (xs : List X) → weigh f xs ≡ weigh (λ (k : ℕ). k) (map f xs)
weigh-map f [] = refl
weigh-map f (x ∷ xs) = ap (λ k. f x + k) (weigh-map f xs)

least-map : {X : Type 0} (f : X → ℕ) (xs : List X) → least f xs ≡ least (λ (k : ℕ). k) (map f xs)
least-map f (x ∷ (y ∷ ys)) = ap (min (f x)) (least-map f (y ∷ ys))
least-map f _ = refl

-- the same amounts take the same time
shared-map : {X : Type 0} (f : X → ℕ) (xs : List X) (units : ℕ) → shared_time f xs units ≡ shared_time (λ (k : ℕ). k) (map f xs) units
shared-map f xs units = rw (weigh-map f xs, least-map f xs, sym (length-map xs f)) refl

shared-same : {X Y : Type 0} (f : X → ℕ) (g : Y → ℕ) (xs : List X) (ys : List Y) (units : ℕ) → map f xs ≡ map g ys → shared_time f xs units ≡ shared_time g ys units
shared-same f g xs ys units same = shared-map f xs units ∙ ap (λ ks. shared_time (λ (k : ℕ). k) ks units) same ∙ sym (shared-map g ys units)

-- LINES

module _ (b : Problem) (low : ℕ) (known : List Fact) where
  leads-follows : (e : Moment) (wait : ℕ) (f : Moment) → Leads b known e wait f → Follows b low known (Arc e wait f 0)
  leads-follows e wait f leads order legal less so = omega (arith, leads-so b known order legal so e wait f leads)

  pair-follows : (y x : ℕ) → IsForced b low known y x → Follows b low known (Before y x)
  pair-follows y x (differ, is_x, is_y, inl (h, t, head, tail, late)) =
      forced-parcels b low known x y differ is_x is_y h t (leads-follows Origin h (At x Issue) head) (leads-follows (At y Issue) t End tail) late
  pair-follows y x (differ, is_x, is_y, inr (h, t, one, head, tail, late)) =
      forced-unit b low known x y differ is_x is_y h t one.0 one.1 (leads-follows Origin h (At x Free) head) (leads-follows (At y Issue) t End tail) late

  module _ (kind : Kind) (e f : Moment) (h wait time : ℕ) where
    -- between the two moments, as much longer or shorter as the wait is than all uses
    abbrev window : Window
    window = record { from = e; after = h; to = f; left = wait - (h + time); less = h + time - wait }

    -- a use, as work that lies within
    abbrev Works : Use → Type 0
    Works u = (x : Work) × (x.number ≡ u.number) × (x.amount ≡ u.amount) × IsWithin b low known kind window x

    -- from a stage that is no sooner than its issue and no later than its start
    from-stage : (u : Use) (stage : Stage) → IsNumber b u.number → same_kind (row_at b u.number).kind kind ≡ true → u.amount ≤ (row_at b u.number).hold + 1 →
        ((order : List ℕ) → IsLegal b.block order → (time_of b order (At u.number Issue) ≤ time_of b order (At u.number stage)) × (time_of b order (At u.number stage) ≤ time_of b order (At u.number Start))) →
        Leads b known e h (At u.number stage) → Follows b low known (Arc (At u.number stage) (u.amount + window.left) f window.less) → Works u
    from-stage u stage is same full range head ended = (
      record { number = u.number; amount = u.amount; from = At u.number stage; more = 0 },
      refl,
      refl,
      record {
        is_number = is;
        is_kind = same;
        issued = λ order legal less so. omega (arith, (range order legal).0);
        begun = λ order legal less so. omega (arith, leads-so b known order legal so e h (At u.number stage) head);
        held = λ order legal less so. omega (arith, full, (range order legal).1, start-free b order legal u.number is.0 is.1);
        ended = λ order legal less so. omega (arith, ended order legal less so);
      },
    )

    one-within : (u : Use) → IsNumber b u.number → same_kind (row_at b u.number).kind kind ≡ true → IsBetween b known e f h wait time u → Works u
    one-within u is same (inl (t, full, head, tail, enough)) =
        from-stage u Issue is same full (λ order legal. (omega arith, issue-start b order legal u.number is.0 is.1)) head (λ order legal less so. omega (arith, leads-so b known order legal so (At u.number Issue) t f tail, enough))
    one-within u is same (inr (inl (t, full, head, tail, enough))) =
        from-stage u Start is same full (λ order legal. (issue-start b order legal u.number is.0 is.1, omega arith)) head (λ order legal less so. omega (arith, leads-so b known order legal so (At u.number Start) t f tail, enough))
    one-within u is same (inr (inr (inl (t, full, head, tail, enough)))) =
        from-stage u Start is same full (λ order legal. (issue-start b order legal u.number is.0 is.1, omega arith)) head (λ order legal less so.
        omega (arith, full, leads-so b known order legal so (At u.number Free) t f tail, start-free b order legal u.number is.0 is.1, enough))
    one-within u is same (inr (inr (inr (prefix, t, origin, among, there, before, busy, tail, enough)))) = (
      record { number = u.number; amount = u.amount; from = Origin; more = h },
      refl,
      refl,
      record {
        is_number = is;
        is_kind = same;
        issued = λ order legal less so. omega (arith, before, placed-issue order legal so);
        begun = λ order legal less so. omega (arith, ap (time_of b order) origin);
        held = λ order legal less so. omega (arith, busy, placed-free order legal so);
        ended = λ order legal less so. omega (arith, busy, placed-free order legal so, leads-so b known order legal so (At u.number Free) t f tail, enough);
      },
    )
      where
        placed-issue : (order : List ℕ) → IsLegal b.block order → AreSo b order known → time_of b order (At u.number Issue) ≡ time_of b prefix (At u.number Issue)
        placed-issue order legal so =
            (let (rest, e) = among-so b order (Begins prefix) known among so in prefix-time_at b order legal prefix rest e u.number (λ (p : Point). p.issue) there)

        placed-free : (order : List ℕ) → IsLegal b.block order → AreSo b order known → time_of b order (At u.number Free) ≡ time_of b prefix (At u.number Free)
        placed-free order legal so =
            (let (rest, e) = among-so b order (Begins prefix) known among so in prefix-time_at b order legal prefix rest e u.number (λ (p : Point). p.free) there)

    all-within : (uses : List Use) → AreBetween b known kind e f h wait time uses → (works : List Work) × (map (λ (x : Work). x.number) works ≡ map (λ (u : Use). u.number) uses) × (map (λ (x : Work). x.amount) works ≡ map (λ (u : Use). u.amount) uses) × ((x : Work) → Among x works → IsWithin b low known kind window x)
    all-within [] between = ([], refl, refl, λ x among. absurd among)
    all-within (u ∷ us) between =
        let (x, number, amount, within) = one-within u between.0 between.1 between.2 in
        let (works, numbers, amounts, all) = all-within us between.3 in (
          x ∷ works,
          ap (λ k. k ∷ map (λ (y : Work). y.number) works) number ∙ ap (λ ks. u.number ∷ ks) numbers,
          ap (λ k. k ∷ map (λ (y : Work). y.amount) works) amount ∙ ap (λ ks. u.amount ∷ ks) amounts,
          λ y among. elim among [
            | inl here ↦ subst (λ z. IsWithin b low known kind window z) (sym here) within
            | inr past ↦ all y past
          ],
        )

  some-works : (n : ℕ) (ns : List ℕ) (works : List Work) → map (λ (x : Work). x.number) works ≡ n ∷ ns → 0 < length works
  some-works n ns [] e = absurd cc
  some-works n ns (x ∷ works) e = omega arith

  span-follows : (kind : Kind) (e f : Moment) (h wait : ℕ) (u : Use) (us : List Use) → AreOnce (map (λ (v : Use). v.number) (u ∷ us)) → AreBetween b known kind e f h wait (use_time b kind (u ∷ us)) (u ∷ us) → Follows b low known (Arc e wait f 0)
  span-follows kind e f h wait u us once between order legal less so =
      let time : ℕ = use_time b kind (u ∷ us) in
      let (works, numbers, amounts, all) = all-within kind e f h wait time (u ∷ us) between in
      let once2 : AreOnce (map (λ (x : Work). x.number) works) = subst AreOnce (sym numbers) once in
      let arc = load-arc b low known kind (window kind e f h wait time) works (some-works u.number (map (λ (w : Use). w.number) us) works numbers) once2 all order legal less so in
      omega (arith, arc, shared-same (λ (x : Work). x.amount) (λ (v : Use). v.amount) works (u ∷ us) (copies b kind) amounts)

  paths-follow : (line : Line) → IsFoundedByPaths b low known line → Follows b low known (fact_of line)
  paths-follow (ForcedPair y x) founded = pair-follows y x founded
  paths-follow (LoadArc kind e f h wait (u ∷ us)) founded = span-follows kind e f h wait u us founded.0 founded.1
  paths-follow _ founded = absurd founded

  pub too_late-none : IsTooLate b low known → NoOrder b low known
  too_late-none (inl leads) = λ order legal less so. absurd (omega (arith, leads-so b known order legal so Origin low End leads, less))
  too_late-none (inr (n, is, ring)) = λ order legal less so. before-itself b order legal n (precedes-so b known order legal so n n ring)

by_paths-none : (b : Problem) (low : ℕ) (known : List Fact) (lines : List Line) → AreEach (IsFoundedByPaths b low) known lines → IsTooLate b low (facts_after known lines) → NoOrder b low known
by_paths-none b low known [] founded late = too_late-none b low known late
by_paths-none b low known (line ∷ lines) founded late =
    λ order legal less so. by_paths-none b low (fact_of line ∷ known) lines founded.1 late order legal less (paths-follow b low known line founded.0 order legal less so, so)

-- what is refuted no order has
refuted-none : (b : Problem) (low : ℕ) (known : List Fact) → IsRefuted b low known → NoOrder b low known
refuted-none b low known (lines, founded, late) = by_paths-none b low known lines founded late

pub line-follows : (b : Problem) (low : ℕ) (known : List Fact) (line : Line) → IsFounded b low known line → Follows b low known (fact_of line)
line-follows b low known (ForcedPair y x) founded = paths-follow b low known (ForcedPair y x) founded
line-follows b low known (LoadArc kind e f h wait uses) founded = paths-follow b low known (LoadArc kind e f h wait uses) founded
line-follows b low known (Supposed y x) (differ, is_x, is_y, refuted) = forced b low known x y differ is_x is_y (refuted-none b low (Before x y ∷ known) refuted)

-- ALL LINES

pub lines-so : (b : Problem) (low : ℕ) (known : List Fact) (lines : List Line) → AreFounded b low known lines → (order : List ℕ) → IsLegal b.block order → total_of b order < low → AreSo b order known → AreSo b order (facts_after known lines)
lines-so b low known [] founded order legal less so = so
lines-so b low known (line ∷ lines) founded order legal less so =
    lines-so b low (fact_of line ∷ known) lines founded.1 order legal less (line-follows b low known line founded.0 order legal less so, so)

-- A LOWER TIME: what is shown of one is shown of each that is less

module _ (b : Problem) (low other : ℕ) (less : other ≤ low) where
  paths-lower : (known : List Fact) (line : Line) → IsFoundedByPaths b low known line → IsFoundedByPaths b other known line
  paths-lower known (ForcedPair y x) (differ, is_x, is_y, inl (h, t, head, tail, late)) =
      (differ, is_x, is_y, inl (h, t, head, tail, omega (arith, late, less)))
  paths-lower known (ForcedPair y x) (differ, is_x, is_y, inr (h, t, one, head, tail, late)) =
      (differ, is_x, is_y, inr (h, t, one, head, tail, omega (arith, late, less)))
  paths-lower known _ founded = founded

  too_late-lower : (known : List Fact) → IsTooLate b low known → IsTooLate b other known
  too_late-lower known (inl (hops, path, long)) = inl (hops, path, omega (arith, long, less))
  too_late-lower known (inr ring) = inr ring

  by_paths-lower : (known : List Fact) (lines : List Line) → AreEach (IsFoundedByPaths b low) known lines → AreEach (IsFoundedByPaths b other) known lines
  by_paths-lower known [] founded = tt
  by_paths-lower known (line ∷ lines) founded = (paths-lower known line founded.0, by_paths-lower (fact_of line ∷ known) lines founded.1)

  refuted-lower : (known : List Fact) → IsRefuted b low known → IsRefuted b other known
  refuted-lower known (lines, founded, late) = (lines, by_paths-lower known lines founded, too_late-lower (facts_after known lines) late)

  founded-lower : (known : List Fact) (line : Line) → IsFounded b low known line → IsFounded b other known line
  founded-lower known (ForcedPair y x) founded = paths-lower known (ForcedPair y x) founded
  founded-lower known (LoadArc kind e f h wait uses) founded = paths-lower known (LoadArc kind e f h wait uses) founded
  founded-lower known (Supposed y x) (differ, is_x, is_y, refuted) = (differ, is_x, is_y, refuted-lower (Before x y ∷ known) refuted)

  pub lines-lower : (known : List Fact) (lines : List Line) → AreFounded b low known lines → AreFounded b other known lines
  lines-lower known [] founded = tt
  lines-lower known (line ∷ lines) founded = (founded-lower known line founded.0, lines-lower (fact_of line ∷ known) lines founded.1)
