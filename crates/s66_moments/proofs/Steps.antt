-- Each step is so in every order that has what is known, and so is each path of them.
use Rattle.std.proofs.Common.{ℕ, ◌+◌, ◌≤◌, ◌≡◌, Bool, true, List, [], ◌∷◌, ◌++◌, sym, ap, arith, inl, inr, subst}
use Rattle.s66_model.specs.{Problem, IsLegal}
use Rattle.s66_moments.specs.{Moment, Origin, At, End, stage_time, time_of, Fact, Arc, Before, Begins, IsSo, AreSo, IsNumber, IsFirst, PrecedesBy, Precedes, IsInOrder, IsAtPrefix, IsStep, Hop, IsPath}
use Rattle.s66_moments.specs.{waits, AreKept, Leads}
use Rattle.s66_moments.proofs.FactLaws.{among-so, depends-before, before-transitive, prefix-time_at, prefix-before}
use Rattle.s66_moments.proofs.Soonest.{soonest-le, total-stays}
use Rattle.s66_moments.proofs.TableArcs.{InOrder, arc-so}

-- IN ONE ORDER that has the known facts
module _ (b : Problem) (known : List Fact) (order : List ℕ) (legal : IsLegal b.block order) (so : AreSo b order known) where
  first-so : (m n : ℕ) → IsFirst b known m n → IsNumber b n → IsSo b order (Before m n)
  first-so m n (inl dep) is = depends-before b order legal m n is.1 dep is.0
  first-so m n (inr (inl among)) is = among-so b order (Before m n) known among so
  first-so m n (inr (inr (prefix, among, placed))) is =
      (let (rest, e) = among-so b order (Begins prefix) known among so in prefix-before b order legal prefix rest e m n placed.0 placed.1 is.0 is.1)

  by-so : (m : ℕ) (between : List ℕ) (n : ℕ) → PrecedesBy b known m between n → IsSo b order (Before m n)
  by-so m [] n by = first-so m n by.0 by.1
  by-so m (k ∷ ks) n by = before-transitive b order legal m k n (first-so m k by.0 by.1) (by-so k ks n by.2)

  pub precedes-so : (m n : ℕ) → Precedes b known m n → IsSo b order (Before m n)
  precedes-so m n (between, by) = by-so m between n by

  in-order : (e f : Moment) → IsInOrder b known e f → InOrder b order legal e f
  in-order (At m e) (At n f) h =
      elim h [
        | inl same ↦ inl same
        | inr precedes ↦ inr (precedes-so m n precedes)
      ]
  in-order _ _ h = tt

  at_prefix-so : (prefix rest : List ℕ) (w : ℕ) (f : Moment) → order ≡ prefix ++ rest → IsAtPrefix b prefix w f → w ≤ time_of b order f
  at_prefix-so prefix rest w Origin e is = absurd is
  at_prefix-so prefix rest w (At n stage) e (inl (there, is)) = omega (arith, is, prefix-time_at b order legal prefix rest e n (stage_time stage) there)
  at_prefix-so prefix rest w (At n stage) e (inr (remains, is)) = omega (arith, is, soonest-le b order legal prefix rest e n stage remains)
  at_prefix-so prefix rest w End e is = omega (arith, is, total-stays b order legal prefix rest e)

  pub step-so : (e : Moment) (w : ℕ) (f : Moment) → IsStep b known e w f → time_of b order e + w ≤ time_of b order f
  step-so e w f (inl (stands, is, at_arc)) = arc-so b order legal e f w (in-order e f stands) is at_arc
  step-so e w f (inr (inl among)) = omega (arith, among-so b order (Arc e w f 0) known among so)
  step-so e w f (inr (inr (origin, decided))) =
      (let (prefix, among, is) = decided in
      let (rest, begins) = among-so b order (Begins prefix) known among so in
      omega (arith, at_prefix-so prefix rest w f begins is, ap (time_of b order) origin))

  path-so : (e : Moment) (hops : List Hop) (f : Moment) → IsPath (IsStep b known) e hops f → time_of b order e + waits hops ≤ time_of b order f
  path-so e [] f path = omega (arith, ap (time_of b order) path)
  path-so e (hop ∷ hops) f path = omega (arith, step-so e hop.wait hop.to path.0, path-so hop.to hops f path.1)

  pub leads-so : (e : Moment) (w : ℕ) (f : Moment) → Leads b known e w f → time_of b order e + w ≤ time_of b order f
  leads-so e w f (hops, path, le) = omega (arith, path-so e hops f path, le)

-- BY A TABLE: times that keep each step are no less than any path

pub table-along : (Steps : Moment → ℕ → Moment → Type 0) (reached : Moment → Bool) (times : Moment → ℕ) → AreKept Steps reached times → (e f : Moment) (hops : List Hop) → reached e ≡ true → IsPath Steps e hops f → (reached f ≡ true) × (times e + waits hops ≤ times f)
table-along Steps reached times kept e f [] here path = (subst (λ m. reached m ≡ true) path here, omega (arith, ap times path))
table-along Steps reached times kept e f (hop ∷ hops) here path =
    let (there, late) = kept e hop.to hop.wait path.0 here in
    let (end, rest) = table-along Steps reached times kept hop.to f hops there path.1 in
    (end, omega (arith, late, rest))

-- the same from where the paths lead to
pub table-back : (Steps : Moment → ℕ → Moment → Type 0) (reached : Moment → Bool) (times : Moment → ℕ) → AreKept (λ f w e. Steps e w f) reached times → (e f : Moment) (hops : List Hop) → reached f ≡ true → IsPath Steps e hops f → (reached e ≡ true) × (times f + waits hops ≤ times e)
table-back Steps reached times kept e f [] there path = (subst (λ m. reached m ≡ true) (sym path) there, omega (arith, ap times path))
table-back Steps reached times kept e f (hop ∷ hops) there path =
    let (next, rest) = table-back Steps reached times kept hop.to f hops there path.1 in
    let (here, late) = kept hop.to e hop.wait path.0 next in
    (here, omega (arith, late, rest))
