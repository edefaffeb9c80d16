-- A network with an arc more, and a test with a pair more.
use Rattle.std.proofs.Common.{ℕ, zero, suc, ◌+◌, ◌≤◌, ◌<◌, ◌≡◌, Bool, true, false, true≢false, ◌&&◌, max, List, [], ◌∷◌, refl, sym, ap, arith, inl, inr, eqb, ◌∙◌, ◌⊎◌, subst, Some, None, Option}
use Rattle.std.proofs.Common.{unwrap_or, is_some, eqb-true, eq-eqb}
use Rattle.std.proofs.lemmas.Bool.{cond-true, cond-false, and_parts, and_from, or_cases, cases_Bool}
use Rattle.s66_isa.specs.{Among}
use Rattle.s66_isa.proofs.Lists.{cases_le, greatest-le-greatest}
use Rattle.s66_isa.proofs.SameRegister.{same_reg-true, same_reg-self}
use Rattle.s66_model.specs.{Problem}
use Rattle.s66_moments.specs.{Stage, Issue, Start, Done, Free, Moment, Origin, At, End, Fact, Arc, Before, Follows, IsNumber, PrecedesBy, Precedes, Network, IsKnown, AreArcs, targets, most_arcs}
use Rattle.s66_moments.specs.{RisesBy, HasOwnArcs, same_stage, same_moment, with_arc, with_pair, through, tail_over, tail, AreSteps}
use Rattle.s66_moments.proofs.TableArcs.{Some-same}
use Rattle.s66_moments.proofs.Tails.{some-arc, arc-some}

-- WHICH MOMENTS ARE THE SAME

same_stage-true : (e f : Stage) → same_stage e f ≡ true → e ≡ f
same_stage-true Issue Issue h = refl
same_stage-true Start Start h = refl
same_stage-true (Done x) (Done y) h = ap (λ r. Done r) (same_reg-true x y h)
same_stage-true Free Free h = refl
same_stage-true _ _ h = absurd (true≢false (sym h))

pub same_moment-true : (e f : Moment) → same_moment e f ≡ true → e ≡ f
same_moment-true Origin Origin h = refl
same_moment-true (At m e) (At n f) h =
    let (number, stage) = and_parts _ (same_stage e f) h in
    ap (λ k. At k e) (eqb-true m n number) ∙ ap (λ s. At n s) (same_stage-true e f stage)
same_moment-true End End h = refl
same_moment-true _ _ h = absurd (true≢false (sym h))

same_stage-self : (e : Stage) → same_stage e e ≡ true
same_stage-self (Done x) = same_reg-self x
same_stage-self _ = refl

pub same_moment-self : (e : Moment) → same_moment e e ≡ true
same_moment-self (At n e) = and_from (eqb n n) (same_stage e e) (eq-eqb n n refl) (same_stage-self e)
same_moment-self _ = refl

-- AN ARC MORE

module _ (arcs : Network) (e : Moment) (w : ℕ) (f : Moment) where
  -- it is the arc from e to f, or as before
  pub with-cases : (m n : Moment) → ((m ≡ e) × (n ≡ f) × (with_arc arcs e w f m n ≡ Some (max w (unwrap_or (arcs e f) 0)))) ⊎ (with_arc arcs e w f m n ≡ arcs m n)
  with-cases m n =
      elim (cases_Bool (same_moment m e && same_moment n f)) [
        | inl both ↦
            let (first, second) = and_parts (same_moment m e) (same_moment n f) both in
            inl (same_moment-true m e first, same_moment-true n f second, cond-true {A = Option ℕ} (same_moment m e && same_moment n f) (Some (max w (unwrap_or (arcs e f) 0))) (arcs m n) both)
        | inr other ↦ inr (cond-false {A = Option ℕ} (same_moment m e && same_moment n f) (Some (max w (unwrap_or (arcs e f) 0))) (arcs m n) other)
      ]

  pub with-there : with_arc arcs e w f e f ≡ Some (max w (unwrap_or (arcs e f) 0))
  with-there =
      cond-true {A = Option ℕ} (same_moment e e && same_moment f f) (Some (max w (unwrap_or (arcs e f) 0))) (arcs e f) (and_from (same_moment e e) (same_moment f f) (same_moment-self e) (same_moment-self f))

  -- no arc is shorter than before
  pub with-longer : (m n : Moment) (u : ℕ) → arcs m n ≡ Some u → (v : ℕ) × (with_arc arcs e w f m n ≡ Some v) × (u ≤ v)
  with-longer m n u is =
      elim (with-cases m n) [
        | inl at ↦
            let (first, second, there) = at in
            let old : arcs e f ≡ Some u = ap (λ k. arcs k f) (sym first) ∙ (ap (λ k. arcs m k) (sym second) ∙ is) in
            (max w (unwrap_or (arcs e f) 0), there, omega (arith, ap (λ (o : Option ℕ). unwrap_or o 0) old))
        | inr same ↦ (u, same ∙ is, omega arith)
      ]

  -- so each arc is an old one, or the new one
  pub with-some : (m n : Moment) (v : ℕ) → with_arc arcs e w f m n ≡ Some v → (arcs m n ≡ Some v) ⊎ ((m ≡ e) × (n ≡ f) × (v ≡ w))
  with-some m n v is =
      elim (with-cases m n) [
        | inl (first, second, there) ↦
            elim (longer (arcs e f) (Some-same (max w (unwrap_or (arcs e f) 0)) v (sym there ∙ is))) [
              | inl old ↦ inl (ap (λ k. arcs k n) first ∙ (ap (arcs e) second ∙ old))
              | inr new ↦ inr (first, second, new)
            ]
        | inr same ↦ inl (sym same ∙ is)
      ]
    where
      longer : (o : Option ℕ) → max w (unwrap_or o 0) ≡ v → (o ≡ Some v) ⊎ (v ≡ w)
      longer None value = inr (omega (arith, value))
      longer (Some u) value =
          elim (cases_le u w) [
            | inl le ↦ inr (omega (arith, value, le))
            | inr lt ↦ inl (ap Some (omega (arith, value, lt)))
          ]

  pub with-follows : (b : Problem) (low : ℕ) (known : List Fact) → AreArcs b low known arcs → Follows b low known (Arc e w f 0) → AreArcs b low known (with_arc arcs e w f)
  with-follows b low known follow more m n v is =
      elim (with-some m n v is) [
        | inl old ↦ follow m n v old
        | inr (first, second, new) ↦ rw (first, second, new) more
      ]

  pub with-rises : (b : Problem) (rank : Moment → ℕ) → RisesBy b arcs rank → Among f (targets b) → rank e < rank f → rank f ≤ most_arcs b → RisesBy b (with_arc arcs e w f) rank
  with-rises b rank rises among up high m n some =
      elim (with-cases m n) [
        | inl at ↦
            let (first, second, there) = at in
            subst (λ k. Among n (targets b) × (rank k < rank n) × (rank n ≤ most_arcs b)) (sym first) (subst (λ k. Among k (targets b) × (rank e < rank k) × (rank k ≤ most_arcs b)) (sym second) (among, up, high))
        | inr same ↦ rises m n (ap (λ (o : Option ℕ). is_some o) (sym same) ∙ some)
      ]

  pub with-own : (b : Problem) → HasOwnArcs b arcs → HasOwnArcs b (with_arc arcs e w f)
  with-own b own n first second u is_e is_f is =
      let (v, there, le) = own n first second u is_e is_f is in
      let (x, now, longer) = with-longer (At n first) (At n second) v there in
      (x, now, omega (arith, le, longer))

  -- so no tail is shorter
  tail-grows : (b : Problem) (more : ℕ) (m : Moment) → tail_over b arcs more m ≤ tail_over b (with_arc arcs e w f) more m
  tail-grows b zero m = omega arith
  tail-grows b (suc more) m =
      greatest-le-greatest (through arcs (tail_over b arcs more) m) (through (with_arc arcs e w f) (tail_over b (with_arc arcs e w f) more) m) (λ n.
      elim (cases_Bool (is_some (arcs m n))) [
        | inl some ↦
            let (v, now, longer) = with-longer m n (unwrap_or (arcs m n) 0) (some-arc (arcs m n) some) in
            let (there, takes) = arc-some (with_arc arcs e w f m n) v now in
            omega (
              arith,
              longer,
              takes,
              tail-grows b more n,
              cond-true {A = ℕ} (is_some (arcs m n)) (unwrap_or (arcs m n) 0 + tail_over b arcs more n) 0 some,
              cond-true {A = ℕ} (is_some (with_arc arcs e w f m n)) (unwrap_or (with_arc arcs e w f m n) 0 + tail_over b (with_arc arcs e w f) more n) 0 there,
            )
        | inr none ↦ omega (arith, cond-false {A = ℕ} (is_some (arcs m n)) (unwrap_or (arcs m n) 0 + tail_over b arcs more n) 0 none)
      ]) (targets b)

  pub with-longer_tail : (b : Problem) (m : Moment) → tail b arcs m ≤ tail b (with_arc arcs e w f) m
  with-longer_tail b m = tail-grows b (most_arcs b) m

pub with-steps : (b : Problem) (known : List Fact) (arcs : Network) (e : Moment) (w : ℕ) (f : Moment) → AreSteps b known arcs → Among (Arc e w f 0) known → AreSteps b known (with_arc arcs e w f)
with-steps b known arcs e w f steps among m n v is =
    elim (with-some arcs e w f m n v is) [
      | inl old ↦ steps m n v old
      | inr (first, second, new) ↦ rw (first, second, new) (inr (inl among))
    ]

-- A PAIR MORE

module _ (b : Problem) (known : List Fact) where
  precedes-joined : (m : ℕ) (between : List ℕ) (k n : ℕ) → PrecedesBy b known m between k → Precedes b known k n → Precedes b known m n
  precedes-joined m [] k n by (more, then) = (k ∷ more, (by.0, by.1, then))
  precedes-joined m (j ∷ js) k n by then =
      let (rest, is) = precedes-joined j js k n by.2 then in
      (j ∷ rest, (by.0, by.1, is))

  pub precedes-through : (m k n : ℕ) → Precedes b known m k → Precedes b known k n → Precedes b known m n
  precedes-through m k n (between, by) then = precedes-joined m between k n by then

  pub pair-known : (before : ℕ → ℕ → Bool) (y x : ℕ) → IsKnown b known before → IsNumber b y → IsNumber b x → Among (Before y x) known → IsKnown b known (with_pair before y x)
  pair-known before y x is is_y is_x among m n is_m is_n h =
      elim (or_cases (before m n) _ h) [
        | inl old ↦ is m n is_m is_n old
        | inr more ↦
            let (first, second) = and_parts _ _ more in
            let pair : Precedes b known y x = ([], (inr (inl among), is_x)) in
            let late : Precedes b known y n = elim (or_cases _ (before x n) second) [
              | inl here ↦ subst (λ k. Precedes b known y k) (sym (eqb-true n x here)) pair
              | inr past ↦ precedes-through y x n pair (is x n is_x is_n past)
            ] in
            elim (or_cases _ (before m y) first) [
              | inl here ↦ subst (λ k. Precedes b known k n) (sym (eqb-true m y here)) late
              | inr past ↦ precedes-through m y n (is m y is_m is_y past) late
            ]
      ]
