-- The numbers that stretches and steps have are those of instructions of the block, so they can be printed with their texts.
use Rattle.std.proofs.Common.{ℕ, suc, ◌+◌, ◌≤◌, ◌<◌, ◌≡◌, ◌∙◌, List, [], ◌∷◌, ◌++◌, ap, arith, drop, get_or, inl, inr, length, length-append, refl, reverse, subst, sym, take, take-append-drop}
use Rattle.std.proofs.lemmas.Bool.{cases_Bool, cond-false, cond-true}
use Rattle.std.proofs.lemmas.List.{reverse-append}
use Rattle.s66_isa.specs.{BLOCK_LIMIT, Among}
use Rattle.s66_isa.proofs.Lists.{among-front, among-rest, split-among}
use Rattle.s66_model.specs.{Problem, Point, point_of, points_after, points_of}
use Rattle.s66_model.proofs.PointTimes.{point_of-number, points_after-append}
use Rattle.s66_line.proofs.OperationLaw.{among-at}
use Rattle.s66_why.specs.{Milestone, Step, Wait, Stretch, is_linked, next_wait, passes, steps, steps_from, stretches, stretches_at, walk}
use Rattle.s66_why.proofs.Earlier.{earlier-more}
use Rattle.s66_why.proofs.Forbidden.{all-forbidden, points-met}

-- AT PLACES OF LISTS

pub among-item : {X : Type 0} (xs : List X) (i : ℕ) (x : X) → i < length xs → x ≡ get_or xs i x → Among x xs
among-item xs i x lt at = subst (λ y. Among y xs) (sym at) (among-at xs i x lt)

-- what holds at each place holds of each
pub each-among : {X : Type 0} (P : X → Type 0) (xs : List X) → ((i : ℕ) (d : X) → i < length xs → P (get_or xs i d)) → (x : X) → Among x xs → P x
each-among P [] at x among = absurd among
each-among P (y ∷ ys) at x (inl e) = subst P (sym e) (at 0 y (omega arith))
each-among P (y ∷ ys) at x (inr past) = each-among P ys (λ i d lt. at (suc i) d (omega (arith, lt))) x past

among-reverse : {X : Type 0} (x : X) (xs : List X) → Among x (reverse xs) → Among x xs
among-reverse x [] among = absurd among
among-reverse x (y ∷ ys) among =
    elim (split-among x (reverse ys) (y ∷ []) (subst (Among x) (reverse-append (y ∷ []) ys) among)) [
      | inl past ↦ inr (among-reverse x ys past)
      | inr here ↦ elim here [ inl e ↦ inl e | inr none ↦ absurd none ]
    ]

among-later : (later s : List Point) (x : Stretch) → Among x (stretches s) → Among x (stretches (later ++ s))
among-later [] s x among = among
among-later (p ∷ later) s x among = among-front x (stretches (later ++ s)) (stretches_at (later ++ s) p) (among-later later s x among)

pub among-stretches : (ps : List Point) (i : ℕ) (p : Point) → i < length ps → p ≡ get_or ps i p → (x : Stretch) →
    Among x (stretches_at (reverse (take i ps)) p) → Among x (stretches (reverse ps))
among-stretches ps i p lt at x among =
    let s : List Point = reverse (take i ps) in
    let here : Among x (stretches (reverse (take (i + 1) ps))) =
    subst (λ (u : List Point). Among x (stretches u)) (sym (earlier-more ps i p lt at)) (among-rest x (stretches s) (stretches_at s p) among) in
    let split : reverse ps ≡ reverse (drop (i + 1) ps) ++ reverse (take (i + 1) ps) =
    ap reverse (sym (take-append-drop (i + 1) ps)) ∙ reverse-append (take (i + 1) ps) (drop (i + 1) ps) in
    subst (λ (u : List Point). Among x (stretches u)) (sym split) (among-later (reverse (drop (i + 1) ps)) (reverse (take (i + 1) ps)) x here)

-- OF STRETCHES

module _ (b : Problem) (P : ℕ → Type 0) where
  abbrev Holds : ℕ → Type 0
  Holds n = (1 ≤ n) × P n

  abbrev AllHold : List Stretch → Type 0
  AllHold xs = (x : Stretch) → Among x xs → P x.number × P x.holder.number

  hold-at : (ms : List ℕ) (n : ℕ) → length ms ≤ BLOCK_LIMIT → ((m : ℕ) → Among m ms → Holds m) → P n →
      AllHold (stretches_at (points_of b ms) (point_of b (points_of b ms) n))
  hold-at ms n few all own x among =
      let is = all-forbidden b ms n x few (λ m in_ms. (all m in_ms).0) among in
      let (q, in_s, number, kept) = is.2 in (
        subst P (sym (is.0 ∙ point_of-number b (points_of b ms) n)) own,
        subst P number (points-met b P [] ms (λ u none. absurd none) (λ m in_ms. (all m in_ms).1) q in_s),
      )

  hold-after : (ms ns : List ℕ) → length ms + length ns ≤ BLOCK_LIMIT → ((m : ℕ) → Among m ms → Holds m) → ((n : ℕ) → Among n ns → Holds n) →
      AllHold (stretches (points_of b ms)) → AllHold (stretches (points_after b (points_of b ms) ns))
  hold-after ms [] few old new done = done
  hold-after ms (n ∷ ns) few old new done =
      let s : List Point = points_of b ms in
      let p : Point = point_of b s n in
      let here : AllHold (stretches (p ∷ s)) =
      λ x among.
      elim (split-among x (stretches s) (stretches_at s p) among) [
        | inl past ↦ done x past
        | inr at ↦ hold-at ms n (omega (arith, few)) old (new n (inl refl)).1 x at
      ] in
      let more : points_of b (ms ++ n ∷ []) ≡ p ∷ s = points_after-append b [] ms (n ∷ []) in
      let both : (m : ℕ) → Among m (ms ++ n ∷ []) → Holds m =
      λ m among.
      elim (split-among m ms (n ∷ []) among) [
        | inl past ↦ old m past
        | inr at ↦ elim at [ inl e ↦ subst Holds (sym e) (new n (inl refl)) | inr none ↦ absurd none ]
      ] in
      subst (λ (l : List Point). AllHold (stretches l) → AllHold (stretches (points_after b l ns))) more
      (λ all. hold-after (ms ++ n ∷ []) ns (omega (arith, few, length-append ms (n ∷ []))) both (λ m among. new m (inr among)) all) here

  pub stretches-hold : (ns : List ℕ) → length ns ≤ BLOCK_LIMIT → ((n : ℕ) → Among n ns → Holds n) → AllHold (stretches (points_of b ns))
  stretches-hold ns few all = hold-after [] ns (omega (arith, few)) (λ m none. absurd none) all (λ x none. absurd none)

-- OF STEPS

walk-met : (w : Wait) (s : List Point) (m : Milestone) → Among m (walk w s) → (q : Point) × Among q s × (m.number ≡ q.number)
walk-met w [] m among = absurd among
walk-met w (p ∷ s) m among =
    let here : Milestone = record { number = p.number; time = passes w.link w.until p } in
    let next : List Milestone = walk (next_wait w.link s p) s in
    elim (cases_Bool (is_linked w.link s p)) [
      | inl leads ↦
          elim (subst (Among m) (cond-true (is_linked w.link s p) (here ∷ next) (walk w s) leads) among) [
            | inl e ↦ (p, inl refl, ap (λ (u : Milestone). u.number) e)
            | inr past ↦ let met = walk-met (next_wait w.link s p) s m past in (met.0, inr met.1, met.2)
          ]
      | inr apart ↦
          let met = walk-met w s m (subst (Among m) (cond-false (is_linked w.link s p) (here ∷ next) (walk w s) apart) among) in
          (met.0, inr met.1, met.2)
    ]

steps-met : (t : ℕ) (ms : List Milestone) (x : Step) → Among x (steps_from t ms) → (m : Milestone) × Among m ms × (x.number ≡ m.number)
steps-met t [] x among = absurd among
steps-met t (m ∷ ms) x (inl e) = (m, inl refl, ap (λ (u : Step). u.number) e)
steps-met t (m ∷ ms) x (inr past) = let met = steps-met m.time ms x past in (met.0, inr met.1, met.2)

pub steps-hold : (P : ℕ → Type 0) (s : List Point) → ((q : Point) → Among q s → P q.number) → (x : Step) → Among x (steps s) → P x.number
steps-hold P s all x among =
    let step = steps-met 0 _ x among in
    let stop = walk-met _ s step.0 (among-reverse step.0 _ step.1) in
    subst P (sym (step.2 ∙ stop.2)) (all stop.0 stop.1)
