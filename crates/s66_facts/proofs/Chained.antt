-- Chains of arcs of loads: they end, one arc more leaves them as they are, and each number's chain gives what all arcs give.
use Rattle.std.proofs.Common.{ℕ, zero, suc, ◌+◌, ◌-◌, ◌≤◌, ◌<◌, ◌≡◌, ◌≢◌, Bool, true, false, List, [], ◌∷◌, ◌++◌, length, get_or, set, replicate, refl, sym, ap, arith, inl, inr, leb, ◌∙◌, subst}
use Rattle.std.proofs.Common.{Option, Some, None, leb-true, length-append, get_or-set_same, get_or-set_other, length-set}
use Rattle.std.proofs.lemmas.Bool.{cases_Bool, cases_eq}
use Rattle.std.proofs.lemmas.List.{get_or_append_left, get_or_push, get_or-replicate, length-replicate}
use Rattle.s66_isa.proofs.Lists.{cases_le}
use Rattle.s66_moments.specs.{Moment, KnownArc, same_moment, later, latest}
use Rattle.s66_moments.proofs.TableArcs.{and_three}
use Rattle.s66_moments.proofs.MoreArcs.{same_moment-true}
use Rattle.s66_moments.proofs.Spans.{height-same, height-later}
use Rattle.s66_facts.specs.{Direction, Forward, Backward, arc_start, arc_end, add, when, by_arc, number_of, no_arc, along, is_as_long, HasAsLong, IsFalling, IsPushed, IsChained}
use Rattle.s66_facts.proofs.Latest.{later-none, later-assoc}

later-comm : (o p : Option ℕ) → later o p ≡ later p o
later-comm o p = height-same (later o p) (later p o) (omega (arith, height-later o p, height-later p o))

latest-append : (f : KnownArc → Option ℕ) (arcs : List KnownArc) (other : KnownArc) → latest f (arcs ++ other ∷ []) ≡ later (latest f arcs) (f other)
latest-append f [] other = later-none (f other)
latest-append f (l ∷ ls) other = ap (later (f l)) (latest-append f ls other) ∙ sym (later-assoc (f l) (latest f ls) (f other))

-- ALONG A CHAIN

module _ (f : KnownArc → Option ℕ) (arcs : List KnownArc) (before : List ℕ) (falling : IsFalling arcs before) where
  abbrev from_place : ℕ → Option ℕ
  from_place place = along f arcs before place place

  along-same : (h h2 place : ℕ) → place ≤ h → place ≤ h2 → place ≤ length arcs → along f arcs before h place ≡ along f arcs before h2 place
  along-same zero (suc k2) (suc i) le le2 fits = absurd (omega (arith, le))
  along-same (suc k) zero (suc i) le le2 fits = absurd (omega (arith, le2))
  along-same (suc k) (suc k2) (suc i) le le2 fits =
      let falls : get_or before i 0 ≤ i = falling.falls i (omega (arith, fits, falling.count)) in
      ap (later (f (get_or arcs i no_arc))) (along-same k k2 (get_or before i 0) (omega (arith, falls, le)) (omega (arith, falls, le2)) (omega (arith, falls, fits)))
  along-same _ _ _ le le2 fits = refl

  pub along-at : (place : ℕ) → 0 < place → place ≤ length arcs → from_place place ≡ later (f (get_or arcs (place - 1) no_arc)) (from_place (get_or before (place - 1) 0))
  along-at zero some fits = absurd (omega (arith, some))
  along-at (suc i) some fits =
      let falls : get_or before i 0 ≤ i = falling.falls i (omega (arith, fits, falling.count)) in
      let e : suc i - 1 ≡ i = omega arith in
      ap (later (f (get_or arcs i no_arc))) (along-same i (get_or before i 0) (get_or before i 0) falls (omega arith) (omega (arith, falls, fits)))
      ∙ ap (λ j. later (f (get_or arcs j no_arc)) (from_place (get_or before j 0))) (sym e)

  along-append : (other : KnownArc) (p h place : ℕ) → place ≤ h → place ≤ length arcs → along f (arcs ++ other ∷ []) (before ++ p ∷ []) h place ≡ along f arcs before h place
  along-append other p (suc k) (suc i) le fits =
      let inside : i < length before = omega (arith, fits, falling.count) in
      let falls : get_or before i 0 ≤ i = falling.falls i inside in
      let arcs2 : List KnownArc = arcs ++ other ∷ [] in
      let before2 : List ℕ = before ++ p ∷ [] in
      ap (λ (l : KnownArc). later (f l) (along f arcs2 before2 k (get_or before2 i 0))) (get_or_append_left arcs (other ∷ []) no_arc i (omega (arith, fits)))
      ∙ (ap (λ j. later (f (get_or arcs i no_arc)) (along f arcs2 before2 k j)) (get_or_append_left before (p ∷ []) 0 i inside)
      ∙ ap (later (f (get_or arcs i no_arc))) (along-append other p k (get_or before i 0) (omega (arith, falls, le)) (omega (arith, falls, fits))))
  along-append other p _ _ le fits = refl

  -- what the rest of a chain has, all of it has
  pub along-lifts : (place : ℕ) (o : Option ℕ) → 0 < place → place ≤ length arcs → later (from_place (get_or before (place - 1) 0)) o ≡ from_place (get_or before (place - 1) 0) → later (from_place place) o ≡ from_place place
  along-lifts place o some fits has =
      let v : Option ℕ = f (get_or arcs (place - 1) no_arc) in
      ap (λ q. later q o) (along-at place some fits) ∙ (later-assoc v (from_place (get_or before (place - 1) 0)) o ∙ (ap (later v) has ∙ sym (along-at place some fits)))

  -- and what its arc has
  pub along-has : (place : ℕ) (o : Option ℕ) → 0 < place → place ≤ length arcs → later (f (get_or arcs (place - 1) no_arc)) o ≡ f (get_or arcs (place - 1) no_arc) → later (from_place place) o ≡ from_place place
  along-has place o some fits has =
      let v : Option ℕ = f (get_or arcs (place - 1) no_arc) in
      let rest : Option ℕ = from_place (get_or before (place - 1) 0) in
      ap (λ q. later q o) (along-at place some fits)
      ∙ (later-assoc v rest o ∙ (ap (later v) (later-comm rest o) ∙ (sym (later-assoc v o rest) ∙ (ap (λ q. later q rest) has ∙ sym (along-at place some fits)))))

  -- the latest so far, and along the rest
  pub along-next : (place : ℕ) (so_far whole : Option ℕ) → 0 < place → place ≤ length arcs → later so_far (from_place place) ≡ whole → later (later so_far (f (get_or arcs (place - 1) no_arc))) (from_place (get_or before (place - 1) 0)) ≡ whole
  along-next place so_far whole some fits is =
      later-assoc so_far (f (get_or arcs (place - 1) no_arc)) (from_place (get_or before (place - 1) 0)) ∙ (ap (later so_far) (sym (along-at place some fits)) ∙ is)

-- where it goes on
pub next-fits : (arcs : List KnownArc) (before : List ℕ) → IsFalling arcs before → (place : ℕ) → 0 < place → place ≤ length arcs → get_or before (place - 1) 0 < place
next-fits arcs before falling place some fits = omega (arith, falling.falls (place - 1) (omega (arith, some, fits, falling.count)), some)

falling-push : (arcs : List KnownArc) (before : List ℕ) (other : KnownArc) (p : ℕ) → IsFalling arcs before → p ≤ length arcs → IsFalling (arcs ++ other ∷ []) (before ++ p ∷ [])
falling-push arcs before other p falling le =
    record {
      count = omega (arith, length-append before (p ∷ []), length-append arcs (other ∷ []), falling.count);
      falls = λ i less. elim (cases_le (length before) i) [
        | inl past ↦
            let last : length before ≡ i = omega (arith, past, less, length-append before (p ∷ [])) in
            omega (arith, get_or_push before p 0 i last, le, last, falling.count)
        | inr inside ↦ omega (arith, get_or_append_left before (p ∷ []) 0 i inside, falling.falls i inside)
      ];
    }

-- BY ONE ARC

none-when : (m e : Moment) (o : Option ℕ) → number_of m ≢ number_of e → when (same_moment m e) o ≡ None
none-when m e o differ =
    elim (cases_Bool (same_moment m e)) [
      | inl same ↦ absurd (differ (ap number_of (same_moment-true m e same)))
      | inr off ↦ ap (λ t. when t o) off
    ]

by_arc-apart : (d : Direction) (time : Moment → Option ℕ) (e : Moment) (l : KnownArc) → number_of (arc_end d l) ≢ number_of e → by_arc d time e l ≡ None
by_arc-apart d time e l differ = none-when (arc_end d l) e (add (time (arc_start d l)) l.wait) differ

absorbs-add : (o : Option ℕ) (v w : ℕ) → w ≤ v → later (add o v) (add o w) ≡ add o v
absorbs-add None v w le = refl
absorbs-add (Some t) v w le = ap Some (omega (arith, le))

absorbs-when : (t : Bool) (o : Option ℕ) (v w : ℕ) → w ≤ v → later (when t (add o v)) (when t (add o w)) ≡ when t (add o v)
absorbs-when true o v w le = absorbs-add o v w le
absorbs-when false o v w le = refl

long-parts : (d : Direction) (l other : KnownArc) → is_as_long l other ≡ true → (arc_start d l ≡ arc_start d other) × (arc_end d l ≡ arc_end d other) × (other.wait ≤ l.wait)
long-parts d l other long =
    let (from, to, wait) = and_three (same_moment l.from other.from) (same_moment l.to other.to) (leb other.wait l.wait) long in
    let (start, end) = at_ends d (same_moment-true l.from other.from from) (same_moment-true l.to other.to to) in
    (start, end, leb-true other.wait l.wait wait)
  where
    at_ends : (d : Direction) → l.from ≡ other.from → l.to ≡ other.to → (arc_start d l ≡ arc_start d other) × (arc_end d l ≡ arc_end d other)
    at_ends Forward from to = (from, to)
    at_ends Backward from to = (to, from)

by_arc-absorbs : (d : Direction) (time : Moment → Option ℕ) (e : Moment) (l other : KnownArc) → is_as_long l other ≡ true → later (by_arc d time e l) (by_arc d time e other) ≡ by_arc d time e l
by_arc-absorbs d time e l other long =
    let (start, end, le) = long-parts d l other long in
    ap (λ m. later (by_arc d time e l) (when (same_moment m e) (add (time (arc_start d other)) other.wait))) (sym end)
    ∙ (ap (λ m. later (by_arc d time e l) (when (same_moment (arc_end d l) e) (add (time m) other.wait))) (sym start)
    ∙ absorbs-when (same_moment (arc_end d l) e) (time (arc_start d l)) l.wait other.wait le)

-- ONE ARC MORE

module _ (limit : ℕ) (d : Direction) (arcs : List KnownArc) (last before last2 before2 : List ℕ) (other : KnownArc) (chained : IsChained limit d arcs last before) where
  abbrev n : ℕ
  n = number_of (arc_end d other)

  abbrev more : List KnownArc
  more = arcs ++ other ∷ []

  -- of a number whose chain stays
  stays : (p : ℕ) (time : Moment → Option ℕ) (e : Moment) → 1 ≤ number_of e → number_of e ≤ limit → later (latest (by_arc d time e) arcs) (by_arc d time e other) ≡ latest (by_arc d time e) arcs →
      along (by_arc d time e) more (before ++ p ∷ []) (get_or last (number_of e - 1) 0) (get_or last (number_of e - 1) 0) ≡ latest (by_arc d time e) more
  stays p time e low high nothing =
      along-append (by_arc d time e) arcs before chained.falling other p (get_or last (number_of e - 1) 0) (get_or last (number_of e - 1) 0) (omega arith) (chained.fits (number_of e) low high)
      ∙ (chained.whole time e low high ∙ (sym nothing ∙ sym (latest-append (by_arc d time e) arcs other)))

  of-others : (time : Moment → Option ℕ) (e : Moment) → number_of e ≢ n → later (latest (by_arc d time e) arcs) (by_arc d time e other) ≡ latest (by_arc d time e) arcs
  of-others time e differ = ap (later (latest (by_arc d time e) arcs)) (by_arc-apart d time e other (λ same. differ (sym same))) ∙ later-none (latest (by_arc d time e) arcs)

  skipped : (1 ≤ n → n ≤ limit → HasAsLong arcs before (get_or last (n - 1) 0) other) → IsChained limit d more last (before ++ 0 ∷ [])
  skipped known =
      record {
        size = chained.size;
        falling = falling-push arcs before other 0 chained.falling (omega arith);
        fits = λ k low high. omega (arith, chained.fits k low high, length-append arcs (other ∷ []));
        whole = λ time e low high. stays 0 time e low high (elim (cases_eq (number_of e) n) [
          | inl same ↦
              let f : KnownArc → Option ℕ = by_arc d time e in
              let is : along f arcs before (get_or last (n - 1) 0) (get_or last (n - 1) 0) ≡ latest f arcs =
              subst (λ k. along f arcs before (get_or last (k - 1) 0) (get_or last (k - 1) 0) ≡ latest f arcs) same (chained.whole time e low high) in
              ap (λ o. later o (f other)) (sym is) ∙ (known (omega (arith, low, same)) (omega (arith, high, same)) f (λ l long. by_arc-absorbs d time e l other long) ∙ is)
          | inr differ ↦ of-others time e differ
        ]);
      }

  linked : 1 ≤ n → n ≤ limit → IsChained limit d more (set last (n - 1) (length arcs + 1)) (before ++ get_or last (n - 1) 0 ∷ [])
  linked low_n high_n =
      record {
        size = omega (arith, length-set last (n - 1) (length arcs + 1), room);
        falling = falls;
        fits = λ k low high. elim (cases_eq k n) [
          | inl same ↦ omega (arith, length-append arcs (other ∷ []), ap (λ i. get_or last_new (i - 1) 0) same, now)
          | inr differ ↦ omega (arith, get_or-set_other last (n - 1) (k - 1) (length arcs + 1) 0 (λ e. differ (omega (arith, e, low, low_n))), chained.fits k low high, length-append arcs (other ∷ []))
        ];
        whole = λ time e low high. elim (cases_eq (number_of e) n) [
          | inl same ↦ ap (λ k. along (by_arc d time e) more before_new (get_or last_new (k - 1) 0) (get_or last_new (k - 1) 0)) same ∙ its-own time e low high same
          | inr differ ↦
              ap (λ j. along (by_arc d time e) more before_new j j) (get_or-set_other last (n - 1) (number_of e - 1) (length arcs + 1) 0 (λ is. differ (omega (arith, is, low, low_n))))
              ∙ stays (get_or last (n - 1) 0) time e low high (of-others time e differ)
        ];
      }
    where
      room : limit ≤ length last
      room = chained.size

      last_new : List ℕ
      last_new = set last (n - 1) (length arcs + 1)

      before_new : List ℕ
      before_new = before ++ get_or last (n - 1) 0 ∷ []

      now : get_or last_new (n - 1) 0 ≡ length arcs + 1
      now = get_or-set_same last (n - 1) (length arcs + 1) 0 (omega (arith, room, low_n, high_n))

      falls : IsFalling more before_new
      falls = falling-push arcs before other (get_or last (n - 1) 0) chained.falling (chained.fits n low_n high_n)

      its-own : (time : Moment → Option ℕ) (e : Moment) → 1 ≤ number_of e → number_of e ≤ limit → number_of e ≡ n →
          along (by_arc d time e) more before_new (get_or last_new (n - 1) 0) (get_or last_new (n - 1) 0) ≡ latest (by_arc d time e) more
      its-own time e low high same =
          let f : KnownArc → Option ℕ = by_arc d time e in
          let q : ℕ = get_or last (n - 1) 0 in
          let end : length arcs + 1 - 1 ≡ length arcs = omega arith in
          let is : along f arcs before q q ≡ latest f arcs = subst (λ k. along f arcs before (get_or last (k - 1) 0) (get_or last (k - 1) 0) ≡ latest f arcs) same (chained.whole time e low high) in
          ap (λ j. along f more before_new j j) now
          ∙ (along-at f more before_new falls (length arcs + 1) (omega arith) (omega (arith, length-append arcs (other ∷ [])))
          ∙ (ap (λ j. later (f (get_or more j no_arc)) (along f more before_new (get_or before_new j 0) (get_or before_new j 0))) end
          ∙ (ap (λ l. later (f l) (along f more before_new (get_or before_new (length arcs) 0) (get_or before_new (length arcs) 0))) (get_or_push arcs other no_arc (length arcs) refl)
          ∙ (ap (λ j. later (f other) (along f more before_new j j)) (get_or_push before q 0 (length arcs) chained.falling.count)
          ∙ (ap (later (f other)) (along-append f arcs before chained.falling other q q q (omega arith) (chained.fits n low_n high_n) ∙ is)
          ∙ (later-comm (f other) (latest f arcs) ∙ sym (latest-append f arcs other)))))))

  pub chained-push : IsPushed limit arcs other n last before last2 before2 → IsChained limit d more last2 before2
  chained-push (inl (known, same, is)) =
      subst (λ ps. IsChained limit d more last2 ps) (sym is) (subst (λ ps. IsChained limit d more ps (before ++ 0 ∷ [])) (sym same) (skipped known))
  chained-push (inr (low, high, now, is)) =
      subst (λ ps. IsChained limit d more last2 ps) (sym is) (subst (λ ps. IsChained limit d more ps (before ++ get_or last (n - 1) 0 ∷ [])) (sym now) (linked low high))

-- no arcs
pub chained-none : (limit : ℕ) (d : Direction) → IsChained limit d [] (replicate limit 0) []
chained-none limit d =
    record {
      size = omega (arith, length-replicate limit nil);
      falling = record { count = refl; falls = λ i less. absurd (omega (arith, less)) };
      fits = λ k low high. omega (arith, none k low high);
      whole = λ time e low high. ap (λ j. along (by_arc d time e) [] [] j j) (none (number_of e) low high);
    }
  where
    nil : ℕ
    nil = 0

    none : (k : ℕ) → 1 ≤ k → k ≤ limit → get_or (replicate limit nil) (k - 1) nil ≡ nil
    none k low high = get_or-replicate limit (k - 1) nil nil (omega (arith, low, high))
