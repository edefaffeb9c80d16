-- Each step of the lock of `src/lock.rt` keeps its rule: to take and to give, to found and to settle, to deal and to collect tokens.
use mathlib.Core.Option.{some, some-injective}
use mathlib.Core.Option as maybe
use mathlib.Core.Logic.{dite}
use native.Mathlib.Decide.{ℕ_discrete}
use prog.Atomic.{either}
use lib.ListN.{get_elem?}
use Rattle.std.proofs.Common.{◌≡◌, ◌≢◌, ℕ, ◌+◌, ◌<◌, ◌≤◌, inl, inr, eqb, List, [], ◌∷◌, ◌++◌, length, set, get_or, All, Option, Some, None, sym, refl, ap, ◌∙◌, subst, ⊎_elim, arith}
use Rattle.std.proofs.lemmas.List.Elements.{All-nil, All-cons, All-append}
use Rattle.atomic_table.specs.Table.{State, Me, keeps, takes, gives, Allows, Splits, Joins, Final, Seen, opening, rest}
use Rattle.atomic_table.proofs.Lists.{at_set, set_here, set_else, set_again, at_longer}
use Rattle.s66_isa.proofs.Lists.{weigh-append, tally-append}
use Rattle.s66_model.specs.{Summary, SeatRecord, Agrees, opened}
use Rattle.s66_share.specs.{View, Stage, Idle, Founding, Holding, idle, holding, founding, first_of, rest_of, books_of, found_at, first_book, renewed, SummaryGoesOn, MayBecome, HaveEvery, AllAgree}
use Rattle.s66_share.specs.{IsOnce, Has, IsFree, IsLockHeld, keep_least, read_best, keep_books, GaveFirst, FoundedAt}
use Rattle.s66_share.specs.Locked.{Locked}
use Rattle.s66_share.proofs.Seats.{inside, each-set, each-snoc, each-one, weigh-replaced, le-weigh_at, two-le-weigh, one_item}
use Rattle.s66_share.proofs.Books.{own, cut, rest-agree, first-agree, others-agree, opened_once, opened-agrees, opened-agree, some_opened, has_book}

abbrev among : ℕ → View → ℕ
among w v = books_of w v.books

-- a view with as many seat records of each worker takes the place of another
once_set : (views : List View) (id : ℕ) (v w : View) → get_elem? views id ≡ some v → ((n : ℕ) → among n w ≡ among n v) → IsOnce views → IsOnce (set views id w)
once_set views id v w at same once n = omega (arith, weigh-replaced (among n) views id v w at, same n, once n)

-- a seat that has the lock isn't one that is idle
other_stage : {X : Type 0} (s : Summary) (homes : List (maybe.Option (Option X))) (holder v : View) → some holder ≡ some v → Has s homes holder.stage → v.stage ≢ Idle
other_stage s homes holder v e has is_idle = subst (λ (g : Stage). Has s homes g) (ap (λ (u : View). u.stage) (some-injective holder v e) ∙ is_idle) has

-- a seat record whose worker has one at another seat
twice : (views : List View) (id other n : ℕ) (v u : View) → IsOnce views → get_elem? views id ≡ some v → get_elem? views other ≡ some u → other ≢ id → 1 ≤ among n v → 1 ≤ among n u → ⊥
twice views id other n v u once at at' ne a b = omega (arith, two-le-weigh (among n) views id other v u at at' ne, once n)

goes_on : (s t u : Summary) → SummaryGoesOn s t → SummaryGoesOn t u → SummaryGoesOn s u
goes_on s t u a b = record { rule = b.rule ∙ a.rule; problem = b.problem ∙ a.problem; budget = b.budget ∙ a.budget; workers = b.workers ∙ a.workers; best = omega (arith, a.best, b.best) }

module _ {X : Type 0} (summary : X → Summary) (key : X) where
  abbrev S : Type 0
  S = State (Option X) View

  -- the seat that isn't idle is the one that has the lock
  the_holder : (views : List View) (id holder : ℕ) (v : View) → v.stage ≢ Idle → get_elem? views id ≡ some v
      → ((j : ℕ) (u : View) → get_elem? views j ≡ some u → j ≢ holder → u.stage ≡ Idle) → id ≡ holder
  the_holder views id holder v busy at others = dite (ℕ_discrete id holder) (λ e. e) (λ ne. absurd (busy (others id v at ne)))

  pub takes_it : (slots id : ℕ) (me : Me (Option X) View) → me.0.stage ≡ Idle → 0 < length me.0.books
      → Allows (Locked summary key) slots id me 0 (λ n. either (eqb n 0) 1 n)
      (λ word after. (word ≡ 0 → (x : X) × (after ≡ (holding (summary x) me.0.books, (0, Some x) ∷ me.1)) × All (Agrees (summary x)) me.0.books) × (word ≢ 0 → after ≡ me))
  takes_it slots id me is_idle some_book s h long at small = ⊎_elim
      (λ (f : IsFree summary (summary key) s).
      let x = f.value in
      let w : View = holding (summary x) me.0.books in
      let now : get_or s.words 0 0 ≡ 0 = ap (λ ws. get_or ws 0 0) f.word in (
        w,
        takes 0 (Some x),
        ap (λ hs. get_elem? hs 0) f.home,
        (
          once_set s.views id me.0 w at (λ k. refl) h.0,
          inr record {
            found = summary x;
            holder = id;
            view = w;
            word = ap (λ ws. set ws 0 (either (eqb (get_or ws 0 0) 0) 1 (get_or ws 0 0))) f.word;
            at = set_here s.views id w (inside s.views id me.0 at);
            has = refl;
            some_book = some_book;
            search = f.search;
            agree = each-set (λ j u. All (Agrees (summary x)) u.books) s.views id w (f.agree id me.0 at) (λ j u ne e. f.agree j u e);
            others = each-set (λ j u. j ≢ id → u.stage ≡ Idle) s.views id w (λ ne. absurd (ne refl)) (λ j u ne e other. f.idles j u e);
          },
        ),
        ((λ is. (x, refl, f.agree id me.0 at)), λ isnt. absurd (isnt now)),
      ))
      (λ (o : IsLockHeld (summary key) s).
      let now : get_or s.words 0 0 ≡ 1 = ap (λ ws. get_or ws 0 0) o.word in
      let again : set s.views id me.0 ≡ s.views = set_again s.views id me.0 at in
      let ws : set s.words 0 (either (eqb (get_or s.words 0 0) 0) 1 (get_or s.words 0 0)) ≡ 1 ∷ [] = ap (λ l. set l 0 (either (eqb (get_or l 0 0) 0) 1 (get_or l 0 0))) o.word in
      let P : List View → Type 0 = λ vs. Locked summary key record { words = set s.words 0 (either (eqb (get_or s.words 0 0) 0) 1 (get_or s.words 0 0)); homes = s.homes; views = vs } in (
        me.0,
        keeps,
        tt,
        subst P (sym again) (
          h.0,
          inr record { found = o.found; holder = o.holder; view = o.view; word = ws; at = o.at; has = o.has; some_book = o.some_book; search = o.search; agree = o.agree; others = o.others },
        ),
        ((λ is. absurd (omega arith)), λ isnt. refl),
      ))
      h.1

  -- the founding seat takes the empty slot
  begins : (slots id : ℕ) (y : Summary) (bs : List SeatRecord)
      → Allows (Locked summary key) slots id (record { stage = Founding y; books = bs }, []) 0 (λ n. n) (λ word after. after ≡ (holding y bs, (0, None) ∷ []))
  begins slots id y bs s h long at small = let v : View = record { stage = Founding y; books = bs } in ⊎_elim
      (λ (f : IsFree summary (summary key) s). absurd (let e : Founding y ≡ Idle = f.idles id v at in cc))
      (λ (o : IsLockHeld (summary key) s).
      let here : id ≡ o.holder = the_holder s.views id o.holder v (λ e. cc) at o.others in
      let same : o.view ≡ v = some-injective o.view v (sym o.at ∙ ap (λ k. get_elem? s.views k) (sym here) ∙ at) in
      let has : (y ≡ o.found) × (s.homes ≡ some None ∷ []) = subst (λ (u : View). Has o.found s.homes u.stage) same o.has in
      let many : 0 < length bs = subst (λ (u : View). 0 < length u.books) same o.some_book in
      let w : View = holding y bs in (
        w,
        takes 0 None,
        ap (λ hs. get_elem? hs 0) has.1,
        (
          once_set s.views id v w at (λ k. refl) h.0,
          inr record {
            found = o.found;
            holder = id;
            view = w;
            word = ap (λ ws. set ws 0 (get_or ws 0 0)) o.word;
            at = set_here s.views id w (inside s.views id v at);
            has = has.0;
            some_book = many;
            search = o.search;
            agree = each-set (λ j u. All (Agrees o.found) u.books) s.views id w (o.agree id v at) (λ j u ne e. o.agree j u e);
            others = each-set (λ j u. j ≢ id → u.stage ≡ Idle) s.views id w (λ ne. absurd (ne refl)) (λ j u ne e other. o.others j u e (λ k. other (k ∙ sym here)));
          },
        ),
        refl,
      ))
      h.1

  -- the seat gives the value back, if its own seat records agree with it, and so do those of each other seat
  gives_it : (slots id : ℕ) (y : Summary) (bs cs : List SeatRecord) (x : X) → slots ≡ 1 → SummaryGoesOn y (summary x)
      → ((n : ℕ) → books_of n cs ≡ books_of n bs) → All (Agrees (summary x)) cs
      → ((us : List SeatRecord) → ((n : ℕ) → books_of n bs + books_of n us ≤ 1) → All (Agrees y) us → All (Agrees (summary x)) us)
      → Allows (Locked summary key) slots id (holding y bs, (0, Some x) ∷ []) 0 (λ n. 0) (λ word after. after ≡ (idle cs, []))
  gives_it slots id y bs cs x one search same agree others s h long at small = let v : View = holding y bs in let w : View = idle cs in ⊎_elim
      (λ (f : IsFree summary (summary key) s). absurd (let e : Holding y ≡ Idle = f.idles id v at in cc))
      (λ (o : IsLockHeld (summary key) s).
      let here : id ≡ o.holder = the_holder s.views id o.holder v (λ e. cc) at o.others in
      let it : o.view ≡ v = some-injective o.view v (sym o.at ∙ ap (λ k. get_elem? s.views k) (sym here) ∙ at) in
      let has : y ≡ o.found = subst (λ (u : View). Has o.found s.homes u.stage) it o.has in
      let was : AllAgree y s.views = subst (λ (z : Summary). AllAgree z s.views) (sym has) o.agree in
      let of_key : SummaryGoesOn (summary key) y = subst (λ (z : Summary). SummaryGoesOn (summary key) z) (sym has) o.search in (
        w,
        gives,
        tt,
        (
          once_set s.views id v w at same h.0,
          inl record {
            value = x;
            word = ap (λ ws. set ws 0 0) o.word;
            home = one_item s.homes (some (Some x)) (long ∙ one);
            search = goes_on (summary key) y (summary x) of_key search;
            agree = each-set (λ j u. All (Agrees (summary x)) u.books) s.views id w agree
                (λ j u ne e. others u.books (λ n. omega (arith, two-le-weigh (among n) s.views id j v u at e ne, h.0 n)) (was j u e));
            idles = each-set (λ j u. u.stage ≡ Idle) s.views id w refl (λ j u ne e. o.others j u e (λ k. ne (k ∙ sym here)));
          },
        ),
        refl,
      ))
      h.1

  pub deals : (id : ℕ) (v : View) → v.stage ≡ Idle → Splits (Locked summary key) id v (idle (rest_of v.books)) (idle (first_of v.books))
  deals id v is_idle s h at =
      let l : View = idle (rest_of v.books) in let r : View = idle (first_of v.books) in
      let vs : List View = set s.views id l in
      let agree : (y : Summary) → AllAgree y s.views → AllAgree y (vs ++ r ∷ []) = λ y all.
      each-snoc (λ j u. All (Agrees y) u.books) vs r
      (each-set (λ j u. All (Agrees y) u.books) s.views id l (rest-agree y v.books (all id v at)) (λ j u ne e. all j u e))
      (λ j. first-agree y v.books (all id v at)) in (
        (λ n. omega (arith, weigh-replaced (among n) s.views id v l at, weigh-append (among n) vs (r ∷ []), cut n v.books, h.0 n)),
        ⊎_elim
            (λ (f : IsFree summary (summary key) s). inl record {
              value = f.value;
              word = f.word;
              home = f.home;
              search = f.search;
              agree = agree (summary f.value) f.agree;
              idles = each-snoc (λ j u. u.stage ≡ Idle) vs r (each-set (λ j u. u.stage ≡ Idle) s.views id l refl (λ j u ne e. f.idles j u e)) (λ j. refl);
            })
            (λ (o : IsLockHeld (summary key) s).
            let away : o.holder ≢ id = λ e. other_stage o.found s.homes o.view v (sym o.at ∙ ap (λ k. get_elem? s.views k) e ∙ at) o.has is_idle in inr record {
              found = o.found;
              holder = o.holder;
              view = o.view;
              word = o.word;
              at = at_longer vs (r ∷ []) o.holder o.view (set_else s.views id o.holder l away ∙ o.at);
              has = o.has;
              some_book = o.some_book;
              search = o.search;
              agree = agree o.found o.agree;
              others = each-snoc (λ j u. j ≢ o.holder → u.stage ≡ Idle) vs r (each-set (λ j u. j ≢ o.holder → u.stage ≡ Idle) s.views id l (λ ne. refl) (λ j u ne e other. o.others j u e other)) (λ j ne. refl);
            })
            h.1,
      )

  pub merges : (id other : ℕ) (v u : View) → v.stage ≡ Idle → u.stage ≡ Idle → Joins (Locked summary key) id v other u (idle (u.books ++ v.books)) (idle [])
  merges id other v u v_idle u_idle s h at two at' =
      let both : View = idle (u.books ++ v.books) in let spent : View = idle [] in
      let vs : List View = set s.views id both in
      let was : get_elem? s.views other ≡ some u = ⊎_elim (λ x. absurd (two x.0)) (λ x. x.1) (at_set s.views id other both u at') in
      let agree : (y : Summary) → AllAgree y s.views → AllAgree y (set vs other spent) = λ y all.
      each-set (λ j w. All (Agrees y) w.books) vs other spent (All-nil (Agrees y))
      (λ j w ne e. each-set (λ i z. All (Agrees y) z.books) s.views id both (All-append (Agrees y) u.books v.books (all other u was) (all id v at)) (λ i z _ e'. all i z e') j w e) in (
        (λ n. omega (arith, weigh-replaced (among n) vs other u spent at', weigh-replaced (among n) s.views id v both at, tally-append (λ p. eqb p.who n) u.books v.books, h.0 n)),
        ⊎_elim
            (λ (f : IsFree summary (summary key) s). inl record {
              value = f.value;
              word = f.word;
              home = f.home;
              search = f.search;
              agree = agree (summary f.value) f.agree;
              idles = each-set (λ j w. w.stage ≡ Idle) vs other spent refl (λ j w ne e. each-set (λ i z. z.stage ≡ Idle) s.views id both refl (λ i z _ e'. f.idles i z e') j w e);
            })
            (λ (o : IsLockHeld (summary key) s).
            let away : o.holder ≢ id = λ e. other_stage o.found s.homes o.view v (sym o.at ∙ ap (λ k. get_elem? s.views k) e ∙ at) o.has v_idle in
            let away' : o.holder ≢ other = λ e. other_stage o.found s.homes o.view u (sym o.at ∙ ap (λ k. get_elem? s.views k) e ∙ was) o.has u_idle in inr record {
              found = o.found;
              holder = o.holder;
              view = o.view;
              word = o.word;
              at = set_else vs other o.holder spent away' ∙ set_else s.views id o.holder both away ∙ o.at;
              has = o.has;
              some_book = o.some_book;
              search = o.search;
              agree = agree o.found o.agree;
              others = each-set (λ j w. j ≢ o.holder → w.stage ≡ Idle) vs other spent (λ ne. refl)
                  (λ j w ne e. each-set (λ i z. i ≢ o.holder → z.stage ≡ Idle) s.views id both (λ ne'. refl) (λ i z _ e' free. o.others i z e' free) j w e);
            })
            h.1,
      )

  -- after a call of the worker whose seat record alone the seat has
  gives_one : (slots id : ℕ) (y : Summary) (p q : SeatRecord) (x : X) → slots ≡ 1 → Agrees y p → MayBecome p.who y (summary x) → q.who ≡ p.who → Agrees (summary x) q
      → Allows (Locked summary key) slots id (holding y (p ∷ []), (0, Some x) ∷ []) 0 (λ n. 0) (λ word after. after ≡ (idle (q ∷ []), []))
  gives_one slots id y p q x one agrees follows who now =
      gives_it slots id y (p ∷ []) (q ∷ []) x one follows.search (λ n. ap (λ (w : ℕ). books_of n (record q { who = w } ∷ [])) who)
      (All-cons (Agrees (summary x)) q [] now (All-nil (Agrees (summary x))))
      (λ us few agree. others-agree p.who y (summary x) us follows (omega (arith, few p.who, own p)) agree)

  -- the value comes under the lock
  settles : (slots id : ℕ) (y : Summary) (bs : List SeatRecord) (x : X) → slots ≡ 1 → y ≡ summary x → All (Agrees y) bs
      → Allows (Locked summary key) slots id (holding y bs, (0, Some x) ∷ []) 0 (λ n. 0) (λ word after. after ≡ (idle bs, []))
  settles slots id y bs x one is agree =
      let P : Summary → Type 0 = λ z. SummaryGoesOn y z in
      gives_it slots id y bs bs x one (subst P is record { rule = refl; problem = refl; budget = refl; workers = refl; best = omega arith }) (λ n. refl) (subst (λ (z : Summary). All (Agrees z) bs) is agree)
      (λ us few agree'. subst (λ (z : Summary). All (Agrees z) us) is agree')

  pub opens : 0 < length (summary key).accounts → Locked summary key (opening (1 ∷ []) (None ∷ []) (founding (summary key)))
  opens some_worker = let y : Summary = summary key in let v : View = founding y in (
    (λ n. omega (arith, opened_once y n)),
    inr record {
      found = y;
      holder = 0;
      view = v;
      word = refl;
      at = refl;
      has = (refl, refl);
      some_book = some_opened y some_worker;
      search = record { rule = refl; problem = refl; budget = refl; workers = refl; best = omega arith };
      agree = each-one (λ j u. All (Agrees y) u.books) v (opened-agree y);
      others = each-one (λ j u. j ≢ 0 → u.stage ≡ Idle) v (λ ne. absurd (ne refl));
    },
  )

  closes : (id : ℕ) (v : View) (ws : List ℕ) (xs : List (Option X)) → v.stage ≡ Idle → HaveEvery (length (summary key).accounts) v.books
      → Final (Seen (Locked summary key) id v) ws xs
      → (x : X) × (get_elem? xs 0 ≡ some (Some x)) × SummaryGoesOn (summary key) (summary x) × All (Agrees (summary x)) v.books
  closes id v ws xs is_idle every f = let s : S = f.0 in let h = f.1.0 in let at = f.1.1 in ⊎_elim
      (λ (free : IsFree summary (summary key) s). (free.value, f.4 0 (Some free.value) (ap (λ hs. get_elem? hs 0) free.home), free.search, free.agree id v at))
      (λ (o : IsLockHeld (summary key) s).
      let away : o.holder ≢ id = λ e. other_stage o.found s.homes o.view v (sym o.at ∙ ap (λ k. get_elem? s.views k) e ∙ at) o.has is_idle in
      let b = has_book o.found o.view.books o.some_book (o.agree o.holder o.view o.at) in
      absurd (twice s.views id o.holder b.0 v o.view h.0 at o.at away (every b.0 b.1 (omega (arith, b.2, o.search.workers))) b.3))
      h.1

  -- AS THE CALLS MEET THEM: the seat has `old`, and after its plain write `new`

  module _ (slots id : ℕ) (old new : Me (Option X) View) (x : X) (one : slots ≡ 1) (then : new ≡ (old.0, (0, Some x) ∷ rest old.1)) where
    written : (y : Summary) (bs : List SeatRecord) → old ≡ (holding y bs, (0, None) ∷ []) → new ≡ (holding y bs, (0, Some x) ∷ [])
    written y bs is = then ∙ ap (λ (m : Me (Option X) View). (m.0, (0, Some x) ∷ rest m.1)) is

    module _ (is : old ≡ (holding (found_at old.0.stage) (first_book old.0.books ∷ []), (0, None) ∷ [])) (agrees : Agrees (found_at old.0.stage) (first_book old.0.books))
        (follows : MayBecome (first_book old.0.books).who (found_at old.0.stage) (summary x)) where
      pub gives_left : Allows (Locked summary key) slots id new 0 (λ n. 0) (λ word after. GaveFirst (keep_least summary) new.0 new.1 after)
      gives_left =
          let y = found_at old.0.stage in let p = first_book old.0.books in
          let P : Me (Option X) View → Type 0 = λ m. Allows (Locked summary key) slots id m 0 (λ n. 0) (λ word after. GaveFirst (keep_least summary) m.0 m.1 after) in
          let now : Agrees (summary x) (renewed (summary x) p p.least) = record {
            worker = (agrees.worker.0, omega (arith, agrees.worker.1, follows.search.workers));
            rule = refl;
            problem = refl;
            budget = refl;
            account = refl;
            least = omega (arith, follows.search.best, agrees.least);
          } in
          subst P (sym (written y (p ∷ []) is)) (gives_one slots id y p (renewed (summary x) p p.least) x one agrees follows refl now)

      pub gives_read : Allows (Locked summary key) slots id new 0 (λ n. 0) (λ word after. GaveFirst (read_best summary) new.0 new.1 after)
      gives_read =
          let y = found_at old.0.stage in let p = first_book old.0.books in
          let P : Me (Option X) View → Type 0 = λ m. Allows (Locked summary key) slots id m 0 (λ n. 0) (λ word after. GaveFirst (read_best summary) m.0 m.1 after) in
          subst P (sym (written y (p ∷ []) is)) (gives_one slots id y p (opened (summary x) p.who) x one agrees follows refl
          (opened-agrees (summary x) p.who agrees.worker.0 (omega (arith, agrees.worker.1, follows.search.workers))))

    pub settles_at : (y : Summary) (bs : List SeatRecord) → old ≡ (holding y bs, (0, None) ∷ []) → y ≡ summary x → All (Agrees y) bs
        → Allows (Locked summary key) slots id new 0 (λ n. 0) (λ word after. GaveFirst keep_books new.0 new.1 after)
    settles_at y bs is same agree =
        let P : Me (Option X) View → Type 0 = λ m. Allows (Locked summary key) slots id m 0 (λ n. 0) (λ word after. GaveFirst keep_books m.0 m.1 after) in
        subst P (sym (written y bs is)) (settles slots id y bs x one same agree)

  pub begins_at : (slots id : ℕ) (me : Me (Option X) View) (y : Summary) (bs : List SeatRecord) → me ≡ (record { stage = Founding y; books = bs }, [])
      → Allows (Locked summary key) slots id me 0 (λ n. n) (λ word after. FoundedAt me.0.stage me.0.books after)
  begins_at slots id me y bs is =
      let P : Me (Option X) View → Type 0 = λ m. Allows (Locked summary key) slots id m 0 (λ n. n) (λ word after. FoundedAt m.0.stage m.0.books after) in
      subst P (sym is) (begins slots id y bs)

  module _ (id : ℕ) (m : Me (Option X) View) (ws : List ℕ) (xs : List (Option X)) (is : m ≡ (idle m.0.books, [])) (every : HaveEvery (length (summary key).accounts) m.0.books)
      (final : Final (Seen (Locked summary key) id m.0) ws xs) where
    closed : (x : X) × (get_elem? xs 0 ≡ some (Some x)) × SummaryGoesOn (summary key) (summary x) × All (Agrees (summary x)) m.0.books
    closed = closes id m.0 ws xs (ap (λ (k : Me (Option X) View). k.0.stage) is) every final

    pub closed_once : (w : ℕ) → books_of w m.0.books ≤ 1
    closed_once w = omega (arith, le-weigh_at (among w) final.0.views id m.0 final.1.1, final.1.0.0 w)

    pub closed_value : (y : X) → get_elem? xs 0 ≡ some (Some y) → SummaryGoesOn (summary key) (summary y) × All (Agrees (summary y)) m.0.books
    closed_value y at =
        let both : Some closed.0 ≡ Some y = some-injective (Some closed.0) (Some y) (sym closed.1 ∙ at) in
        let e : closed.0 ≡ y = cc in
        (subst (λ (z : X). SummaryGoesOn (summary key) (summary z)) e closed.2, subst (λ (z : X). All (Agrees (summary z)) m.0.books) e closed.3)

    pub closed_some : get_elem? xs 0 ≡ some None → ⊥
    closed_some at = let e : Some closed.0 ≡ None = some-injective (Some closed.0) None (sym closed.1 ∙ at) in cc

module _ {X : Type 0} where
  pub began_is : (m after : Me (Option X) View) (y : Summary) (bs : List SeatRecord) → m ≡ (record { stage = Founding y; books = bs }, []) → FoundedAt m.0.stage m.0.books after → after ≡ (holding y bs, (0, None) ∷ [])
  began_is m after y bs is began = let P : Me (Option X) View → Type 0 = λ k. FoundedAt k.0.stage k.0.books after in subst P is began

  pub settled_is : (old new after : Me (Option X) View) (x : X) (y : Summary) (bs : List SeatRecord) → old ≡ (holding y bs, (0, None) ∷ []) → new ≡ (old.0, (0, Some x) ∷ rest old.1)
      → GaveFirst keep_books new.0 new.1 after → after ≡ (idle bs, [])
  settled_is old new after x y bs is then gave =
      let is' : new ≡ (holding y bs, (0, Some x) ∷ []) = then ∙ ap (λ (m : Me (Option X) View). (m.0, (0, Some x) ∷ rest m.1)) is in
      let P : Me (Option X) View → Type 0 = λ k. GaveFirst keep_books k.0 k.1 after in subst P is' gave
