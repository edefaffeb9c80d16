-- Members of a crew, their seats, and what they have beside them.
use mathlib.Core.Logic.{dite}
use native.Mathlib.Decide.{ℕ_discrete}
use Rattle.std.proofs.Common.{ℕ, suc, zero, ◌≡◌, ◌≢◌, ◌<◌, ◌≤◌, ◌+◌, All, List, [], ◌∷◌, ◌++◌, Option, Some, Vec, Global, length, map, drop, take, set, get_or, vec_len, option_to_list, append_assoc}
use Rattle.std.proofs.Common.{append-nil, sym, refl, ap, ap₂, ◌∙◌, subst, arith, IfSome, length-set, get_or-set_same, get_or-set_other, take_at}
use Rattle.std.proofs.lemmas.List.{map_push, map-set, length-map, get_or_default, get_or-map}
use Rattle.std.proofs.lemmas.List.Elements.{All-cons, All-head, All-tail, All-nil, All-pop, All-push, All-same, All-set}
use Rattle.atomic_table.specs.Seated.{TableId}
use Rattle.s66_share.specs.{LaneId, LaneOf}
use Rattle.s66_pool.specs.{SeatOf, VictimOf, Local, Member, IsSameSeat, AreSameSeats, IsSameMember, MatchesLane, AllMatchLanes, VictimsMatchLanes, ids_of, seats_of, locals_of, lanes_of, victims_of}

-- WHAT IS DONE AND WHAT IS LEFT

module _ {X Z : Type 0} where
  -- the first of what is left goes to the end of what is done
  pub moves-to : (f : X → Z) (done done' : List X) (rest rest' all : List Z) (x : X) → done' ≡ done ++ x ∷ [] → rest' ≡ drop 1 rest → 0 < length rest → f x ≡ get_or rest 0 (f x) →
      map f done ++ rest ≡ all → map f done' ++ rest' ≡ all
  moves-to f done done' [] rest' all x more less some first is = absurd (omega arith)
  moves-to f done done' (z ∷ zs) rest' all x more less some first is =
      ap₂ (λ (a : List X) (b : List Z). map f a ++ b) more less
      ∙ (ap (λ (a : List Z). a ++ zs) (map_push f done x)
      ∙ (append_assoc (map f done) (f x ∷ []) zs
      ∙ (ap (λ (a : Z). map f done ++ a ∷ zs) first ∙ is)))

module _ {X Y Z : Type 0} where
  pub moves-by : (f : X → Z) (g : Y → Z) (done done' : List X) (rest rest' : List Y) (all : List Z) (x : X) (y : Y) → done' ≡ done ++ x ∷ [] → rest' ≡ drop 1 rest → 0 < length rest → y ≡ get_or rest 0 y → f x ≡ g y →
      map f done ++ map g rest ≡ all → map f done' ++ map g rest' ≡ all
  moves-by f g done done' [] rest' all x y more less some first same is = absurd (omega arith)
  moves-by f g done done' (z ∷ zs) rest' all x y more less some first same is =
      moves-to f done done' (g z ∷ map g zs) (map g rest') all x more (ap (λ (a : List Y). map g a) less) (omega arith) (same ∙ ap g first) is

-- once nothing is left
pub all-moved : (locals : List Local) (lanes : List LaneOf) (victims start : List (Vec VictimOf Global)) (first : List LaneOf) (thieves : List LaneId) → length lanes ≡ 0 → length victims ≡ 0 →
    lanes_of locals ++ ids_of lanes ≡ thieves → thieves ≡ ids_of first → victims_of locals ++ victims ≡ start → AllMatchLanes thieves start → (length locals ≡ length first) × VictimsMatchLanes locals
all-moved locals (x ∷ xs) victims start first thieves none none' is ids those placed = absurd (omega arith)
all-moved locals [] (x ∷ xs) start first thieves none none' is ids those placed = absurd (omega arith)
all-moved locals [] [] start first thieves none none' is ids those placed =
    let lanes : lanes_of locals ≡ thieves = sym (append-nil (lanes_of locals)) ∙ is in
    let from : victims_of locals ≡ start = sym (append-nil (victims_of locals)) ∙ those in (
      sym (length-map locals (λ (l : Local). l.lane.id)) ∙ (ap (λ (a : List LaneId). length a) (lanes ∙ ids) ∙ length-map first (λ (l : LaneOf). l.id)),
      subst (λ (a : List LaneId). AllMatchLanes a (victims_of locals)) (sym lanes) (subst (λ (a : List (Vec VictimOf Global)). AllMatchLanes thieves a) (sym from) placed),
    )

-- LANES THAT ARE DEALT

pub placed-new : (lanes : List LaneId) (v : VictimOf) (place : ℕ) (lane : LaneId) → v ≡ record { place = place; lane = lane } → place < length lanes → lane ≡ get_or lanes place lane → MatchesLane lanes v
placed-new lanes v place lane is within at = subst (λ (a : VictimOf). MatchesLane lanes a) (sym is) (within, λ d. get_or_default lanes place d lane within ∙ sym at)

pub placed-push : (lanes : List LaneId) (all : List (Vec VictimOf Global)) (i : ℕ) (d now : Vec VictimOf Global) (v : VictimOf) → now.items ≡ (get_or all i d).items ++ v ∷ [] → MatchesLane lanes v → i < length all →
    AllMatchLanes lanes all → AllMatchLanes lanes (set all i now)
placed-push lanes all i d now v is this within placed =
    All-set (λ (a : Vec VictimOf Global). All (MatchesLane lanes) a.items) all i now
    (All-same (MatchesLane lanes) now.items ((get_or all i d).items ++ v ∷ []) is (All-push (MatchesLane lanes) (get_or all i d).items v (placed i d within) this)) placed

pub ids-set : (lanes : List LaneOf) (i : ℕ) (l d : LaneOf) → l.id ≡ (get_or lanes i d).id → ids_of (set lanes i l) ≡ ids_of lanes
ids-set [] i l d same = refl
ids-set (x ∷ xs) zero l d same = ap (λ (a : LaneId). a ∷ ids_of xs) same
ids-set (x ∷ xs) (suc i) l d same = ap (λ (a : List LaneId). x.id ∷ a) (ids-set xs i l d same)

-- those after the one that was dealt are still new
pub new-after : (lanes : List LaneOf) (i : ℕ) (l : LaneOf) → ((k : ℕ) (d : LaneOf) → i ≤ k → k < length lanes → ((get_or lanes k d).passes ≡ 0) × ((get_or lanes k d).put ≡ [])) →
    (k : ℕ) (d : LaneOf) → i + 1 ≤ k → k < length (set lanes i l) → ((get_or (set lanes i l) k d).passes ≡ 0) × ((get_or (set lanes i l) k d).put ≡ [])
new-after lanes i l new k d after within =
    let other : k ≢ i = λ (e : k ≡ i). omega arith in
    subst (λ (a : LaneOf). (a.passes ≡ 0) × (a.put ≡ [])) (sym (get_or-set_other lanes i k l d other)) (new k d (omega arith) (omega (arith, length-set lanes i l)))

-- ONE MEMBER TAKES ANOTHER'S PLACE IN THE LIST

pub seats-set : (ms : List Member) (i : ℕ) (m d : Member) → m.seat ≡ (get_or ms i d).seat → seats_of (set ms i m) ≡ seats_of ms
seats-set [] i m d same = refl
seats-set (x ∷ xs) zero m d same = ap (λ (a : SeatOf). a ∷ seats_of xs) same
seats-set (x ∷ xs) (suc i) m d same = ap (λ (a : List SeatOf). x.seat ∷ a) (seats-set xs i m d same)

pub lanes-set : (ms : List Member) (i : ℕ) (m d : Member) → m.local.lane.id ≡ (get_or ms i d).local.lane.id → lanes_of (locals_of (set ms i m)) ≡ lanes_of (locals_of ms)
lanes-set [] i m d same = refl
lanes-set (x ∷ xs) zero m d same = ap (λ (a : LaneId). a ∷ lanes_of (locals_of xs)) same
lanes-set (x ∷ xs) (suc i) m d same = ap (λ (a : List LaneId). x.local.lane.id ∷ a) (lanes-set xs i m d same)

pub victims-set : (ms : List Member) (i : ℕ) (m d : Member) → m.local.victims ≡ (get_or ms i d).local.victims → victims_of (locals_of (set ms i m)) ≡ victims_of (locals_of ms)
victims-set [] i m d same = refl
victims-set (x ∷ xs) zero m d same = ap (λ (a : Vec VictimOf Global). a ∷ victims_of (locals_of xs)) same
victims-set (x ∷ xs) (suc i) m d same = ap (λ (a : List (Vec VictimOf Global)). x.local.victims ∷ a) (victims-set xs i m d same)

victims-put : (ms : List Member) (i : ℕ) (m : Member) → victims_of (locals_of (set ms i m)) ≡ set (victims_of (locals_of ms)) i m.local.victims
victims-put [] i m = refl
victims-put (x ∷ xs) zero m = refl
victims-put (x ∷ xs) (suc i) m = ap (λ (a : List (Vec VictimOf Global)). x.local.victims ∷ a) (victims-put xs i m)

pub count-seats : (ms ns : List Member) → seats_of ns ≡ seats_of ms → length ns ≡ length ms
count-seats ms ns same = sym (length-map ns (λ (m : Member). m.seat)) ∙ (ap (λ (a : List SeatOf). length a) same ∙ length-map ms (λ (m : Member). m.seat))

-- AT A PLACE

lane-get : (ms : List Member) (i : ℕ) (d : Member) → get_or (lanes_of (locals_of ms)) i d.local.lane.id ≡ (get_or ms i d).local.lane.id
lane-get [] i d = refl
lane-get (x ∷ xs) zero d = refl
lane-get (x ∷ xs) (suc i) d = lane-get xs i d

pub lane-at : (ms : List Member) (v : VictimOf) (place : ℕ) (d : Member) → place ≡ v.place → ((e : LaneId) → get_or (lanes_of (locals_of ms)) v.place e ≡ v.lane) → v.lane ≡ (get_or ms place d).local.lane.id
lane-at ms v place d is here = sym (here d.local.lane.id) ∙ (lane-get ms v.place d ∙ ap (λ (k : ℕ). (get_or ms k d).local.lane.id) (sym is))

victims-get : (ms : List Member) (i : ℕ) (d : Member) → get_or (victims_of (locals_of ms)) i d.local.victims ≡ (get_or ms i d).local.victims
victims-get [] i d = refl
victims-get (x ∷ xs) zero d = refl
victims-get (x ∷ xs) (suc i) d = victims-get xs i d

count-locals : (ms : List Member) → length (victims_of (locals_of ms)) ≡ length ms
count-locals ms = length-map (locals_of ms) (λ (l : Local). l.victims) ∙ length-map ms (λ (m : Member). m.local)

count-lanes : (ms : List Member) → length (lanes_of (locals_of ms)) ≡ length ms
count-lanes ms = length-map (locals_of ms) (λ (l : Local). l.lane.id) ∙ length-map ms (λ (m : Member). m.local)

pub seat-at : (P : SeatOf → Type 0) (ms : List Member) (i : ℕ) (d : Member) → i < length ms → All P (seats_of ms) → P (get_or ms i d).seat
seat-at P ms i d within all = subst P (get_or-map (λ (m : Member). m.seat) ms i d d.seat within) (all i d.seat (omega (arith, length-map ms (λ (m : Member). m.seat))))

-- A VICTIM LEAVES

abbrev pub with_victims : Member → Vec VictimOf Global → Member
with_victims m victims = record { seat = m.seat; local = record { incumbent = m.local.incumbent; lane = m.local.lane; victims = victims } }

pub placed-pop : (ms : List Member) (i : ℕ) (d : Member) (now : Vec VictimOf Global) (popped : Option VictimOf) → i < length ms → (get_or ms i d).local.victims.items ≡ now.items ++ option_to_list popped →
    VictimsMatchLanes (locals_of ms) →
    VictimsMatchLanes (locals_of (set ms i (with_victims (get_or ms i d) now))) × IfSome popped (MatchesLane (lanes_of (locals_of (set ms i (with_victims (get_or ms i d) now)))))
placed-pop ms i d now popped within is placed =
    let ns : List Member = set ms i (with_victims (get_or ms i d) now) in
    let lanes : List LaneId = lanes_of (locals_of ms) in
    let same : lanes_of (locals_of ns) ≡ lanes = lanes-set ms i (with_victims (get_or ms i d) now) d refl in
    let at : All (MatchesLane lanes) (get_or ms i d).local.victims.items =
    subst (λ (a : Vec VictimOf Global). All (MatchesLane lanes) a.items) (victims-get ms i d) (placed i d.local.victims (omega (arith, count-locals ms))) in
    let parts = All-pop (MatchesLane lanes) (get_or ms i d).local.victims.items now.items popped is at in
    let those : AllMatchLanes lanes (victims_of (locals_of ns)) =
    subst (λ (a : List (Vec VictimOf Global)). AllMatchLanes lanes a) (sym (victims-put ms i (with_victims (get_or ms i d) now)))
    (All-set (λ (a : Vec VictimOf Global). All (MatchesLane lanes) a.items) (victims_of (locals_of ms)) i now parts.0 placed) in
    (subst (λ (a : List LaneId). AllMatchLanes a (victims_of (locals_of ns))) (sym same) those, subst (λ (a : List LaneId). IfSome popped (MatchesLane a)) (sym same) parts.1)

pub victim-within : (ms : List Member) (popped : Option VictimOf) (v : VictimOf) → popped ≡ Some v → IfSome popped (MatchesLane (lanes_of (locals_of ms))) → v.place < length ms
victim-within ms popped v is placed =
    let this : MatchesLane (lanes_of (locals_of ms)) v = subst (λ (o : Option VictimOf). IfSome o (MatchesLane (lanes_of (locals_of ms)))) is placed in
    omega (arith, this.0, count-lanes ms)

pub victim-here : (ms : List Member) (popped : Option VictimOf) (v : VictimOf) → popped ≡ Some v → IfSome popped (MatchesLane (lanes_of (locals_of ms))) → (d : LaneId) → get_or (lanes_of (locals_of ms)) v.place d ≡ v.lane
victim-here ms popped v is placed =
    let this : MatchesLane (lanes_of (locals_of ms)) v = subst (λ (o : Option VictimOf). IfSome o (MatchesLane (lanes_of (locals_of ms)))) is placed in
    this.1

pub placed-same : (ms ns : List Member) → lanes_of (locals_of ns) ≡ lanes_of (locals_of ms) → victims_of (locals_of ns) ≡ victims_of (locals_of ms) → VictimsMatchLanes (locals_of ms) → VictimsMatchLanes (locals_of ns)
placed-same ms ns lanes victims placed =
    subst (λ (a : List LaneId). AllMatchLanes a (victims_of (locals_of ns))) (sym lanes)
    (subst (λ (a : List (Vec VictimOf Global)). AllMatchLanes (lanes_of (locals_of ms)) a) (sym victims) placed)

-- how many victims the member at this place has
abbrev pub victims_at : List Member → ℕ → ℕ
victims_at ms i = get_or (map (λ (a : Vec VictimOf Global). vec_len a) (victims_of (locals_of ms))) i 0

victims_at-here : (ms : List Member) (i : ℕ) (d : Member) → i < length ms → victims_at ms i ≡ vec_len (get_or ms i d).local.victims
victims_at-here [] i d within = absurd (omega arith)
victims_at-here (x ∷ xs) zero d within = refl
victims_at-here (x ∷ xs) (suc i) d within = victims_at-here xs i d (omega arith)

victims_at-set : (ms : List Member) (i : ℕ) (m : Member) → i < length ms → victims_at (set ms i m) i ≡ vec_len m.local.victims
victims_at-set [] i m within = absurd (omega arith)
victims_at-set (x ∷ xs) zero m within = refl
victims_at-set (x ∷ xs) (suc i) m within = victims_at-set xs i m (omega arith)

pub fewer-at : (ms : List Member) (i : ℕ) (d : Member) (now : Vec VictimOf Global) (ns : List Member) → i < length ms → vec_len now + 1 ≡ vec_len (get_or ms i d).local.victims →
    victims_of (locals_of ns) ≡ victims_of (locals_of (set ms i (with_victims (get_or ms i d) now))) → victims_at ns i < victims_at ms i
fewer-at ms i d now ns within less same =
    let here = victims_at-here ms i d within in
    let there : victims_at ns i ≡ vec_len now =
    ap (λ (a : List (Vec VictimOf Global)). get_or (map (λ (b : Vec VictimOf Global). vec_len b) a) i 0) same ∙ victims_at-set ms i (with_victims (get_or ms i d) now) within in
    omega arith

-- SEATS THAT COME BACK

pub same-trans : (xs ys zs : List SeatOf) → AreSameSeats xs ys → AreSameSeats ys zs → AreSameSeats xs zs
same-trans xs ys zs one two = (
  two.0 ∙ one.0,
  λ i d within.
      let a = one.1 i d within in
      let b = two.1 i d (omega (arith, one.0)) in
      (b.0 ∙ a.0, b.1 ∙ a.1),
)

pub here-kept : (hub : TableId) (xs ys : List SeatOf) → AreSameSeats xs ys → All (λ (s : SeatOf). s.hub ≡ hub) xs → All (λ (s : SeatOf). s.hub ≡ hub) ys
here-kept hub xs ys same here k d within = (same.1 k d (omega (arith, same.0))).0 ∙ here k d (omega (arith, same.0))

same-put : (xs ys : List SeatOf) (i : ℕ) (s : SeatOf) → i < length ys → ((d : SeatOf) → IsSameSeat (get_or ys i d) s) → AreSameSeats xs ys → AreSameSeats xs (set ys i s)
same-put xs ys i s within next same = (
  length-set ys i s ∙ same.0,
  λ k d lt.
      let before = same.1 k d lt in
      dite (ℕ_discrete k i)
      (λ (e : k ≡ i).
      let is : get_or (set ys i s) k d ≡ s = ap (λ (j : ℕ). get_or (set ys i s) j d) e ∙ get_or-set_same ys i s d within in
      let was : get_or ys i d ≡ get_or ys k d = ap (λ (j : ℕ). get_or ys j d) (sym e) in
      (ap (λ (z : SeatOf). z.hub) is ∙ ((next d).0 ∙ (ap (λ (z : SeatOf). z.hub) was ∙ before.0)), ap (λ (z : SeatOf). z.book.who) is ∙ ((next d).1 ∙ (ap (λ (z : SeatOf). z.book.who) was ∙ before.1))))
      (λ (ne : k ≢ i).
      let is : get_or (set ys i s) k d ≡ get_or ys k d = get_or-set_other ys i k s d ne in
      (ap (λ (z : SeatOf). z.hub) is ∙ before.0, ap (λ (z : SeatOf). z.book.who) is ∙ before.1)),
)

pub same-after : (xs : List SeatOf) (ms : List Member) (i : ℕ) (m d : Member) → i < length ms → IsSameSeat (get_or ms i d).seat m.seat → AreSameSeats xs (seats_of ms) → AreSameSeats xs (seats_of (set ms i m))
same-after xs ms i m d within next same =
    let at : (e : SeatOf) → get_or (seats_of ms) i e ≡ (get_or ms i d).seat = λ e. get_or-map (λ (n : Member). n.seat) ms i d e within in
    subst (λ (a : List SeatOf). AreSameSeats xs a) (sym (map-set (λ (n : Member). n.seat) ms i m))
    (same-put xs (seats_of ms) i m.seat (omega (arith, length-map ms (λ (n : Member). n.seat)))
    (λ e. (next.0 ∙ sym (ap (λ (z : SeatOf). z.hub) (at e)), next.1 ∙ sym (ap (λ (z : SeatOf). z.book.who) (at e)))) same)

pub here-after : (P : SeatOf → Type 0) (ms : List Member) (i : ℕ) (m : Member) → P m.seat → All P (seats_of ms) → All P (seats_of (set ms i m))
here-after P ms i m this all = subst (λ (a : List SeatOf). All P a) (sym (map-set (λ (n : Member). n.seat) ms i m)) (All-set P (seats_of ms) i m.seat this all)

-- as those of the members at the end, who have room beyond them
pub returned : (back first : List SeatOf) (before between after rest : List Member) (n : ℕ) → back ≡ seats_of (take n (after ++ rest)) → length before ≡ n → seats_of before ≡ first →
    AreSameSeats (seats_of before) (seats_of between) → AreSameSeats (seats_of between) (seats_of after) → AreSameSeats first back
returned back first before between after rest n is count seats one two =
    let through = subst (λ (a : List SeatOf). AreSameSeats a (seats_of after)) seats (same-trans (seats_of before) (seats_of between) (seats_of after) one two) in
    let many : length after ≡ n =
    sym (length-map after (λ (m : Member). m.seat)) ∙ (two.0 ∙ (one.0 ∙ (length-map before (λ (m : Member). m.seat) ∙ count))) in
    subst (λ (a : List SeatOf). AreSameSeats first a) (sym (is ∙ ap (λ (a : List Member). seats_of a) (take_at after rest n many))) through

-- MEMBERS THAT HAVE WORKED

abbrev AreSameMembers : List Member → List Member → Type 0
AreSameMembers old new = (i : ℕ) (d : Member) → i < length old → IsSameMember (get_or old i d) (get_or new i d)

worked-seat : (old new : List Member) → length new ≡ length old → AreSameMembers old new → (i : ℕ) (d : SeatOf) → i < length (seats_of old) → IsSameSeat (get_or (seats_of old) i d) (get_or (seats_of new) i d)
worked-seat [] new len each i d within = absurd (omega arith)
worked-seat (m ∷ ms) [] len each i d within = absurd (omega arith)
worked-seat (m ∷ ms) (n ∷ ns) len each zero d within = (each 0 m (omega arith)).0
worked-seat (m ∷ ms) (n ∷ ns) len each (suc i) d within = worked-seat ms ns (omega arith) (λ j e lt. each (suc j) e (omega arith)) i d (omega arith)

pub worked-seats : (old new : List Member) → length new ≡ length old → AreSameMembers old new → AreSameSeats (seats_of old) (seats_of new)
worked-seats old new len each =
    (length-map new (λ (m : Member). m.seat) ∙ (len ∙ sym (length-map old (λ (m : Member). m.seat))), worked-seat old new len each)

worked-lanes : (old new : List Member) → length new ≡ length old → AreSameMembers old new → lanes_of (locals_of new) ≡ lanes_of (locals_of old)
worked-lanes [] [] len each = refl
worked-lanes [] (n ∷ ns) len each = absurd (omega arith)
worked-lanes (m ∷ ms) [] len each = absurd (omega arith)
worked-lanes (m ∷ ms) (n ∷ ns) len each =
    ap₂ (λ (a : LaneId) (b : List LaneId). a ∷ b) (each 0 m (omega arith)).1.0 (worked-lanes ms ns (omega arith) (λ j e lt. each (suc j) e (omega arith)))

worked-victims : (lanes : List LaneId) (old new : List Member) → length new ≡ length old → AreSameMembers old new → AllMatchLanes lanes (victims_of (locals_of old)) → AllMatchLanes lanes (victims_of (locals_of new))
worked-victims lanes old [] len each placed = All-nil (λ (a : Vec VictimOf Global). All (MatchesLane lanes) a.items)
worked-victims lanes [] (n ∷ ns) len each placed = absurd (omega arith)
worked-victims lanes (m ∷ ms) (n ∷ ns) len each placed =
    let P : Vec VictimOf Global → Type 0 = λ a. All (MatchesLane lanes) a.items in
    All-cons P n.local.victims (victims_of (locals_of ns))
    (All-same (MatchesLane lanes) n.local.victims.items m.local.victims.items (each 0 m (omega arith)).1.1 (All-head P m.local.victims (victims_of (locals_of ms)) placed))
    (worked-victims lanes ms ns (omega arith) (λ j e lt. each (suc j) e (omega arith)) (All-tail P m.local.victims (victims_of (locals_of ms)) placed))

pub worked-placed : (old new : List Member) → length new ≡ length old → AreSameMembers old new → VictimsMatchLanes (locals_of old) → VictimsMatchLanes (locals_of new)
worked-placed old new len each placed =
    subst (λ (a : List LaneId). AllMatchLanes a (victims_of (locals_of new))) (sym (worked-lanes old new len each)) (worked-victims (lanes_of (locals_of old)) old new len each placed)
