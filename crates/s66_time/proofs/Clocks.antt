-- The words of a clock after pushes and undoes are those of the points that were pushed.
use Rattle.std.proofs.Common.{ℕ, ◌+◌, ◌≤◌, ◌<◌, ◌≡◌, Bool, ◌||◌, eqb, true, false, max, List, [], ◌∷◌, ◌++◌, length, take, map, reverse, refl, sym, ap, arith, ◌∙◌, subst, append_assoc, length-append}
use Rattle.std.proofs.Common.{get_or, append-nil, take_all}
use Rattle.std.proofs.lemmas.List.{length-map, reverse-append, map_push, take_more}
use Rattle.std.proofs.Math.Bool.{or-false}
use Rattle.s66_isa.specs.Table.{Instr}
use Rattle.s66_isa.specs.{Row, Kind, Profile, greatest, tally, has, BLOCK_LIMIT}
use Rattle.s66_model.specs.{Problem, Point, row_at, point_of, points_after, points_of, point, issue_of, start_of, total, next, next_parcel, busy_at, copies, IsBeginning, is_ready}
use Rattle.s66_model.proofs.LegalOrders.{GoesOn-append, GoesOn-join}
use Rattle.s66_model.proofs.Growth.{total-le, fits_at-ge}
use Rattle.s66_model.proofs.ChainBound.{last-is_greatest}
use Rattle.s66_model.proofs.PointTimes.{good-at, point_of-row, point_of-number, points_after-length, issue-le-start, hold-le-free}
use Rattle.s66_model.proofs.Issue.{issue-late}
use Rattle.s66_model.proofs.LoadBound.{fits-run, next-le-total}
use Rattle.s66_time.specs.{under, IsWords, InTurn, points_of_steps, AreKept, after_undo, numbers_of, IsClock, Words, Step}
use Rattle.s66_time.proofs.LongestBeginning.{beginning-few}
use Rattle.s66_time.proofs.ClockPoints.{slot-is}

-- THE POINTS ARE IN TURN

record AreFair (s : List Point) : Type 0 where
  starts : greatest (λ (p : Point). max p.issue p.start + 1) s ≤ total s
  parcels : greatest (λ (p : Point). p.row.parcels) s ≤ 2
  parcel : next_parcel s ≤ next s
  holds : greatest (λ (p : Point). p.row.hold) s ≤ 100

pub early-point_of : (b : Problem) (s : List Point) (n : ℕ) → next_parcel s ≤ next s → (point_of b s n).parcel ≤ (point_of b s n).issue
unfolding point
early-point_of b s n le =
    omega (arith, slot-is s (row_at b n).parcels, issue-late b s (row_at b n), fits_at-ge (next_parcel s) (row_at b n).parcels)

fair-step : (b : Problem) (s : List Point) (n : ℕ) → AreFair s → AreFair (point_of b s n ∷ s)
fair-step b s n fair =
    record {
      starts = omega (arith, fair.starts, issue-le-start b s n, hold-le-free b s n);
      parcels = omega (arith, fair.parcels, (good-at b n).parcels.1, ap (λ (r : Row). r.parcels) (point_of-row b s n));
      parcel = omega (arith, early-point_of b s n fair.parcel);
      holds = omega (arith, fair.holds, (good-at b n).hold.1, ap (λ (r : Row). r.hold) (point_of-row b s n));
    }

fair-run : (b : Problem) (s : List Point) (ns : List ℕ) → AreFair s → AreFair (points_after b s ns)
fair-run b s [] fair = fair
fair-run b s (n ∷ ns) fair = fair-run b (point_of b s n ∷ s) ns (fair-step b s n fair)

pub in-turn : (b : Problem) (ns : List ℕ) → length ns ≤ BLOCK_LIMIT → InTurn (points_of b ns)
in-turn b ns few =
    let fair = fair-run b [] ns (record { starts = omega arith; parcels = omega arith; parcel = omega arith; holds = omega arith }) in
    record {
      early = omega (arith, total-le b ns);
      starts = fair.starts;
      parcels = fair.parcels;
      latest = last-is_greatest b ns;
      parcel = fair.parcel;
      few = omega (arith, points_after-length b [] ns, few);
      holds = fair.holds;
    }

-- THE POINTS OF STEPS

reverse-cons : (k : Step) (ks base : List Step) → reverse (k ∷ ks) ++ base ≡ reverse ks ++ k ∷ base
reverse-cons k ks base = ap (λ xs. xs ++ base) (reverse-append (k ∷ []) ks) ∙ append_assoc (reverse ks) (k ∷ []) base

steps-after : (b : Problem) (ks base : List Step) → points_of_steps b (reverse ks ++ base) ≡ points_after b (points_of_steps b base) (numbers_of ks)
steps-after b [] base = refl
steps-after b (k ∷ ks) base = ap (points_of_steps b) (reverse-cons k ks base) ∙ steps-after b ks (k ∷ base)

pub after-is : (b : Problem) (ks : List Step) → points_of_steps b (reverse ks) ≡ points_of b (numbers_of ks)
after-is b ks = ap (points_of_steps b) (sym (append-nil (reverse ks))) ∙ steps-after b ks []

reverse-push : (ks : List Step) (k : Step) → reverse (ks ++ k ∷ []) ≡ k ∷ reverse ks
reverse-push ks k = reverse-append ks (k ∷ [])

kept-words : (b : Problem) (w : Words) (ks : List Step) → AreKept b w ks → IsWords b.profile (points_of_steps b ks) w
kept-words b w [] h = h
kept-words b w (k ∷ ks) h = h.0

-- the words are those of the numbers
pub clock-words : (b : Problem) (w : Words) (ks : List Step) → IsClock b w ks → IsWords b.profile (points_of b (numbers_of ks)) w
clock-words b w ks is = subst (λ s. IsWords b.profile s w) (after-is b ks) (kept-words b w (reverse ks) is.kept)

pub length-numbers : (ks : List Step) → length (numbers_of ks) ≡ length ks
length-numbers ks = length-map ks (λ (k : Step). k.number)

pub clock-turn : (b : Problem) (w : Words) (ks : List Step) → IsClock b w ks → InTurn (points_of b (numbers_of ks))
clock-turn b w ks is = in-turn b (numbers_of ks) (omega (arith, beginning-few b.block (numbers_of ks) is.begins, is.few))

-- WHAT WAS PUSHED

has-points_after : (b : Problem) (m : ℕ) (s : List Point) (ns : List ℕ) → has m (map (λ (p : Point). p.number) (points_after b s ns)) ≡ (has m ns || has m (map (λ (p : Point). p.number) s))
has-points_after b m s [] = refl
has-points_after b m s (n ∷ ns) =
    has-points_after b m (point_of b s n ∷ s) ns ∙ ap (λ k. has m ns || (eqb m k || has m (map (λ (p : Point). p.number) s))) (point_of-number b s n) ∙ turned (has m ns) (eqb m n) (has m (map (λ (p : Point). p.number) s))
  where
    turned : (x y z : Bool) → (x || (y || z)) ≡ ((y || x) || z)
    turned true true z = refl
    turned true false z = refl
    turned false true z = refl
    turned false false z = refl

pub has-points : (b : Problem) (m : ℕ) (ns : List ℕ) → has m (map (λ (p : Point). p.number) (points_of b ns)) ≡ has m ns
has-points b m ns = has-points_after b m [] ns ∙ or-false (has m ns)

-- A PUSH

-- only the profile of what is timed and the row matter
pub point-under : (b : Problem) (s : List Point) (n : ℕ) (r : Row) → point (under b.profile) s n r ≡ point b s n r
unfolding point start_of issue_of
point-under b s n r = refl

ready-beginning : (block : List Instr) (ns : List ℕ) (n : ℕ) → IsBeginning block ns → is_ready block ns n ≡ true → IsBeginning block (ns ++ n ∷ [])
ready-beginning block ns n h ready = GoesOn-join block [] ns (n ∷ []) h (ready, tt)

pub room-left : (b : Problem) (w : Words) (ks : List Step) (n : ℕ) → IsClock b w ks → is_ready b.block (numbers_of ks) n ≡ true → length ks < BLOCK_LIMIT
room-left b w ks n is ready =
    omega (arith, beginning-few b.block (numbers_of ks ++ n ∷ []) (ready-beginning b.block (numbers_of ks) n is.begins ready), length-append (numbers_of ks) (n ∷ []), length-numbers ks, is.few)

pub pushed-clock : (b : Problem) (w w2 : Words) (ks : List Step) (k : Step) (n : ℕ) (r : Row) → IsClock b w ks → is_ready b.block (numbers_of ks) n ≡ true →
    k.number ≡ n → r ≡ row_at b n → after_undo w2 k ≡ w →
    ((s : List Point) → IsWords b.profile s w → InTurn s → IsWords b.profile (point (under b.profile) s n r ∷ s) w2) → IsClock b w2 (ks ++ k ∷ [])
pushed-clock b w w2 ks k n r is ready e1 e2 e3 words =
    let s : List Point = points_of_steps b (reverse ks) in
    let numbers : numbers_of (ks ++ k ∷ []) ≡ numbers_of ks ++ n ∷ [] = map_push (λ (x : Step). x.number) ks k ∙ ap (λ m. numbers_of ks ++ m ∷ []) e1 in
    let turn : InTurn s = subst (λ x. InTurn x) (sym (after-is b ks)) (clock-turn b w ks is) in
    let there : IsWords b.profile (point (under b.profile) s n r ∷ s) w2 = words s (kept-words b w (reverse ks) is.kept) turn in
    let placed : point (under b.profile) s n r ≡ point_of b s k.number =
    point-under b s n r ∙ ap (point b s n) e2 ∙ ap (point_of b s) (sym e1) in
    let first : IsWords b.profile (points_of_steps b (k ∷ reverse ks)) w2 = subst (λ (x : Point). IsWords b.profile (x ∷ s) w2) placed there in
    let rest : AreKept b (after_undo w2 k) (reverse ks) = subst (λ (x : Words). AreKept b x (reverse ks)) (sym e3) is.kept in
    record {
      few = is.few;
      begins = subst (λ ns. IsBeginning b.block ns) (sym numbers) (ready-beginning b.block (numbers_of ks) n is.begins ready);
      kept = subst (λ xs. AreKept b w2 xs) (sym (reverse-push ks k)) (first, rest);
    }

-- AN UNDO

pub after_undo-clock : (b : Problem) (w : Words) (all ks : List Step) (k : Step) → all ≡ ks ++ k ∷ [] → IsClock b w all → IsClock b (after_undo w k) ks
after_undo-clock b w all ks k e is =
    let kept : AreKept b w (k ∷ reverse ks) = subst (λ xs. AreKept b w xs) (ap reverse e ∙ reverse-push ks k) is.kept in
    let begins : IsBeginning b.block (numbers_of ks ++ k.number ∷ []) = subst (λ ns. IsBeginning b.block ns) (ap numbers_of e ∙ map_push (λ (x : Step). x.number) ks k) is.begins in
    record {
      few = is.few;
      begins = (GoesOn-append b.block [] (numbers_of ks) (k.number ∷ []) begins).0;
      kept = kept.1;
    }

-- BUSY UNITS

-- no more units are busy at the next slot than there are
pub clock-fits : (b : Problem) (w : Words) (ks : List Step) (kind : Kind) → IsClock b w ks → tally (busy_at kind (next (points_of b (numbers_of ks)))) (points_of b (numbers_of ks)) ≤ copies b kind
clock-fits b w ks kind is = fits-run b kind [] (numbers_of ks) (omega arith)

-- the next slot is no later than the total
pub clock-next : (b : Problem) (w : Words) (ks : List Step) → IsClock b w ks → next (points_of b (numbers_of ks)) ≤ total (points_of b (numbers_of ks))
clock-next b w ks is = next-le-total b [] (numbers_of ks) (omega arith)

pub clock-start : (b : Problem) (w : Words) (ks : List Step) → length b.block ≤ BLOCK_LIMIT → ks ≡ [] → ((p : Profile) → IsWords p [] w) → IsClock b w ks
clock-start b w ks few none words =
    subst (λ xs. IsClock b w xs) (sym none) (record { few = few; begins = tt; kept = words b.profile })

-- the last of some steps
pub last-split : (ks : List Step) (i : ℕ) (k : Step) → i + 1 ≡ length ks → k ≡ get_or ks i k → ks ≡ take i ks ++ k ∷ []
last-split ks i k e is =
    sym (take_all (i + 1) ks (omega arith)) ∙ take_more ks i k (omega arith) ∙ ap (λ x. take i ks ++ x ∷ []) (sym is)
