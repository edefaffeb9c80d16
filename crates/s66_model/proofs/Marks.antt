-- Lines of a tree appended to those that are kept, and read again one by one.
use Rattle.std.proofs.Common.{◌≡◌, ℕ, zero, suc, ◌+◌, ◌≤◌, ◌<◌, List, [], ◌∷◌, ◌++◌, length, take, drop, get_or, refl, sym, ap, ◌∙◌, arith, length-append, drop-drop, length-drop}
use Rattle.std.proofs.lemmas.List.{take-append-le, drop-append-le}
use Rattle.s66_isa.specs.{some_of, weigh}
use Rattle.s66_isa.proofs.Lists.{weigh-append}
use Rattle.s66_model.specs.{has_dominated_line, number_count, is_dominated, marked, vertices_of, begins_from, HaveTheirNumbers, AreKeptLines, Mark}
use Rattle.s66_model.specs.declared.lines.Mark.TheVariants as mark

-- a line has no numbers but its own
marked-more : (m : Mark) (numbers more : List ℕ) → number_count m ≤ length numbers → marked m (numbers ++ more) ≡ marked m numbers
marked-more (mark.Split count) numbers more h = rw (take-append-le count numbers more h) refl
marked-more mark.Whole numbers more h = refl
marked-more (mark.Chain count) numbers more h = rw (take-append-le count numbers more h) refl
marked-more (mark.Load kind) numbers more h = refl
marked-more mark.Parcels numbers more h = refl
marked-more (mark.Dominated count) numbers more h = rw (take-append-le count numbers more h) refl
marked-more (mark.Next number) numbers more h = refl
marked-more (mark.Turned first second) numbers more h = refl
marked-more (mark.AtLine line) numbers more h = refl
marked-more (mark.LoadFrom count after) numbers more h = rw (take-append-le count numbers more h) refl

-- a leaf is dominated if a mark is
pub dominated_marks : (ms : List Mark) (numbers : List ℕ) → has_dominated_line (vertices_of ms numbers) ≡ some_of is_dominated ms
dominated_marks [] numbers = refl
dominated_marks (mark.Split count ∷ ms) numbers = dominated_marks ms (drop count numbers)
dominated_marks (mark.Whole ∷ ms) numbers = dominated_marks ms (drop 0 numbers)
dominated_marks (mark.Chain count ∷ ms) numbers = dominated_marks ms (drop count numbers)
dominated_marks (mark.Load kind ∷ ms) numbers = dominated_marks ms (drop 0 numbers)
dominated_marks (mark.Parcels ∷ ms) numbers = dominated_marks ms (drop 0 numbers)
dominated_marks (mark.Dominated count ∷ ms) numbers = refl
dominated_marks (mark.Next number ∷ ms) numbers = dominated_marks ms (drop 0 numbers)
dominated_marks (mark.Turned first second ∷ ms) numbers = dominated_marks ms (drop 0 numbers)
dominated_marks (mark.AtLine line ∷ ms) numbers = dominated_marks ms (drop 0 numbers)
dominated_marks (mark.LoadFrom count after ∷ ms) numbers = dominated_marks ms (drop count numbers)

take-take : (n : ℕ) (xs : List ℕ) → take n (take n xs) ≡ take n xs
take-take zero xs = refl
take-take (suc n) [] = refl
take-take (suc n) (x ∷ xs) = ap (λ ys. x ∷ ys) (take-take n xs)

pub marked-taken : (m : Mark) (numbers : List ℕ) → marked m (take (number_count m) numbers) ≡ marked m numbers
marked-taken (mark.Split count) numbers = rw (take-take count numbers) refl
marked-taken mark.Whole numbers = refl
marked-taken (mark.Chain count) numbers = rw (take-take count numbers) refl
marked-taken (mark.Load kind) numbers = refl
marked-taken mark.Parcels numbers = refl
marked-taken (mark.Dominated count) numbers = rw (take-take count numbers) refl
marked-taken (mark.Next number) numbers = refl
marked-taken (mark.Turned first second) numbers = refl
marked-taken (mark.AtLine line) numbers = refl
marked-taken (mark.LoadFrom count after) numbers = rw (take-take count numbers) refl

-- without the first line and its numbers
pub counted-rest : (m : Mark) (ms : List Mark) (numbers : List ℕ) → HaveTheirNumbers (m ∷ ms) numbers → HaveTheirNumbers ms (drop (number_count m) numbers)
counted-rest m ms numbers h = omega (arith, length-drop (number_count m) numbers, h)

pub counted-append : (ms : List Mark) (numbers : List ℕ) (m : Mark) (more : List ℕ) → HaveTheirNumbers ms numbers → number_count m ≡ length more → HaveTheirNumbers (ms ++ m ∷ []) (numbers ++ more)
counted-append ms numbers m more h e = omega (arith, weigh-append number_count ms (m ∷ []), length-append numbers more, h, e)

pub vertices-append : (ms : List Mark) (numbers : List ℕ) (m : Mark) (more : List ℕ) → HaveTheirNumbers ms numbers → vertices_of (ms ++ m ∷ []) (numbers ++ more) ≡ vertices_of ms numbers ++ marked m more ∷ []
vertices-append [] [] m more h = refl
vertices-append [] (n ∷ ns) m more h = absurd (omega (arith, h))
vertices-append (k ∷ ms) numbers m more h =
    let few : number_count k ≤ length numbers = omega (arith, h) in
    rw (marked-more k numbers more few) (rw (drop-append-le (number_count k) numbers more few)
    (ap (λ vertices. marked k numbers ∷ vertices) (vertices-append ms (drop (number_count k) numbers) m more (counted-rest k ms numbers h))))

-- WHERE THE NUMBERS BEGIN

pub line_count : (ms : List Mark) (numbers : List ℕ) → length (vertices_of ms numbers) ≡ length ms
line_count [] numbers = refl
line_count (m ∷ ms) numbers = omega (arith, line_count ms (drop (number_count m) numbers))

begins-append : (n : ℕ) (ms : List Mark) (m : Mark) → begins_from n (ms ++ m ∷ []) ≡ begins_from n ms ++ (n + weigh number_count ms) ∷ []
begins-append n [] m = let same : n ≡ n + 0 = omega arith in ap (λ k. k ∷ []) same
begins-append n (k ∷ ms) m =
    let sum : n + number_count k + weigh number_count ms ≡ n + weigh number_count (k ∷ ms) = omega arith in
    ap (λ ks. n ∷ ks) (begins-append (n + number_count k) ms m ∙ ap (λ b. begins_from (n + number_count k) ms ++ b ∷ []) sum)

pub kept-append : (ms : List Mark) (numbers begins : List ℕ) (m : Mark) (more : List ℕ) (begin : ℕ) → AreKeptLines ms numbers begins → number_count m ≡ length more → begin ≡ length numbers →
    AreKeptLines (ms ++ m ∷ []) (numbers ++ more) (begins ++ begin ∷ [])
kept-append ms numbers begins m more begin are e here =
    let sum : 0 + weigh number_count ms ≡ begin = omega (arith, are.counted, here) in
    record {
      counted = counted-append ms numbers m more are.counted e;
      placed = ap (λ bs. bs ++ begin ∷ []) are.placed ∙ sym (begins-append 0 ms m ∙ ap (λ b. begins_from 0 ms ++ b ∷ []) sum);
    }

begin-at : (n : ℕ) (ms : List Mark) (place : ℕ) → place < length ms → get_or (begins_from n ms) place 0 ≡ n + weigh number_count (take place ms)
begin-at n [] place lt = absurd (omega arith)
begin-at n (m ∷ ms) zero lt = omega arith
begin-at n (m ∷ ms) (suc place) lt = omega (arith, begin-at (n + number_count m) ms place (omega arith))

begins-count : (n : ℕ) (ms : List Mark) → length (begins_from n ms) ≡ length ms
begins-count n [] = refl
begins-count n (m ∷ ms) = omega (arith, begins-count (n + number_count m) ms)

within-at : (ms : List Mark) (place : ℕ) (d : Mark) → place < length ms → weigh number_count (take place ms) + number_count (get_or ms place d) ≤ weigh number_count ms
within-at [] place d lt = absurd (omega arith)
within-at (m ∷ ms) zero d lt = omega arith
within-at (m ∷ ms) (suc place) d lt = omega (arith, within-at ms place d (omega arith))

-- the line at a place, and those after it
drop-at : (ms : List Mark) (numbers : List ℕ) (place : ℕ) (d : Mark) → place < length ms →
    drop place (vertices_of ms numbers) ≡ marked (get_or ms place d) (drop (weigh number_count (take place ms)) numbers) ∷ drop (suc place) (vertices_of ms numbers)
drop-at [] numbers place d lt = absurd (omega arith)
drop-at (m ∷ ms) numbers zero d lt = refl
drop-at (m ∷ ms) numbers (suc place) d lt =
    drop-at ms (drop (number_count m) numbers) place d (omega arith)
    ∙ ap (λ ns. marked (get_or ms place d) ns ∷ drop (suc place) (vertices_of ms (drop (number_count m) numbers))) (drop-drop (weigh number_count (take place ms)) (number_count m) numbers)

pub kept_count : (ms : List Mark) (numbers begins : List ℕ) → AreKeptLines ms numbers begins → length begins ≡ length ms
kept_count ms numbers begins are = ap length are.placed ∙ begins-count 0 ms

-- the mark at a place, and where its numbers begin
module _ (ms : List Mark) (numbers begins : List ℕ) (place : ℕ) (d : Mark) (are : AreKeptLines ms numbers begins) (lt : place < length ms) where
  begin-is : get_or begins place 0 ≡ weigh number_count (take place ms)
  begin-is = omega (arith, ap (λ bs. get_or bs place 0) are.placed, begin-at 0 ms place lt)

  pub begin-within : get_or begins place 0 ≤ length numbers
  begin-within = omega (arith, begin-is, within-at ms place d lt, are.counted)

  pub count-within : number_count (get_or ms place d) ≤ length (drop (get_or begins place 0) numbers)
  count-within = omega (arith, begin-is, within-at ms place d lt, are.counted, length-drop (get_or begins place 0) numbers)

  pub line-is : drop place (vertices_of ms numbers) ≡ marked (get_or ms place d) (take (number_count (get_or ms place d)) (drop (get_or begins place 0) numbers)) ∷ drop (place + 1) (vertices_of ms numbers)
  line-is =
      let next : suc place ≡ place + 1 = omega arith in
      drop-at ms numbers place d lt
      ∙ rw (← begin-is, next) (ap (λ k. k ∷ drop (place + 1) (vertices_of ms numbers)) (sym (marked-taken (get_or ms place d) (drop (get_or begins place 0) numbers))))
