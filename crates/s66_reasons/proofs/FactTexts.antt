-- What is granted of fact lines that are taken, and why a pair is forced.
use Rattle.std.proofs.Common.{ℕ, ◌≡◌, ◌&&◌, ◌∙◌, Bool, true, false, List, [], ◌∷◌, Option, Some, ap, sym, refl, map, unwrap_or}
use Rattle.std.proofs.lemmas.Bool.{and_parts, cond-true, cond-false}
use Rattle.s66_isa.specs.{Kind, every, same_kind}
use Rattle.s66_model.specs.{Problem, row_at, is_remaining}
use Rattle.s66_moments.specs.{Issue, Free, Origin, At, End, LoadLine, use_time, Network, Known, arcs_of, are_used, is_late_by_parcels, is_load_taken, is_number, is_used, kind_of_load, plus, reaches}
use Rattle.s66_moments.specs.{span, use_of}
use Rattle.s66_reasons.specs.{by_parcels, by_unit, late_words, rest_known, soonest_known}

-- the instructions of a load are those of the block
used-remain : (b : Problem) (arcs : Network) (line : LoadLine) (kind : Kind) (time : ℕ) (ns : List ℕ) → every (is_used b arcs line kind time) ns ≡ true → every (is_remaining b.block []) ns ≡ true
used-remain b arcs line kind time [] used = refl
used-remain b arcs line kind time (n ∷ ns) used =
    let parts = and_parts (is_used b arcs line kind time n) (every (is_used b arcs line kind time) ns) used in
    let (within, from) = and_parts (is_number b n && same_kind (row_at b n).kind kind) _ parts.0 in
    let (number, alike) = and_parts (is_number b n) (same_kind (row_at b n).kind kind) within in
    rw (number, used-remain b arcs line kind time ns parts.1) refl

pub taken-remain : (b : Problem) (known : Known) (line : LoadLine) → is_load_taken b known line ≡ true → every (is_remaining b.block []) line.numbers.items ≡ true
taken-remain b known line taken =
    let ns = line.numbers.items in
    let kind = kind_of_load b ns in
    let (front, used) = and_parts _ (are_used b (arcs_of b known) line kind) taken in
    used-remain b (arcs_of b known) line kind (use_time b kind (map (use_of b) ns)) ns used

-- why a pair is forced
late-test : (b : Problem) (bound : ℕ) (arcs : Network) (m n parcels : ℕ) (head tail : Option ℕ) (test : Bool) → head ≡ span b arcs Origin (At n Issue) →
    tail ≡ span b arcs (At m Issue) End → parcels ≡ (row_at b n).parcels → test ≡ reaches bound (plus (plus head (Some parcels)) tail) →
    test ≡ is_late_by_parcels b arcs bound m n
late-test b bound arcs m n parcels head tail test heads tails sizes is =
    is ∙ ap (λ (o : Option ℕ). reaches bound (plus (plus o (Some parcels)) tail)) heads
    ∙ ap (λ (o : Option ℕ). reaches bound (plus (plus (span b arcs Origin (At n Issue)) (Some parcels)) o)) tails
    ∙ ap (λ k. reaches bound (plus (plus (span b arcs Origin (At n Issue)) (Some k)) (span b arcs (At m Issue) End))) sizes

pub late-by_parcels : (b : Problem) (bound : ℕ) (arcs : Network) (m n parcels soonest rest : ℕ) (head tail : Option ℕ) (test : Bool) → head ≡ span b arcs Origin (At n Issue) →
    tail ≡ span b arcs (At m Issue) End → parcels ≡ (row_at b n).parcels → test ≡ reaches bound (plus (plus head (Some parcels)) tail) → test ≡ true →
    soonest ≡ unwrap_or head 0 → rest ≡ unwrap_or tail 0 → by_parcels soonest parcels rest m n ≡ late_words b bound arcs m n
late-by_parcels b bound arcs m n parcels soonest rest head tail test heads tails sizes is so soonest_is rest_is =
    let late = sym (late-test b bound arcs m n parcels head tail test heads tails sizes is) ∙ so in
    let known : ℕ = rest_known b arcs (At m Issue) in
    ap (λ k. by_parcels k parcels rest m n) (soonest_is ∙ ap (λ (o : Option ℕ). unwrap_or o 0) heads)
    ∙ ap (λ k. by_parcels (soonest_known b arcs (At n Issue)) parcels k m n) (rest_is ∙ ap (λ (o : Option ℕ). unwrap_or o 0) tails)
    ∙ ap (λ k. by_parcels (soonest_known b arcs (At n Issue)) k known m n) sizes
    ∙ sym (cond-true {A = List ℕ} (is_late_by_parcels b arcs bound m n) (by_parcels (soonest_known b arcs (At n Issue)) (row_at b n).parcels known m n) (by_unit (row_at b n).kind (soonest_known b arcs (At n Free)) known m n) late)

pub late-by_unit : (b : Problem) (bound : ℕ) (arcs : Network) (m n parcels soonest rest : ℕ) (kind : Kind) (head free tail : Option ℕ) (test : Bool) → head ≡ span b arcs Origin (At n Issue) →
    tail ≡ span b arcs (At m Issue) End → parcels ≡ (row_at b n).parcels → test ≡ reaches bound (plus (plus head (Some parcels)) tail) → test ≡ false →
    free ≡ span b arcs Origin (At n Free) → kind ≡ (row_at b n).kind → soonest ≡ unwrap_or free 0 → rest ≡ unwrap_or tail 0 → by_unit kind soonest rest m n ≡ late_words b bound arcs m n
late-by_unit b bound arcs m n parcels soonest rest kind head free tail test heads tails sizes is not frees kinds soonest_is rest_is =
    let late = sym (late-test b bound arcs m n parcels head tail test heads tails sizes is) ∙ not in
    let known : ℕ = rest_known b arcs (At m Issue) in
    ap (λ k. by_unit kind k rest m n) (soonest_is ∙ ap (λ (o : Option ℕ). unwrap_or o 0) frees)
    ∙ ap (λ k. by_unit kind (soonest_known b arcs (At n Free)) k m n) (rest_is ∙ ap (λ (o : Option ℕ). unwrap_or o 0) tails)
    ∙ ap (λ (k : Kind). by_unit k (soonest_known b arcs (At n Free)) known m n) kinds
    ∙ sym (cond-false {A = List ℕ} (is_late_by_parcels b arcs bound m n) (by_parcels (soonest_known b arcs (At n Issue)) (row_at b n).parcels known m n) (by_unit (row_at b n).kind (soonest_known b arcs (At n Free)) known m n) late)
