-- The heap of open nodes: one taken, one put in.
use Rattle.std.proofs.Common.{ℕ, zero, suc, ◌+◌, ◌≤◌, ◌<◌, ◌≡◌, ◌≢◌, Bool, true, false, cond, ◌==◌, List, [], ◌∷◌, ◌++◌, length, set, refl, sym, ap, arith, inl, inr, eqb, ◌∙◌, subst, length-append}
use Rattle.std.proofs.Common.{eq-eqb, ne_eqb, eqb-true, length-set, All, sum_by, IsPermutation}
use Rattle.std.proofs.lemmas.Bool.{cases_Bool, cases_eq}
use Rattle.std.proofs.lemmas.List.Elements.{All-cons, All-tail, All-head, All-nil, All-weaker}
use Rattle.std.proofs.lemmas.List.Sums.{sum_by-cons}
use Rattle.std.proofs.lemmas.List.Sorted.{All-permutation, sum_by-IsPermutation, length_permutation}
use Rattle.s66_isa.specs.{tally}
use Rattle.s66_isa.proofs.Lists.{tally-set, tally-append, cases_le, get_or-past}
use Rattle.s66_model.proofs.LegalOrders.{at-most-one}
use Rattle.s66_node.specs.{Node, State, is_stored_open}
use Rattle.s66_node.specs.declared.node.State.TheVariants as state
use Rattle.s66_node.proofs.Nodes.{get_or-front, get_or-last}
use Rattle.s66_ledger.specs.{DEPTH_RANKS, no_stored, stored_at, stores_open, ranked, rank_of, IsRanked, AreOpenNodes}

abbrev pub Entry : Type 0
Entry = ℕ × ℕ

tally-sum : {X : Type 0} (test : X → Bool) (xs : List X) → sum_by (λ x. cond (test x) 1 0) xs ≡ tally test xs
tally-sum test [] = refl
tally-sum test (x ∷ xs) = omega (arith, tally-sum test xs, sum_by-cons (λ y. cond (test y) 1 0) x xs)

tally-permutation : {X : Type 0} (test : X → Bool) (xs ys : List X) → IsPermutation xs ys → tally test ys ≡ tally test xs
tally-permutation test xs ys same = sym (tally-sum test ys) ∙ (sum_by-IsPermutation (λ x. cond (test x) 1 0) xs ys same ∙ tally-sum test xs)

-- NODES

pub is-open : (s : State) → is_stored_open s ≡ true → s ≡ state.Open
is-open state.Open h = refl
is-open state.Out h = absurd cc
is-open state.Closed h = absurd cc
is-open state.Split h = absurd cc
is-open state.Dominated h = absurd cc

in-range : (nodes : List Node) (i : ℕ) → stores_open (stored_at nodes i) ≡ true → i < length nodes
in-range [] i h = absurd cc
in-range (x ∷ nodes) zero h = omega arith
in-range (x ∷ nodes) (suc i) h = omega (arith, in-range nodes i h)

set-same : (nodes : List Node) (i : ℕ) (y : Node) → i < length nodes → stored_at (set nodes i y) i ≡ y
set-same [] i y lt = absurd (omega arith)
set-same (x ∷ nodes) zero y lt = refl
set-same (x ∷ nodes) (suc i) y lt = set-same nodes i y (omega arith)

pub set-other : (nodes : List Node) (i j : ℕ) (y : Node) → i ≢ j → stored_at (set nodes i y) j ≡ stored_at nodes j
set-other [] i j y ne = refl
set-other (x ∷ nodes) zero zero y ne = absurd (ne refl)
set-other (x ∷ nodes) zero (suc j) y ne = refl
set-other (x ∷ nodes) (suc i) zero y ne = refl
set-other (x ∷ nodes) (suc i) (suc j) y ne = set-other nodes i j y (λ e. ne (ap suc e))

pub set-here : (nodes : List Node) (i j : ℕ) (y : Node) → i < length nodes → i ≡ j → stored_at (set nodes i y) j ≡ y
set-here nodes i j y lt e = ap (stored_at (set nodes i y)) (sym e) ∙ set-same nodes i y lt

-- a node of the same value is ranked alike
ranks-set : (nodes : List Node) (i : ℕ) (y : Node) (entries : List Entry) → y.value ≡ (stored_at nodes i).value → All (IsRanked nodes) entries → All (IsRanked (set nodes i y)) entries
ranks-set nodes i y entries same all = All-weaker (IsRanked nodes) (IsRanked (set nodes i y)) alike entries all
  where
    value-same : (j : ℕ) → j < length nodes → (stored_at (set nodes i y) j).value ≡ (stored_at nodes j).value
    value-same j lt =
        elim (cases_eq i j) [
          | inl e ↦ ap (λ (x : Node). x.value) (set-here nodes i j y (omega (arith, lt, e)) e) ∙ (same ∙ ap (λ k. (stored_at nodes k).value) e)
          | inr ne ↦ ap (λ (x : Node). x.value) (set-other nodes i j y ne)
        ]

    alike : (e : Entry) → IsRanked nodes e → IsRanked (set nodes i y) e
    alike e (lt, (depth, few, is)) =
        (omega (arith, lt, length-set nodes i y), (depth, few, is ∙ ap (λ v. rank_of v depth) (sym (value-same e.1 lt))))

-- ONE TAKEN, ONE PUT IN

open-true : (b : Bool) (k : ℕ) → k + 1 ≡ cond b 1 0 → b ≡ true
open-true true k h = refl
open-true false k h = absurd (omega arith)

one : (b : Bool) (c : Bool) → b ≡ c → ◌≡◌ {A = ℕ} (cond b 1 0) (cond c 1 0)
one b c e = ap (λ t. cond {A = ℕ} t 1 0) e

module _ (nodes : List Node) (entries : List Entry) (are : AreOpenNodes nodes entries) where
  module _ (rest : List Entry) (r i : ℕ) (popped : IsPermutation entries ((r, i) ∷ rest)) where
    counted : (k : ℕ) → tally (λ (e : Entry). e.1 == k) rest + cond (i == k) 1 0 ≡ cond (stores_open (stored_at nodes k)) 1 0
    counted k = omega (arith, are.once k, tally-permutation (λ (e : Entry). e.1 == k) entries ((r, i) ∷ rest) popped)

    open-there : stores_open (stored_at nodes i) ≡ true
    open-there = open-true (stores_open (stored_at nodes i)) (tally (λ (e : Entry). e.1 == i) rest) (omega (arith, counted i, one (i == i) true (eq-eqb i i refl)))

    all-ranked : All (IsRanked nodes) ((r, i) ∷ rest)
    all-ranked = All-permutation (IsRanked nodes) entries ((r, i) ∷ rest) popped are.ranks

    pub taken-within : i < length nodes
    taken-within = in-range nodes i open-there

    pub taken-open : (stored_at nodes i).state ≡ state.Open
    taken-open = is-open (stored_at nodes i).state open-there

    pub taken : (y : Node) → is_stored_open y.state ≡ false → y.value ≡ (stored_at nodes i).value → AreOpenNodes (set nodes i y) rest
    taken y shut same =
        record {
          once =
              λ k.
              elim (cases_eq i k) [
                | inl e ↦
                    (let here = set-here nodes i k y taken-within e in
                    omega (arith, counted k, at-most-one (stores_open (stored_at nodes k)), one (i == k) true (eq-eqb i k e), ap (λ (x : Node). cond {A = ℕ} (stores_open x) 1 0) here, one (is_stored_open y.state) false shut))
                | inr ne ↦ omega (arith, counted k, one (i == k) false (ne_eqb i k ne), ap (λ (x : Node). cond {A = ℕ} (stores_open x) 1 0) (set-other nodes i k y ne))
              ];
          count = omega (arith, are.count, length_permutation entries ((r, i) ∷ rest) popped, tally-set stores_open nodes i y no_stored taken-within, one (stores_open (stored_at nodes i)) true open-there, one (is_stored_open y.state) false shut);
          ranks = ranks-set nodes i y rest same (All-tail (IsRanked nodes) (r, i) rest all-ranked);
        }

  module _ (i : ℕ) (y : Node) (lt : i < length nodes) (shut : stores_open (stored_at nodes i) ≡ false) (same : y.value ≡ (stored_at nodes i).value) where
    -- one that wasn't open is
    pub put-in : (more : List Entry) (depth : ℕ) → is_stored_open y.state ≡ true → depth < DEPTH_RANKS → IsPermutation ((rank_of y.value depth, i) ∷ entries) more → AreOpenNodes (set nodes i y) more
    put-in more depth opens few pushed =
        record {
          once =
              λ k.
              (let all = tally-permutation (λ (e : Entry). e.1 == k) ((rank_of y.value depth, i) ∷ entries) more pushed in
              elim (cases_eq i k) [
                | inl e ↦
                    (let here = set-here nodes i k y lt e in
                    let was : stores_open (stored_at nodes k) ≡ false = ap (λ j. stores_open (stored_at nodes j)) (sym e) ∙ shut in
                    omega (arith, all, are.once k, one (stores_open (stored_at nodes k)) false was, one (i == k) true (eq-eqb i k e), ap (λ (x : Node). cond {A = ℕ} (stores_open x) 1 0) here, one (is_stored_open y.state) true opens))
                | inr ne ↦ omega (arith, all, are.once k, one (i == k) false (ne_eqb i k ne), ap (λ (x : Node). cond {A = ℕ} (stores_open x) 1 0) (set-other nodes i k y ne))
              ]);
          count = omega (arith, are.count, length_permutation ((rank_of y.value depth, i) ∷ entries) more pushed, tally-set stores_open nodes i y no_stored lt, one (stores_open (stored_at nodes i)) false shut, one (is_stored_open y.state) true opens);
          ranks =
              All-permutation (IsRanked (set nodes i y)) ((rank_of y.value depth, i) ∷ entries) more pushed
              (All-cons (IsRanked (set nodes i y)) (rank_of y.value depth, i) entries
              (omega (arith, lt, length-set nodes i y), (depth, few, ap (λ (x : Node). rank_of x.value depth) (sym (set-same nodes i y lt))))
              (ranks-set nodes i y entries same are.ranks));
        }

    -- one that wasn't open isn't
    pub still-shut : is_stored_open y.state ≡ false → AreOpenNodes (set nodes i y) entries
    still-shut shuts =
        record {
          once =
              λ k.
              elim (cases_eq i k) [
                | inl e ↦
                    (let here = set-here nodes i k y lt e in
                    let was : stores_open (stored_at nodes k) ≡ false = ap (λ j. stores_open (stored_at nodes j)) (sym e) ∙ shut in
                    omega (arith, are.once k, one (stores_open (stored_at nodes k)) false was, ap (λ (x : Node). cond {A = ℕ} (stores_open x) 1 0) here, one (is_stored_open y.state) false shuts))
                | inr ne ↦ omega (arith, are.once k, ap (λ (x : Node). cond {A = ℕ} (stores_open x) 1 0) (set-other nodes i k y ne))
              ];
          count = omega (arith, are.count, tally-set stores_open nodes i y no_stored lt, one (stores_open (stored_at nodes i)) false shut, one (is_stored_open y.state) false shuts);
          ranks = ranks-set nodes i y entries same are.ranks;
        }

pub out-shut : (nodes : List Node) (i : ℕ) → (stored_at nodes i).state ≡ state.Out → stores_open (stored_at nodes i) ≡ false
out-shut nodes i out = ap is_stored_open out

-- ONE NODE MORE

at-new : (nodes : List Node) (x : Node) (k : ℕ) → k ≡ length nodes → stored_at (nodes ++ x ∷ []) k ≡ x
at-new nodes x k e = ap (stored_at (nodes ++ x ∷ [])) e ∙ get_or-last nodes x no_stored

past : (nodes : List Node) (k : ℕ) → k ≡ length nodes → stores_open (stored_at nodes k) ≡ false
past nodes k e = ap stores_open (get_or-past nodes k no_stored (omega (arith, e)))

at-old : (nodes : List Node) (x : Node) (k : ℕ) → k ≢ length nodes → stored_at (nodes ++ x ∷ []) k ≡ stored_at nodes k
at-old nodes x k ne =
    elim (cases_le (length nodes) k) [
      | inl le ↦ get_or-past (nodes ++ x ∷ []) k no_stored (omega (arith, le, ne, length-append nodes (x ∷ []))) ∙ sym (get_or-past nodes k no_stored le)
      | inr lt ↦ get_or-front nodes x k no_stored lt
    ]

ranks-push : (nodes : List Node) (x : Node) (entries : List Entry) → All (IsRanked nodes) entries → All (IsRanked (nodes ++ x ∷ [])) entries
ranks-push nodes x entries all = All-weaker (IsRanked nodes) (IsRanked (nodes ++ x ∷ [])) alike entries all
  where
    alike : (e : Entry) → IsRanked nodes e → IsRanked (nodes ++ x ∷ []) e
    alike e (lt, (depth, few, is)) =
        (omega (arith, lt, length-append nodes (x ∷ [])), (depth, few, is ∙ ap (λ (n : Node). rank_of n.value depth) (sym (get_or-front nodes x e.1 no_stored lt))))

module _ (nodes : List Node) (x : Node) (entries : List Entry) (are : AreOpenNodes nodes entries) where
  pub more-open : (more : List Entry) (depth : ℕ) → is_stored_open x.state ≡ true → depth < DEPTH_RANKS → IsPermutation ((rank_of x.value depth, length nodes) ∷ entries) more → AreOpenNodes (nodes ++ x ∷ []) more
  more-open more depth opens few pushed =
      record {
        once =
            λ k.
            (let all = tally-permutation (λ (e : Entry). e.1 == k) ((rank_of x.value depth, length nodes) ∷ entries) more pushed in
            elim (cases_eq (length nodes) k) [
              | inl e ↦ omega (arith, all, are.once k, one (stores_open (stored_at nodes k)) false (past nodes k (sym e)), one (length nodes == k) true (eq-eqb (length nodes) k e), ap (λ (n : Node). cond {A = ℕ} (stores_open n) 1 0) (at-new nodes x k (sym e)), one (is_stored_open x.state) true opens)
              | inr ne ↦ omega (arith, all, are.once k, one (length nodes == k) false (ne_eqb (length nodes) k ne), ap (λ (n : Node). cond {A = ℕ} (stores_open n) 1 0) (at-old nodes x k (λ e. ne (sym e))))
            ]);
        count = omega (arith, are.count, length_permutation ((rank_of x.value depth, length nodes) ∷ entries) more pushed, tally-append stores_open nodes (x ∷ []), one (is_stored_open x.state) true opens);
        ranks =
            All-permutation (IsRanked (nodes ++ x ∷ [])) ((rank_of x.value depth, length nodes) ∷ entries) more pushed
            (All-cons (IsRanked (nodes ++ x ∷ [])) (rank_of x.value depth, length nodes) entries
            (omega (arith, length-append nodes (x ∷ [])), (depth, few, ap (λ (n : Node). rank_of n.value depth) (sym (at-new nodes x (length nodes) refl))))
            (ranks-push nodes x entries are.ranks));
      }

  pub more-shut : is_stored_open x.state ≡ false → AreOpenNodes (nodes ++ x ∷ []) entries
  more-shut shuts =
      record {
        once =
            λ k.
            elim (cases_eq (length nodes) k) [
              | inl e ↦ omega (arith, are.once k, one (stores_open (stored_at nodes k)) false (past nodes k (sym e)), ap (λ (n : Node). cond {A = ℕ} (stores_open n) 1 0) (at-new nodes x k (sym e)), one (is_stored_open x.state) false shuts)
              | inr ne ↦ omega (arith, are.once k, ap (λ (n : Node). cond {A = ℕ} (stores_open n) 1 0) (at-old nodes x k (λ e. ne (sym e))))
            ];
        count = omega (arith, are.count, tally-append stores_open nodes (x ∷ []), one (is_stored_open x.state) false shuts);
        ranks = ranks-push nodes x entries are.ranks;
      }

-- THE FIRST NODE

pub first-open : (node : Node) (none more : List Entry) → node.state ≡ state.Open → none ≡ [] → IsPermutation ((rank_of node.value 0, 0) ∷ none) more → AreOpenNodes (node ∷ []) more
first-open node none more state-is empty pushed =
    let same : IsPermutation ((rank_of node.value 0, 0) ∷ []) more = subst (λ xs. IsPermutation ((rank_of node.value 0, 0) ∷ xs) more) empty pushed in
    record {
      once = λ k. tally-permutation (λ (e : Entry). e.1 == k) ((rank_of node.value 0, 0) ∷ []) more same ∙ opening k;
      count = omega (arith, length_permutation ((rank_of node.value 0, 0) ∷ []) more same, one (stores_open node) true (ap is_stored_open state-is));
      ranks =
          All-permutation (IsRanked (node ∷ [])) ((rank_of node.value 0, 0) ∷ []) more same
          (All-cons (IsRanked (node ∷ [])) (rank_of node.value 0, 0) [] (omega arith, (0, omega arith, refl)) (All-nil (IsRanked (node ∷ []))));
    }
  where
    opening : (k : ℕ) → tally (λ (e : Entry). e.1 == k) ((rank_of node.value 0, 0) ∷ []) ≡ cond (stores_open (stored_at (node ∷ []) k)) 1 0
    opening zero = omega (arith, one (stores_open node) true (ap is_stored_open state-is))
    opening (suc k) = omega (arith, one (eqb 0 (suc k)) false (ne_eqb 0 (suc k) (omega arith)))

-- THE GREATEST RANK is of the least value

rank-value : (u v d e : ℕ) → d < DEPTH_RANKS → e < DEPTH_RANKS → rank_of v e ≤ rank_of u d → ranked u ≤ ranked v
rank-value u v d e few less le = omega (arith, few, less, le)

among-tally : (entries : List Entry) (P : Entry → Type 0) (j : ℕ) → All P entries → 1 ≤ tally (λ (e : Entry). e.1 == j) entries → (e : Entry) × P e × (e.1 ≡ j)
among-tally [] P j all some = absurd (omega arith)
among-tally (x ∷ entries) P j all some =
    elim (cases_Bool (x.1 == j)) [
      | inl is ↦ (x, All-head P x entries all, eqb-true x.1 j is)
      | inr is ↦ among-tally entries P j (All-tail P x entries all) (omega (arith, some, one (x.1 == j) false is))
    ]

pub greatest-least : (nodes : List Node) (entries rest : List Entry) (r i : ℕ) → AreOpenNodes nodes entries → IsPermutation entries ((r, i) ∷ rest) → All (λ (e : Entry). e.0 ≤ r) entries → (j : ℕ) → stores_open (stored_at nodes j) ≡ true → ranked (stored_at nodes i).value ≤ ranked (stored_at nodes j).value
greatest-least nodes entries rest r i are popped top j opens =
    let (lt, (d, few, is)) = All-head (IsRanked nodes) (r, i) rest (All-permutation (IsRanked nodes) entries ((r, i) ∷ rest) popped are.ranks) in
    let both : All (λ (e : Entry). IsRanked nodes e × (e.0 ≤ r)) entries = All-both entries are.ranks top in
    let (e, (ranked-there, le), there) = among-tally entries (λ (e : Entry). IsRanked nodes e × (e.0 ≤ r)) j both (omega (arith, are.once j, one (stores_open (stored_at nodes j)) true opens)) in
    let value : e.0 ≡ rank_of (stored_at nodes j).value ranked-there.1.0 = ranked-there.1.2 ∙ ap (λ k. rank_of (stored_at nodes k).value ranked-there.1.0) there in
    rank-value (stored_at nodes i).value (stored_at nodes j).value d ranked-there.1.0 few ranked-there.1.1 (omega (arith, le, value, is))
  where
    All-both : (es : List Entry) → All (IsRanked nodes) es → All (λ (e : Entry). e.0 ≤ r) es → All (λ (e : Entry). IsRanked nodes e × (e.0 ≤ r)) es
    All-both [] a b = All-nil (λ (e : Entry). IsRanked nodes e × (e.0 ≤ r))
    All-both (x ∷ es) a b =
        All-cons (λ (e : Entry). IsRanked nodes e × (e.0 ≤ r)) x es (All-head (IsRanked nodes) x es a, All-head (λ (e : Entry). e.0 ≤ r) x es b)
        (All-both es (All-tail (IsRanked nodes) x es a) (All-tail (λ (e : Entry). e.0 ≤ r) x es b))
