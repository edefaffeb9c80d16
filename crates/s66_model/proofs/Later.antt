-- The prefix at which a walk over a tree in preorder is determines all that it has still to reach.
use Rattle.std.proofs.Common.{ℕ, zero, suc, ◌+◌, ◌-◌, ◌<◌, ◌≡◌, Bool, true, false, cond, List, [], ◌∷◌, ◌++◌, length, None, Some, refl, sym, ap, arith, inl, append_assoc, ◌∙◌, subst, append-nil}
use Rattle.std.proofs.Common.{filter}
use Rattle.s66_isa.specs.{Instr, rising, Among}
use Rattle.s66_isa.proofs.Lists.{filter-among}
use Rattle.s66_model.specs.{is_ready, ready, ready_above, IsNextReady, children, later}

-- THE NEXT READY NUMBER, looked for from n on

above-step : (block : List Instr) (m : ℕ) → m < length block → rising (length block - m) (suc m) ≡ suc m ∷ rising (length block - suc m) (suc (suc m))
above-step block m h = let e : length block - m ≡ suc (length block - suc m) = omega arith in rw e refl

-- the number above m isn't ready
pub next-skipped : (block : List Instr) (prefix : List ℕ) (m n : ℕ) → m < length block → is_ready block prefix (m + 1) ≡ false → ready_above block prefix m ≡ ready_above block prefix n → ready_above block prefix (m + 1) ≡ ready_above block prefix n
next-skipped block prefix m n within other same =
    let one : m + 1 ≡ suc m = omega arith in
    let fails : is_ready block prefix (suc m) ≡ false = ap (is_ready block prefix) (sym one) ∙ other in
    let step : ready_above block prefix m ≡ ready_above block prefix (suc m) = ap (filter (is_ready block prefix)) (above-step block m within) ∙ rw fails refl in
    rw one (sym step ∙ same)

-- it is ready
pub next-found : (block : List Instr) (prefix : List ℕ) (m n : ℕ) → m < length block → is_ready block prefix (m + 1) ≡ true → ready_above block prefix m ≡ ready_above block prefix n → IsNextReady block prefix n (Some (m + 1))
next-found block prefix m n within is same =
    let one : m + 1 ≡ suc m = omega arith in
    let passes : is_ready block prefix (suc m) ≡ true = ap (is_ready block prefix) (sym one) ∙ is in
    let step : ready_above block prefix m ≡ suc m ∷ ready_above block prefix (suc m) = ap (filter (is_ready block prefix)) (above-step block m within) ∙ rw passes refl in
    rw one (sym same ∙ step)

pub next-ready : (block : List Instr) (prefix : List ℕ) (n m : ℕ) → IsNextReady block prefix n (Some m) → is_ready block prefix m ≡ true
next-ready block prefix n m next =
    (filter-among (is_ready block prefix) m (rising (length block - n) (suc n)) (subst (λ ms. Among m ms) (sym next) (inl refl))).1

-- THE END OF A PATH

later-last : (block : List Instr) (prefix path : List ℕ) (n : ℕ) → later block prefix (path ++ n ∷ []) ≡ children (prefix ++ path) (ready_above block (prefix ++ path) n) ++ later block prefix path
later-last block prefix [] n = rw (append-nil prefix) (sym (append-nil (children prefix (ready_above block prefix n))))
later-last block prefix (p ∷ path) n =
    let same : (prefix ++ p ∷ []) ++ path ≡ prefix ++ p ∷ path = append_assoc prefix (p ∷ []) path in
    ap (λ x. x ++ children prefix (ready_above block prefix p)) (later-last block (prefix ++ p ∷ []) path n)
    ∙ ap (λ t. (children t (ready_above block t n) ++ later block (prefix ++ p ∷ []) path) ++ children prefix (ready_above block prefix p)) same
    ∙ append_assoc (children (prefix ++ p ∷ path) (ready_above block (prefix ++ p ∷ path) n)) (later block (prefix ++ p ∷ []) path) (children prefix (ready_above block prefix p))

-- the next number is in the place of the last
pub replaced : (block : List Instr) (path : List ℕ) (n m : ℕ) → IsNextReady block path n (Some m) → (path ++ m ∷ []) ∷ later block [] (path ++ m ∷ []) ≡ later block [] (path ++ n ∷ [])
replaced block path n m next =
    ap (λ x. (path ++ m ∷ []) ∷ x) (later-last block [] path m)
    ∙ sym (later-last block [] path n ∙ ap (λ x. children path x ++ later block [] path) next)

-- the last number goes
pub dropped : (block : List Instr) (path : List ℕ) (n : ℕ) → IsNextReady block path n None → later block [] (path ++ n ∷ []) ≡ later block [] path
dropped block path n next = later-last block [] path n ∙ ap (λ x. children path x ++ later block [] path) next

-- A SPLIT

first-passes : (test : ℕ → Bool) (count j k n : ℕ) (ns : List ℕ) → j + k ≡ count → filter test (rising j (suc k)) ≡ n ∷ ns → ns ≡ filter test (rising (count - n) (suc n))
first-passes test count zero k n ns e h = absurd (cc)
first-passes test count (suc j) k n ns e h = by (test (suc k)) refl h (λ h. first-passes test count j (suc k) n ns (omega arith) h)
  where
    by : (t : Bool) → test (suc k) ≡ t → cond t (suc k ∷ filter test (rising j (suc (suc k)))) (filter test (rising j (suc (suc k)))) ≡ n ∷ ns → (filter test (rising j (suc (suc k))) ≡ n ∷ ns → ns ≡ filter test (rising (count - n) (suc n))) → ns ≡ filter test (rising (count - n) (suc n))
    by true is h later =
        let first : suc k ≡ n = (cc) in
        let rest : filter test (rising j (suc (suc k))) ≡ ns = (cc) in
        let left : count - suc k ≡ j = omega arith in
        rw (← first) (rw left (sym rest))
    by false is h later = later h

-- of all ready numbers those after the first are above it
pub ready-first : (block : List Instr) (prefix : List ℕ) (n : ℕ) (ns : List ℕ) → ready block prefix ≡ n ∷ ns → ns ≡ ready_above block prefix n
ready-first block prefix n ns first = first-passes (is_ready block prefix) (length block) (length block) 0 n ns (omega arith) first

-- the first child is in hand, and then its siblings come
pub split-first : (block : List Instr) (path : List ℕ) (n : ℕ) (ns : List ℕ) → ready block path ≡ n ∷ ns → (path ++ n ∷ []) ∷ later block [] (path ++ n ∷ []) ≡ children path (n ∷ ns) ++ later block [] path
split-first block path n ns first =
    ap (λ x. (path ++ n ∷ []) ∷ x) (later-last block [] path n) ∙ ap (λ x. (path ++ n ∷ []) ∷ (children path x ++ later block [] path)) (sym (ready-first block path n ns first))
