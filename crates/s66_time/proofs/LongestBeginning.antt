-- The longest legal beginning of a list of numbers.
use Rattle.std.proofs.Common.{ℕ, ◌+◌, ◌≤◌, ◌<◌, ◌≡◌, true, false, List, [], ◌∷◌, ◌++◌, length, get_or, take, drop, sym, subst, ap, arith, append_assoc, inl, inr, ◌∙◌, true≢false, append-nil, take_all}
use Rattle.std.proofs.Common.{take-append-drop, length-append}
use Rattle.std.proofs.lemmas.List.{take_more}
use Rattle.s66_isa.specs.{Instr, BLOCK_LIMIT}
use Rattle.s66_model.specs.{IsLegal, IsFront, IsBeginning, is_ready}
use Rattle.s66_model.proofs.LegalOrders.{GoesOn-append, order-legal}
use Rattle.s66_model.proofs.Beginnings.{front-beginning, beginning-front}
use Rattle.s66_model.proofs.MeaningOfOrders.{legal-meaning}
use Rattle.s66_time.specs.{IsKeptOrder, IsLongestBeginning}

-- it has at most as many numbers as the block
pub front-few : (block : List Instr) (prefix : List ℕ) → IsFront block prefix → length prefix ≤ length block
front-few block prefix (rest, h) = omega (arith, h.whole, length-append prefix rest)

pub beginning-few : (block : List Instr) (prefix : List ℕ) → IsBeginning block prefix → length prefix ≤ length block
beginning-few block prefix h = front-few block prefix (beginning-front block prefix h)

-- what goes on is ready
pub push-ready : (block : List Instr) (prefix : List ℕ) (n : ℕ) → IsFront block (prefix ++ n ∷ []) → is_ready block prefix n ≡ true
push-ready block prefix n h = (GoesOn-append block [] prefix (n ∷ []) (front-beginning block (prefix ++ n ∷ []) h)).1.0

pub not_ready : (block : List Instr) (list : List ℕ) (i d : ℕ) → i < length list → is_ready block (take i list) (get_or list i d) ≡ false → ¬ IsFront block (take (i + 1) list)
not_ready block list i d lt fails h =
    true≢false (sym (push-ready block (take i list) (get_or list i d) (subst (IsFront block) (take_more list i d lt) h)) ∙ fails)

-- the beginning of a front is one
pub front-take : (block : List Instr) (list : List ℕ) (i : ℕ) → IsFront block list → IsFront block (take i list)
front-take block list i (rest, h) =
    (drop i list ++ rest, subst (IsLegal block) (sym (sym (append_assoc (take i list) (drop i list) rest) ∙ ap (λ ns. ns ++ rest) (take-append-drop i list))) h)

-- a list is a front if its longest front is all of it
pub all-front : (block : List Instr) (list : List ℕ) (count : ℕ) → IsLongestBeginning block list count → count ≡ length list → IsFront block list
all-front block list count h all = subst (IsFront block) (take_all count list (omega arith)) h.front

pub front-all : (block : List Instr) (list : List ℕ) (count : ℕ) → IsLongestBeginning block list count → IsFront block list → count ≡ length list
front-all block list count h front = elim h.longest [ inl all ↦ all | inr none ↦ absurd (none (front-take block list (count + 1) front)) ]

-- a legal order is the front of one
pub legal-front : (block : List Instr) (list : List ℕ) → IsLegal block list → IsFront block list
legal-front block list h = ([], subst (IsLegal block) (sym (append-nil list)) h)

-- a legal order's longest front is all of it, and as long as the block
pub legal-all : (block : List Instr) (list : List ℕ) (count : ℕ) → IsLongestBeginning block list count → IsLegal block list → (count ≡ length list) × (count ≡ length block)
legal-all block list count h legal =
    let all = front-all block list count h (legal-front block list legal) in
    (all, all ∙ legal.whole)

-- a front of the block's length is a legal order
pub front-legal : (block : List Instr) (list : List ℕ) → IsFront block list → length list ≡ length block → IsLegal block list
front-legal block list front all = order-legal block list (front-beginning block list front, all)

-- what an order keeps of it
pub legal-kept : (block instrs : List Instr) (list numbers : List ℕ) → instrs ≡ block → numbers ≡ list → length block ≤ BLOCK_LIMIT → IsLegal block list → IsKeptOrder instrs numbers
legal-kept block instrs list numbers same alike few h =
    let legal : IsLegal instrs numbers = subst (λ is. IsLegal is numbers) (sym same) (subst (IsLegal block) (sym alike) h) in
    record { legal = legal; meaning = legal-meaning instrs numbers legal; few = omega (arith, ap length same) }
