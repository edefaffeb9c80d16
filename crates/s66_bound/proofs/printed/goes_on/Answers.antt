use Rattle.std.proofs.Common.{ℕ, ◌+◌, ◌-◌, ◌≡◌, Bool, true, ◌&&◌, not, eqb, ltb, arith, get_or, refl, sym, ◌∙◌, eq-eqb, ne_eqb, lt-ltb, le-ltb}
use Rattle.std.proofs.lemmas.Bool.{and_left, and_right, and_from, not_from_true, not_from_false}
use Rattle.s66_model.specs.{Problem, row_at, tail, link, is_linked, longest_tail}
use Rattle.s66_model.proofs.TailTable.{link-small, tail-fits}
use Rattle.s66_bound.proofs.CostOfNumber.{cost-of}
use Rattle.s66_bound.proofs.printed.goes_on.Goals.{then-from-longest-via-then-from-longest, then-from-longest-via-else-from-longest+then-other-number}
use Rattle.s66_bound.proofs.printed.goes_on.Goals as goal

pub overflow_add-result : goal.overflow_add-result
overflow_add-result c =
    let (b, costs, tables) = c.requires.known in
    let (low, high, other_low, other_high) = c.requires.numbers in
    let linked = c.link-link.ensures _ _ (cost-of b c.args.costs.now c.args.number _ costs low high c.index-costs-number.is) (cost-of b c.args.costs.now c.args.other _ costs other_low other_high c.index-costs-other.is) in
    omega (arith, linked, link-small b c.args.number c.args.other, tables.longest c.args.other other_low (omega (arith, other_high, costs.count)), tail-fits b c.args.other (omega (arith, costs.count, c.requires.few)))

-- the walk from n ends with its tail
abbrev ends : Problem → ℕ → Bool
ends b n = eqb (tail (row_at b n)) (longest_tail b n)

-- m keeps it as long
abbrev keeps : Problem → ℕ → ℕ → Bool
keeps b n m = eqb (link (row_at b n) (row_at b m) + longest_tail b m) (longest_tail b n)

pub returns-then-from-longest : goal.returns-then-from-longest
returns-then-from-longest c = λ b costs tables.
    let n : ℕ = c.args.number in
    let m : ℕ = c.args.other in
    let (low, high, other_low, other_high) = c.requires.numbers in
    let from = cost-of b c.args.costs.now n _ costs low high c.index-costs-number.is in
    let own = tables.longest n low (omega (arith, high, costs.count)) in
    elim c.then-from-longest.branch [
      | then-from-longest-via-then-from-longest w ↦
          sym (and_left (not (ends b n)) (is_linked b n m && keeps b n m) (not_from_true (ends b n) (eq-eqb (tail (row_at b n)) (longest_tail b n) (sym from.tail ∙ (w.if-from-longest.true ∙ own)))))
      | then-from-longest-via-else-from-longest+then-other-number w ↦
          sym (and_right (not (ends b n)) (is_linked b n m && keeps b n m) (and_left (is_linked b n m) (keeps b n m) (and_left (ltb n m) (ltb 0 (link (row_at b n) (row_at b m))) (le-ltb n m w.if-other-number.true))))
    ]

last-counts : (x y z : Bool) → x ≡ true → y ≡ true → z ≡ (x && (y && z))
last-counts x y z first second = rw (first, second) refl

pub returns-then-link-gt0 : goal.returns-then-link-gt0
returns-then-link-gt0 c = λ b costs tables.
    let n : ℕ = c.args.number in
    let m : ℕ = c.args.other in
    let (low, high, other_low, other_high) = c.requires.numbers in
    let from = cost-of b c.args.costs.now n _ costs low high c.index-costs-number.is in
    let to = cost-of b c.args.costs.now m _ costs other_low other_high c.index-costs-other.is in
    let own = tables.longest n low (omega (arith, high, costs.count)) in
    let others = tables.longest m other_low (omega (arith, other_high, costs.count)) in
    let linked = c.link-link.ensures (row_at b n) (row_at b m) from to in
    let same : eqb (c.link-link.result + get_or c.args.tables.now.longest (m - 1) 0) (get_or c.args.tables.now.longest (n - 1) 0) ≡ keeps b n m = rw (linked, others, own) refl in
    same
    ∙ last-counts (not (ends b n)) (is_linked b n m) (keeps b n m)
    (not_from_false (ends b n) (ne_eqb (tail (row_at b n)) (longest_tail b n) (λ is. c.if-from-longest.false (from.tail ∙ (is ∙ sym own)))))
    (and_from (ltb n m) (ltb 0 (link (row_at b n) (row_at b m))) (lt-ltb n m (omega (arith, c.if-other-number.false))) (lt-ltb 0 (link (row_at b n) (row_at b m)) (omega (arith, linked, c.if-link-gt0.true))))

pub returns-else-link-gt0 : goal.returns-else-link-gt0
returns-else-link-gt0 c = λ b costs tables.
    let n : ℕ = c.args.number in
    let m : ℕ = c.args.other in
    let (low, high, other_low, other_high) = c.requires.numbers in
    let linked = c.link-link.ensures _ _ (cost-of b c.args.costs.now n _ costs low high c.index-costs-number.is) (cost-of b c.args.costs.now m _ costs other_low other_high c.index-costs-other.is) in
    le-ltb 0 c.link-link.result (omega (arith, c.if-link-gt0.false))
    ∙ sym (and_right (not (ends b n)) (is_linked b n m && keeps b n m) (and_left (is_linked b n m) (keeps b n m) (and_right (ltb n m) (ltb 0 (link (row_at b n) (row_at b m))) (le-ltb 0 (link (row_at b n) (row_at b m)) (omega (arith, linked, c.if-link-gt0.false))))))
