use Rattle.std.specs.Cmp.{both_ways}
use Rattle.std.proofs.Common.{ℕ, ◌≡◌, ◌≤◌, ◌-◌, ◌↔◌, Bool, true, false, IsTrue, List, [], length, get_or, refl, sym, ap, subst, arith, ◌∙◌}
use Rattle.std.proofs.lemmas.List.{length-map}
use Rattle.s66_isa.specs.{has, every, numbers, numbers_in}
use Rattle.s66_isa.proofs.Lists.{every-each, each-every, has-among, among-has}
use Rattle.s66_model.specs.{needs, all_needs, is_ready}
use Rattle.s66_model.proofs.Beginnings.{length-rising}
use Rattle.s66_line.specs.{instrs_of}
use Rattle.s66_time.proofs.Readiness.{is_free, is_free-ready, is_ready-same}
use Rattle.s66_node.specs.Walked.{Walked}
use Rattle.s66_node.proofs.walk.Walk.is_ready.Goals as goal

placed-free : (all : List (List ℕ)) (placed : List ℕ) (n : ℕ) → has n placed ≡ true → is_free all placed n ≡ false
placed-free all placed n is = rw is refl

unplaced-free : (all : List (List ℕ)) (placed : List ℕ) (n : ℕ) (met : Bool) → has n placed ≡ false → (IsTrue met ↔ ((m : ℕ) → has m (get_or all (n - 1) []) ≡ true → has m placed ≡ true)) → is_free all placed n ≡ met
unplaced-free all placed n met new tells =
    let needed = get_or all (n - 1) [] in
    rw new (both_ways (every (λ m. has m placed) needed) met
    (λ each. tells.1 (λ m is. every-each (λ m. has m placed) m needed each (has-among m needed is)))
    (λ is. each-every (λ m. has m placed) needed (λ m among. tells.0 is m (among-has m needed among))))

free-inside : (x w : Walked) (placed : List ℕ) (n : ℕ) → x ≡ w → ((m : ℕ) → has m placed ≡ has m x.numbers) → 1 ≤ n → n ≤ length x.problem.block → is_free (all_needs x.problem.block) placed n ≡ is_ready w.problem.block w.numbers n
free-inside x w placed n same pushed low high =
    is_free-ready x.problem.block placed n low high ∙ is_ready-same x.problem.block placed x.numbers n pushed ∙ ap (λ (y : Walked). is_ready y.problem.block y.numbers n) same

pub needs-requires : goal.needs-requires
needs-requires c =
    let block = instrs_of c.self.inside.clock.block in
    (omega (arith, c.if-n-eq0.false), omega (arith, c.if-count-n.false, c.count.ensures.value, ap (λ block. length (instrs_of block)) c.block.ensures, ap (λ (x : Walked). length x.problem.block) c.self.view_is, ap (λ (ns : List (List ℕ)). length ns) (c.dependences.ensures ∙ c.self.invariant.needs), length-map (numbers block) (needs block), length-rising (length block) 1))

pub returns-then-has : goal.returns-then-has
returns-then-has c =
    let placed = numbers_in c.pushed-pushed.result in
    let n : ℕ = c.args.n in
    sym (placed-free (all_needs (instrs_of c.self.inside.clock.block)) placed n (sym c.has.ensures ∙ c.if-has.true))
    ∙ free-inside _ _ placed n c.self.view_is c.pushed-pushed.ensures.value (omega (arith, c.if-n-eq0.false))
    (omega (arith, c.if-count-n.false, c.count.ensures.value, ap (λ block. length (instrs_of block)) c.block.ensures, ap (λ (x : Walked). length x.problem.block) c.self.view_is))

pub returns : goal.returns
returns c =
    let placed = numbers_in c.pushed-pushed.result in
    let n : ℕ = c.args.n in
    let needed = c.needs.ensures ∙ ap (λ (ns : List (List ℕ)). get_or ns (n - 1) []) (c.dependences.ensures ∙ c.self.invariant.needs) in
    sym (unplaced-free (all_needs (instrs_of c.self.inside.clock.block)) placed n c.is_within.result (sym c.has.ensures ∙ c.if-has.false)
    (subst (λ ns. IsTrue c.is_within.result ↔ ((m : ℕ) → has m ns ≡ true → has m placed ≡ true)) needed c.is_within.ensures))
    ∙ free-inside _ _ placed n c.self.view_is c.pushed-pushed.ensures.value (omega (arith, c.if-n-eq0.false))
    (omega (arith, c.if-count-n.false, c.count.ensures.value, ap (λ block. length (instrs_of block)) c.block.ensures, ap (λ (x : Walked). length x.problem.block) c.self.view_is))
