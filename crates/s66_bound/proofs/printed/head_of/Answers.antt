use Rattle.std.proofs.Common.{ℕ, ◌≡◌, ◌≤◌, ◌<◌, get_or, sym, subst, ap, arith, ◌∙◌, length}
use Rattle.std.proofs.lemmas.List.{drop_all}
use Rattle.s66_isa.specs.{greatest, has, index_of, numbers_in, no_set}
use Rattle.s66_model.specs.{row_at, uses, longest_tail}
use Rattle.s66_model.proofs.LateRegisters.{has-late}
use Rattle.s66_model.proofs.HeadByRegisters.{done_for, head-by-registers}
use Rattle.s66_time.specs.{problem_of}
use Rattle.s66_bound.proofs.Heads.{greatest-drop, done-used, done-unused}
use Rattle.s66_bound.proofs.printed.head_of.Goals.{then-has, else-has}
use Rattle.s66_bound.proofs.printed.head_of.Goals as goal

pub rank-rank-requires : goal.rank-rank-requires
rank-rank-requires c =
    let b = problem_of c.args.clock.now in
    let (low, high) = c.requires.number in
    record { known = (longest_tail b, length b.block, c.requires.tables.ranking, low, high) }

pub loop-register-preserved : goal.loop-register-preserved
loop-register-preserved c =
    let t = c.args.clock.now in
    let b = problem_of t in
    let n : ℕ = c.args.number in
    let x = c.register-item.result in
    let (low, high) = c.requires.number in
    let users = c.args.tables.now.users_by_rank in
    let items = c.args.tables.now.written.items in
    let same : c.as_slice-register-items.result.now ≡ items = c.as_slice-register-items.ensures.value in
    let within : c.loop-register.register-index < length items = subst (λ xs. c.loop-register.register-index < length xs) same c.loop-register-test.true in
    let here : x ≡ get_or items c.loop-register.register-index x = c.register-item.is ∙ ap (λ xs. get_or xs c.loop-register.register-index x) same in
    let step = greatest-drop (done_for b t.numbers n) items c.loop-register.register-index x within in
    let item : done_for b t.numbers n (get_or items c.loop-register.register-index x) ≡ done_for b t.numbers n x = ap (done_for b t.numbers n) (sym here) in
    let known : c.has.result ≡ uses (row_at b n) x =
    c.has.ensures
    ∙ (ap (λ i. has c.rank-rank.result (numbers_in (get_or users i no_set))) c.index.ensures.value
    ∙ (ap (λ r. has r (numbers_in (get_or users (index_of x) no_set))) (c.rank-rank.ensures.value (longest_tail b) (length b.block) c.requires.tables.ranking high)
    ∙ (c.requires.tables.users x c.index.ensures.digit).each n low high)) in
    elim c.if-has.branch [
      | then-has w ↦ omega (arith, c.loop-register.invariant, step, item, done-used b t.numbers n x (sym known ∙ w.if-has.true), w.done_of.ensures, w.max-head.ensures, w.head-is)
      | else-has w ↦ omega (arith, c.loop-register.invariant, step, item, done-unused b t.numbers n x (sym known ∙ w.if-has.false), w.head-is)
    ]

pub returns : goal.returns
returns c =
    let t = c.args.clock.now in
    let b = problem_of t in
    let n : ℕ = c.args.number in
    let items = c.args.tables.now.written.items in
    let done : length items ≤ c.loop-register.register-index = subst (λ xs. length xs ≤ c.loop-register.register-index) c.as_slice-register-items.ensures.value c.loop-register-test.false in
    omega (arith, c.loop-register.invariant, ap (greatest (done_for b t.numbers n)) (drop_all c.loop-register.register-index items done), head-by-registers b t.numbers n items (has-late b t.numbers items c.requires.tables.written c.requires.begins))
