use Rattle.std.proofs.Common.{arith, ap, ◌∙◌, ◌-◌, get_or, map, sym, subst, true, ◌≡◌, ℕ, List}
use Rattle.s66_isa.specs.{Profile, Row, row, instr_at, kind_of, copies_of}
use Rattle.s66_isa.specs.Table.{Instr}
use Rattle.s66_model.specs.{is_ready}
use Rattle.s66_model.proofs.LegalOrders.{ready-parts}
use Rattle.s66_line.specs.{instrs_of}
use Rattle.s66_time.specs.Ticking.{Ticking}
use Rattle.s66_time.specs.{numbers_of}
use Rattle.s66_time.proofs.RowsOfBlock.{row-at, row-kind}
use Rattle.s66_time.proofs.Clocks.{clock-words, clock-turn, room-left, pushed-clock}
use Rattle.s66_time.proofs.clock.Clock.push.Goals as goal

ready-inside : (t u : Ticking) (n : ℕ) → t ≡ u → is_ready (instrs_of u.block) u.numbers n ≡ true → is_ready (instrs_of t.block) t.numbers n ≡ true
ready-inside t u n same ready = subst (λ (v : Ticking). is_ready (instrs_of v.block) v.numbers n ≡ true) (sym same) ready

row-ready : (p : Profile) (block : List Instr) (ns : List ℕ) (rows : List Row) (n : ℕ) (r : Row) → is_ready block ns n ≡ true → rows ≡ map (row p) block → r ≡ get_or rows (n - 1) r → r ≡ row p (instr_at block n)
row-ready p block ns rows n r ready each is =
    let parts = ready-parts block ns n ready in
    row-at p block rows (n - 1) n r each is (omega (arith, parts.0)) (omega (arith, parts.0, parts.1))

pub push-requires : goal.push-requires
push-requires c =
    let ready = ready-inside _ _ c.args.n c.self.view_is c.requires in
    let parts = ready-parts (instrs_of c.self.inside.block.now) (numbers_of c.self.inside.steps) c.args.n ready in
    record {
      room = omega (arith, room-left _ _ _ c.args.n c.self.invariant.clock ready);
      copies = c.at-copies.ensures.value ∙ c.self.invariant.counted c.row.inside.kind ∙ ap (λ (x : Row). copies_of c.self.inside.profile x.kind) c.row.view_is;
      some = (c.at-copies.ensures.at_least, c.at-copies.ensures.at_most);
      number = (parts.0, omega (arith, parts.1, c.self.invariant.clock.few));
      follows = (_, clock-words _ _ _ c.self.invariant.clock, clock-turn _ _ _ c.self.invariant.clock);
    }

pub invariant_of-self : goal.invariant_of-self
invariant_of-self c =
    let ready = ready-inside _ _ c.args.n c.self.view_is c.requires in
    let row = row-ready c.self.inside.profile (instrs_of c.self.inside.block.now) (numbers_of c.self.inside.steps) _ c.args.n c.index-deref-n.result ready c.self.invariant.each (c.index-deref-n.is ∙ ap (λ xs. get_or xs (c.args.n - 1) c.index-deref-n.result) c.deref.ensures.0) in
    let (step, joined, number, back) = c.push.ensures.step in
    rw joined (record {
      clock = pushed-clock _ _ c.push.new.words _ step c.args.n c.index-deref-n.result c.self.invariant.clock ready number row back c.push.ensures.words;
      counted = c.self.invariant.counted;
      kept = c.self.invariant.kept;
      each = c.self.invariant.each;
      digits = c.self.invariant.digits;
    })

pub returns-clause-looks : goal.returns-clause-looks
returns-clause-looks c =
    let p = c.self.inside.profile in
    let block = instrs_of c.self.inside.block.now in
    let ready = ready-inside _ _ c.args.n c.self.view_is c.requires in
    let row = row-ready p block (numbers_of c.self.inside.steps) _ c.args.n c.index-deref-n.result ready c.self.invariant.each (c.index-deref-n.is ∙ ap (λ xs. get_or xs (c.args.n - 1) c.index-deref-n.result) c.deref.ensures.0) in
    let kind : c.at-copies.result ≡ copies_of p (kind_of (instr_at block c.args.n).op.code) =
    c.at-copies.ensures.value ∙ c.self.invariant.counted c.row.inside.kind ∙ ap (λ (x : Row). copies_of p x.kind) (c.row.view_is ∙ row) ∙ ap (copies_of p) (row-kind p (instr_at block c.args.n)) in
    let seen = ap (λ (t : Ticking). copies_of t.profile (kind_of (instr_at (instrs_of t.block) c.args.n).op.code)) c.self.view_is in
    omega (arith, kind, seen, c.words.ensures)
