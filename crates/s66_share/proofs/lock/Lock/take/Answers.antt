use Rattle.std.proofs.Common.{rules, ◌≡◌, length, ◌∷◌, Some, ap, sym, ◌∙◌, arith}
use Rattle.atomic_table.specs.Table.{rest}
use Rattle.s66_share.specs.{Idle}
use Rattle.s66_share.proofs.Turns.{takes_it}
use Rattle.s66_share.proofs.lock.Lock.take.Goals as goal

pub compare_exchange-requires : goal.compare_exchange-requires
compare_exchange-requires g c =
    let rests = c.loop.invariant.1 ∙ c.requires.resting in
    let is_idle : c.loop.token.me.0.stage ≡ Idle = ap (λ m. m.0.stage) rests in
    let some_book : length c.loop.token.me.0.books ≡ 1 = ap (λ m. length m.0.books) rests in
    (search rules, search rules, takes_it _ _ _ _ _ is_idle (omega arith))

pub exchange-requires : goal.exchange-requires
exchange-requires g c =
    let t = c.compare_exchange.ensures.2.0 c.if-compare_exchange-eq0.true in
    let p = ap (λ m. m.1) t.1 in
    (search rules, (Some t.0, p ∙ sym (ap (λ l. (0, Some t.0) ∷ rest l) p)))
