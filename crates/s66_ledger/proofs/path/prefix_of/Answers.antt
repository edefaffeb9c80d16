use Rattle.std.specs.List.{refill}
use Rattle.std.proofs.Common.{ℕ, List, ◌≡◌, ◌∷◌, ◌++◌, ◌∙◌, [], ap, sym, arith, get_or, length, length-append, reverse, drop, take_all}
use Rattle.std.proofs.lemmas.List.{length-reverse, take-append-le}
use Rattle.s66_ledger.specs.{prefixes, no_stored}
use Rattle.s66_ledger.proofs.NodePrefixes.{prefix-last, prefix-none}
use Rattle.s66_ledger.proofs.path.prefix_of.Goals as goal

pub push-requires : goal.push-requires
push-requires c =
    let l = c.loop-i in
    let (above, is) = prefix-last c.args.nodes.now l.i no_stored c.loop-i-test.true l.invariant.within in
    let number = (get_or c.args.nodes.now l.i no_stored).number in
    (omega arith, omega (arith, c.requires.few, ap length l.invariant.so, length-append (get_or (prefixes c.args.nodes.now) l.i []) (reverse l.prefix.items), length-reverse l.prefix.items, ap length is, length-append above (number ∷ [])))

refill-whole : (xs ws : List ℕ) → length ws ≡ length xs → refill (length xs) xs ws ≡ ws
refill-whole xs ws same = take-append-le (length xs) ws (drop (length ws) xs) (omega (arith, same)) ∙ take_all (length xs) ws (omega (arith, same))

pub returns : goal.returns
returns c =
    let l = c.loop-i in
    let turned : c.reverse.new.self ≡ reverse l.prefix.items = c.reverse.ensures.after ∙ ap reverse c.as_mut_slice.ensures.value in
    let first : l.i ≡ 0 = omega (arith, c.loop-i-test.false) in
    refill-whole l.prefix.items c.reverse.new.self (omega (arith, ap length turned, length-reverse l.prefix.items))
    ∙ (turned
    ∙ sym (l.invariant.so
    ∙ (ap (λ i. get_or (prefixes c.args.nodes.now) i [] ++ reverse l.prefix.items) first
    ∙ ap (λ at. at ++ reverse l.prefix.items) (prefix-none c.args.nodes.now (omega (arith, c.requires.within))))))
