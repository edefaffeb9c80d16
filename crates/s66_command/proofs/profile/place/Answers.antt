use Rattle.std.proofs.Common.{◌≡◌, rules, tests, bytes_eq, position}
use Rattle.std.proofs.lemmas.Iterator.{YieldsList-from_slice}
use Rattle.std.proofs.lemmas.Iterator.Search.{position_from_yields_List}
use Rattle.s66_command.specs.{NAMES}
use Rattle.s66_command.proofs.profile.place.Goals as goal

-- the code's names are the definition's, by computation
pub returns-clause-value : goal.returns-clause-value
returns-clause-value c =
    let found : c.position.result ≡ position (λ known. bytes_eq known.now c.args.name.now) NAMES = position_from_yields_List (λ known. bytes_eq known.now c.args.name.now) _ _ c.position.result c.position.ensures.ran (YieldsList-from_slice _ c.iter.ensures.rest) (λ x b q k. search (rules, tests)) in
    found
