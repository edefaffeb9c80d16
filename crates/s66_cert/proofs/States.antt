-- Which kind of line the reader expects while instructions or trees are still to come.
use Rattle.std.proofs.Common.{◌≡◌, ℕ, suc, List, arith, eqb, ne_eqb}
use Rattle.std.proofs.lemmas.Bool.{cond-false}
use Rattle.s66_cert.specs.{Version, Document, Parts, DocumentState, place_of_instruction, place_of_tree, DocumentPlace, AtInstruction, AtTime, AtTree, AtEnd}

abbrev pub at : Version → ℕ → List Document → DocumentPlace → Parts → ℕ → ℕ → DocumentState
at version count documents place part left splits = record { count = count; documents = documents; place = place; version = version; part = part; left = left; splits = splits }

-- if some are still to come

pub place-instruction : (left : ℕ) → place_of_instruction (suc left) ≡ AtInstruction
place-instruction left = cond-false (eqb (suc left) 0) AtTime AtInstruction (ne_eqb (suc left) 0 (λ e. omega (arith, e)))

pub place-tree : (left : ℕ) → place_of_tree (suc left) ≡ AtTree
place-tree left = cond-false (eqb (suc left) 0) AtEnd AtTree (ne_eqb (suc left) 0 (λ e. omega (arith, e)))
