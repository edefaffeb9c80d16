use Rattle.std.proofs.Common.{◌≡◌, ◌++◌, ◌∷◌, take}
use Rattle.json.specs.Print.{escape}
use Rattle.s66_views.specs.{characters}
use Rattle.s66_views.proofs.json_lines.string.push_string.Given as goal

abbrev pub invariant-loop-byte : goal.invariant-loop-byte
invariant-loop-byte l = l.out.items ≡ l.fn.out.items ++ (34 ∷ escape (characters (take l.byte-index l.text)))
