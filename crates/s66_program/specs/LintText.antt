-- To be believed: what `lint` writes for a source, which may be any text, and how it ends.
use Rattle.std.specs.Prelude.{ℕ, ◌≡◌, Bool, true, false, List, [], ◌∷◌, is_err}
use Rattle.s66_source.specs.{Reading, source_of}
use Rattle.s66_lint.specs.{IsFindings}
use Rattle.s66_answer.specs.{Status, Done, Denied, Listed}

-- denied if some line is refused, done if nothing is stated
abbrev pub lint_status : (refused : Bool) (text : List ℕ) → Status
lint_status true text = Denied
lint_status false [] = Done
lint_status false (b ∷ text) = Listed

-- lines of findings in the order of the source's lines, with `--cut` of those alone that it doesn't leave alone, and a status by
-- whether the source is then refused; 5 if it is, else 0 if the text is empty, else 8
abbrev pub IsLintOutput : (source : Reading) (text : List ℕ) → Status → Type 0
IsLintOutput source text status = IsFindings source text × (status ≡ lint_status (is_err (source_of source)) text)
