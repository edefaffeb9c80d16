-- Whether letters are in upper or in lower case doesn't change what is redefined.
use Rattle.std.proofs.Common.{◌≡◌, ◌==◌, ◌||◌, ◌++◌, lit<, ℕ, true, false, cond, if◌then◌else◌, List, [], ◌∷◌, map, take, refl, ap, ap₂, ◌∙◌, filter}
use Rattle.s66_isa.specs.{Instr}
use Rattle.s66_line.specs.{body, is_trailing, location, trim, upper, word, Spells, operand_in, operation_in}
use Rattle.s66_line.proofs.UpperCase.{kept, same-comment, same-continues, same-location, same-operand, same-operation, upper-trim, upper-twice, upper-word}
use Rattle.s66_source.specs.{is_one_of, Redefined, defined_by, defined_name, form_of, forming, is_redefined, own_operation, redefined_in, renaming, is_short}
use Rattle.s66_source.proofs.CharactersRead.{same-operand_in, same-operation_in}
use Rattle.s66_source.proofs.ReadLine.{operand-again, operation-again}

-- OF BYTES that begin with an operation

-- whether they are redefined hangs on their operation and operand alone
pub redefined-by : (known : Redefined) (bytes other : List ℕ) → operation_in bytes ≡ operation_in other → operand_in bytes ≡ operand_in other → is_redefined known bytes ≡ is_redefined known other
redefined-by known bytes other operations operands =
    ap₂ (λ operation operand. is_one_of known.operations operation || is_one_of known.forms (take 2 operation ++ form_of operand)) operations operands

pub redefined-upper : (known : Redefined) (bytes : List ℕ) → is_redefined known (upper bytes) ≡ is_redefined known bytes
redefined-upper known bytes = redefined-by known (upper bytes) bytes (same-operation_in bytes) (same-operand_in bytes)

-- OF A BODY

same-own : (line : List ℕ) → own_operation (upper line) ≡ own_operation line
same-own line = rw (same-comment line, same-continues line, same-operation line) refl

pub same-word : (line : List ℕ) → upper (word (upper line)) ≡ upper (word line)
same-word line = ap upper (upper-word line) ∙ upper-twice (word line)

same-location_in : (line : List ℕ) → upper (location (upper line)) ≡ upper (location line)
same-location_in [] = refl
same-location_in (b ∷ line) =
    ap (λ t. upper (word (if t then upper line else upper (b ∷ line)))) (kept b 32 (lit< tt))
    ∙ elim (b == 32) as (λ t. upper (word (if t then upper line else upper (b ∷ line))) ≡ upper (word (if t then line else b ∷ line)))
    [ true ↦ same-word line | false ↦ same-word (b ∷ line) ]

same-name : (line : List ℕ) → defined_name (upper line) ≡ defined_name line
same-name line = rw (same-own line, same-location line, same-operand line, same-location_in line) refl

-- OF LINES

abbrev defining : List (List ℕ) → List (List ℕ) → List (List ℕ)
defining names bodies = filter (λ line. is_one_of names (own_operation line)) bodies

same-defined : (names lines : List (List ℕ)) → defined_by names (map body (map upper lines)) ≡ defined_by names (map body lines)
same-defined names [] = refl
same-defined names (line ∷ lines) =
    let there : List ℕ = body line in
    let upper_there : List ℕ = body (upper line) in
    let rest : List (List ℕ) = defining names (map body lines) in
    let upper_rest : List (List ℕ) = defining names (map body (map upper lines)) in
    let same = same-defined names lines in
    let own : own_operation upper_there ≡ own_operation there = ap own_operation (upper-trim line) ∙ same-own there in
    let name : defined_name upper_there ≡ defined_name there = ap defined_name (upper-trim line) ∙ same-name there in
    ap (λ operation. map defined_name (cond (is_one_of names operation) (upper_there ∷ upper_rest) upper_rest)) own
    ∙ elim (is_one_of names (own_operation there)) as (λ t. map defined_name (cond t (upper_there ∷ upper_rest) upper_rest) ≡ map defined_name (cond t (there ∷ rest) rest))
    [ true ↦ ap₂ (λ first more. first ∷ more) name same | false ↦ same ]

pub redefined-upper_lines : (lines : List (List ℕ)) → redefined_in (map upper lines) ≡ redefined_in lines
redefined-upper_lines lines = ap₂ (λ operations forms. record { operations = filter is_short operations; forms = forms }) (same-defined renaming lines) (same-defined forming lines)

-- WITHOUT TRAILING BYTES, an instruction is redefined as it was

pub redefined-trim : (known : Redefined) (bytes : List ℕ) (n : Instr) → Spells bytes n → is_redefined known (trim is_trailing bytes) ≡ is_redefined known bytes
redefined-trim known bytes n spells =
    redefined-by known (trim is_trailing bytes) bytes (ap upper (operation-again bytes n spells)) (ap upper (operand-again bytes n spells))
