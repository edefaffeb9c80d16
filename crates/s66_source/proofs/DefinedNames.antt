-- The names that a source defines anew, line by line.
use Rattle.std.specs.Char.{to_ascii_uppercase}
use Rattle.std.proofs.Common.{◌≡◌, ◌≤◌, ◌<◌, ◌==◌, ◌||◌, ◌++◌, ℕ, zero, suc, true, false, cond, List, [], ◌∷◌, codes, length, map, refl, sym, ap, ap₂, ◌∙◌, arith, append_assoc, lit<, take, le-leb}
use Rattle.std.proofs.Common.{get_or, true≢false, subst, eq-eqb, filter, bytes_eq, eqb-true, append-nil}
use Rattle.std.proofs.lemmas.List.Elements.{filter-append}
use Rattle.std.proofs.lemmas.Bool.{false_from_ne_true, lt-leb, or_parts, or_from}
use Rattle.std.proofs.lemmas.Slice.Eq.{bytes_eq-Decides}
use Rattle.s66_line.specs.{body, continues, is_comment, lines_from, location, operand, operation, upper, upper_byte}
use Rattle.s66_line.proofs.UpperCase.{kept, length-upper, upper-if}
use Rattle.s66_source.specs.{before_byte, is_one_of, Redefined, defined_by, defined_name, forming, macros, own_operation, renaming, is_short, with_bodies, with_lines, begins_so, one_begins_so}
use Rattle.s66_source.proofs.Standings.{upper-ascii}

-- NAMES

-- std's word for a text in upper case
pub upper-letters : (bytes : List ℕ) → map to_ascii_uppercase bytes ≡ upper bytes
upper-letters [] = refl
upper-letters (b ∷ bytes) = ap₂ (λ c rest. c ∷ rest) (upper-ascii b) (upper-letters bytes)

pub upper-before : (bytes : List ℕ) → upper (before_byte 44 bytes) ≡ before_byte 44 (upper bytes)
upper-before [] = refl
upper-before (b ∷ bytes) = rw (upper-if (b == 44) [] (b ∷ before_byte 44 bytes), kept b 44 (lit< tt), upper-before bytes) refl

pub named-macro : (line operation : List ℕ) → own_operation line ≡ operation → is_one_of macros operation ≡ true → (length (location line) == 0) ≡ true →
    defined_name line ≡ before_byte 44 (upper (operand line))
named-macro line operation own is_macro empty =
    let none : length (location line) ≡ 0 = eqb-true (length (location line)) 0 empty in
    rw (own, is_macro, none) refl

-- WORDS OF ANOTHER LENGTH are no operation that defines

shorter : (word name : List ℕ) → length word < length name → bytes_eq word name ≡ false
shorter word name short = false_from_ne_true (bytes_eq word name) (λ same. (let e = ap length ((bytes_eq-Decides word name).0 same) in omega (arith, short, e)))

-- as the operations of instructions and pads are
abbrev pub AreLong : List (List ℕ) → Type 0
AreLong names = (word : List ℕ) → length word ≤ 3 → is_one_of names word ≡ false

pub renaming-long : AreLong renaming
renaming-long word few =
    rw (shorter word (codes "MACRO") (omega (arith, few)), shorter word (codes "MACROE") (omega (arith, few)), shorter word (codes "OPSYN") (omega (arith, few)), shorter word (codes "CPSYN") (omega (arith, few))) refl

pub forming-long : AreLong forming
forming-long word few = rw (shorter word (codes "OPDEF") (omega (arith, few))) refl

longer : (word name : List ℕ) → length name < length word → bytes_eq word name ≡ false
longer word name long = false_from_ne_true (bytes_eq word name) (λ same. (let e = ap length ((bytes_eq-Decides word name).0 same) in omega (arith, long, e)))

pub long-renaming : (word : List ℕ) → 6 < length word → is_one_of renaming (upper word) ≡ false
long-renaming word long =
    let u : List ℕ = upper word in
    let same = length-upper word in
    rw (longer u (codes "MACRO") (omega (arith, long, same)), longer u (codes "MACROE") (omega (arith, long, same)), longer u (codes "OPSYN") (omega (arith, long, same)), longer u (codes "CPSYN") (omega (arith, long, same))) refl

pub long-forming : (word : List ℕ) → 6 < length word → is_one_of forming (upper word) ≡ false
long-forming word long = let same = length-upper word in rw (longer (upper word) (codes "OPDEF") (omega (arith, long, same))) refl

-- THE OPERATION in front of bytes

pub upper-take : (count : ℕ) (bytes : List ℕ) → upper (take count bytes) ≡ take count (upper bytes)
upper-take zero bytes = refl
upper-take (suc count) [] = refl
upper-take (suc count) (b ∷ bytes) = ap (λ rest. upper_byte b ∷ rest) (upper-take count bytes)

-- WHAT BODIES ADD

pub nothing-more : (names : List (List ℕ)) (line : List ℕ) → is_one_of names (own_operation line) ≡ false → defined_by names (line ∷ []) ≡ []
nothing-more names line none = rw none refl

-- a body that defines nothing
pub adds-nothing : (known : Redefined) (line : List ℕ) → is_one_of renaming (own_operation line) ≡ false → is_one_of forming (own_operation line) ≡ false →
    with_bodies known (line ∷ []) ≡ known
adds-nothing known line no_operation no_form =
    ap₂ (λ operations forms. record { operations = known.operations ++ filter is_short operations; forms = known.forms ++ forms }) (nothing-more renaming line no_operation) (nothing-more forming line no_form)
    ∙ ap₂ (λ operations forms. record { operations = operations; forms = forms }) (append-nil known.operations) (append-nil known.forms)

own-operation : (line : List ℕ) → (is_comment line || continues line) ≡ false → own_operation line ≡ upper (operation line)
own-operation line own = rw own refl

pub long-adds-nothing : (known : Redefined) (line : List ℕ) → (is_comment line || continues line) ≡ false → 6 < length (operation line) → with_bodies known (line ∷ []) ≡ known
long-adds-nothing known line own long =
    let is = own-operation line own in
    adds-nothing known line (ap (is_one_of renaming) is ∙ long-renaming (operation line) long) (ap (is_one_of forming) is ∙ long-forming (operation line) long)

pub defined_by-append : (names : List (List ℕ)) (bodies more : List (List ℕ)) → defined_by names (bodies ++ more) ≡ defined_by names bodies ++ defined_by names more
defined_by-append names [] more = refl
defined_by-append names (line ∷ bodies) more =
    elim (is_one_of names (own_operation line)) as (λ t.
    map defined_name (cond t (line ∷ filter (λ line. is_one_of names (own_operation line)) (bodies ++ more)) (filter (λ line. is_one_of names (own_operation line)) (bodies ++ more)))
    ≡ map defined_name (cond t (line ∷ filter (λ line. is_one_of names (own_operation line)) bodies) (filter (λ line. is_one_of names (own_operation line)) bodies)) ++ defined_by names more)
    [ true ↦ ap (λ rest. defined_name line ∷ rest) (defined_by-append names bodies more) | false ↦ defined_by-append names bodies more ]

-- one name, long or short
pub no-short : (name : List ℕ) → 3 < length name → filter is_short (upper name ∷ []) ≡ []
no-short name long = let same = length-upper name in ap (λ t. cond t (upper name ∷ []) []) (lt-leb (length (upper name)) 3 (omega (arith, same, long)))

pub one-short : (name : List ℕ) → length name ≤ 3 → filter is_short (upper name ∷ []) ≡ upper name ∷ []
one-short name short = let same = length-upper name in ap (λ t. cond t (upper name ∷ []) []) (le-leb (length (upper name)) 3 (omega (arith, same, short)))

-- first these, and then those
pub with_bodies-append : (known : Redefined) (bodies more : List (List ℕ)) → with_bodies (with_bodies known bodies) more ≡ with_bodies known (bodies ++ more)
with_bodies-append known bodies more =
    ap₂ (λ operations forms. record { operations = operations; forms = forms })
    (append_assoc known.operations (filter is_short (defined_by renaming bodies)) (filter is_short (defined_by renaming more))
    ∙ ap (λ names. known.operations ++ names) (sym (filter-append is_short (defined_by renaming bodies) (defined_by renaming more)) ∙ ap (filter is_short) (sym (defined_by-append renaming bodies more))))
    (append_assoc known.forms (defined_by forming bodies) (defined_by forming more) ∙ ap (λ names. known.forms ++ names) (sym (defined_by-append forming bodies more)))

pub next-line : (known after : Redefined) (text line rest : List ℕ) → lines_from [] text ≡ line ∷ lines_from [] rest → after ≡ with_bodies known (body line ∷ []) →
    with_lines after (lines_from [] rest) ≡ with_lines known (lines_from [] text)
next-line known after text line rest is made =
    ap (λ k. with_lines k (lines_from [] rest)) made ∙ with_bodies-append known (body line ∷ []) (map body (lines_from [] rest)) ∙ sym (ap (with_lines known) is)

-- WHAT BEGINS OTHERWISE than each of some names is none of them

other-name : (first second : ℕ) (name rest : List ℕ) → begins_so first second name ≡ false → bytes_eq (first ∷ second ∷ rest) name ≡ false
other-name first second [] rest h = refl
other-name first second (a ∷ []) rest h = false_from_ne_true (bytes_eq (first ∷ second ∷ rest) (a ∷ [])) (λ same. (let e = ap length ((bytes_eq-Decides (first ∷ second ∷ rest) (a ∷ [])).0 same) in omega (arith, e)))
other-name first second (a ∷ b ∷ name) rest h =
    false_from_ne_true (bytes_eq (first ∷ second ∷ rest) (a ∷ b ∷ name)) (λ same. true≢false (sym (begins-as first second a b rest name ((bytes_eq-Decides (first ∷ second ∷ rest) (a ∷ b ∷ name)).0 same)) ∙ h))
  where
    begins-as : (first second a b : ℕ) (rest name : List ℕ) → first ∷ second ∷ rest ≡ a ∷ b ∷ name → begins_so first second (a ∷ b ∷ name) ≡ true
    begins-as first second a b rest name e = subst (λ bytes. begins_so first second bytes ≡ true) e (rw (eq-eqb first first refl, eq-eqb second second refl) refl)

pub none-so : (first second : ℕ) (names : List (List ℕ)) (rest : List ℕ) → one_begins_so first second names ≡ false → is_one_of names (first ∷ second ∷ rest) ≡ false
none-so first second [] rest h = refl
none-so first second (name ∷ names) rest h =
    let (here, more) = or_parts (begins_so first second name) (one_begins_so first second names) h in
    or_from (bytes_eq (first ∷ second ∷ rest) name) (is_one_of names (first ∷ second ∷ rest)) (other-name first second name rest here) (none-so first second names rest more)

-- by the two letters of an operation
pub no-form : (names : List (List ℕ)) (operation operand : List ℕ) → 2 ≤ length operation → one_begins_so (to_ascii_uppercase (get_or operation 0 0)) (to_ascii_uppercase (get_or operation 1 0)) names ≡ false →
    is_one_of names (take 2 (upper operation) ++ operand) ≡ false
no-form names (a ∷ b ∷ rest) operand long h = none-so (upper_byte a) (upper_byte b) names operand (ap₂ (λ first second. one_begins_so first second names) (sym (upper-ascii a)) (sym (upper-ascii b)) ∙ h)
no-form names few operand long h = absurd (omega (arith, long))
