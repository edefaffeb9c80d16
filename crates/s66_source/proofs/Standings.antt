-- What stands from one line to the next, and what leaves it as it is.
use Rattle.std.specs.Char.{to_ascii_uppercase}
use Rattle.std.specs.List.{prefix_len}
use Rattle.std.proofs.Common.{◌≡◌, ◌==◌, ◌-◌, ◌&&◌, ◌||◌, inl, inr, not, ℕ, zero, suc, min, Bool, true, false, if◌then◌else◌, List, [], ◌∷◌, ◌≤◌, nat_lt, length, drop, get_or, take, codes, refl, sym}
use Rattle.std.proofs.Common.{ap, ap₂, subst, ◌∙◌, arith, ◌⊎◌, bytes_eq, eqb-true, ltb-false, true≢false, length-take, take-take, take_all}
use Rattle.std.proofs.lemmas.Slice.Eq.{bytes_eq-Decides}
use Rattle.std.proofs.lemmas.Bool.{and_parts, or_cases, or_left, or_parts, or_from, false_from_ne_true, not_from_true}
use Rattle.s66_isa.specs.{every, some_of}
use Rattle.s66_line.specs.{class_of, is_code, after_word, body, continues, is_blank, is_comment, is_return, operand, operation, skip_blanks, trim, upper, upper_byte, word, Other}
use Rattle.s66_line.proofs.LineFields.{word-length, word-take}
use Rattle.s66_line.proofs.UpperCase.{length-upper}
use Rattle.s66_source.specs.{count_down, counted_after_one, counted_after_two, counted_alone, counting_text, cover_of, covered_after, is_covering, is_one_of, nothing_covered, range_ends}
use Rattle.s66_source.specs.{repetitions_after, with_cover, after_directive, after_line, directive_cover, with_directive, after_operation, bodies_after, class_at, definitions, has_operation, is_alone}
use Rattle.s66_source.specs.{is_directive, is_held, is_switch, is_off_switch, is_on_switch, is_doubtful, with_operation, Standing, is_comment_class, Cover, Nothing, Covered}
use Rattle.s66_source.proofs.Classes.{class-tells, may_be_code}

-- THE NAMES of operations that cover lines, or begin or end something

abbrev all_names : List (List (List ℕ))
all_names =
    definitions ∷ (codes "ENDM" ∷ []) ∷ range_ends ∷ counted_alone ∷ counted_after_one ∷ counted_after_two ∷ (codes "ECHO" ∷ codes "IFC" ∷ []) ∷ []

abbrev is_named : List ℕ → Bool
is_named name = some_of (λ names. is_one_of names name) all_names

-- a word that fails a test which all of them pass is none of them
none-of : (test : List ℕ → Bool) (names : List (List ℕ)) (word : List ℕ) → test word ≡ false → every test names ≡ true → is_one_of names word ≡ false
none-of test [] word fails all = refl
none-of test (name ∷ names) word fails all =
    let (here, more) = and_parts (test name) (every test names) all in
    or_from (bytes_eq word name) (is_one_of names word)
    (false_from_ne_true (bytes_eq word name) (λ same. absurd (true≢false (sym here ∙ ap test (sym ((bytes_eq-Decides word name).0 same)) ∙ fails))))
    (none-of test names word fails more)

none-in : (test : List ℕ → Bool) (lists : List (List (List ℕ))) (word : List ℕ) → test word ≡ false → every (every test) lists ≡ true → some_of (λ names. is_one_of names word) lists ≡ false
none-in test [] word fails all = refl
none-in test (names ∷ lists) word fails all =
    let (here, more) = and_parts (every test names) (every (every test) lists) all in
    or_from (is_one_of names word) (some_of (λ names. is_one_of names word) lists) (none-of test names word fails here) (none-in test lists word fails more)

bodies-stay : (n : ℕ) (name : List ℕ) → is_one_of definitions name ≡ false → bytes_eq name (codes "ENDM") ≡ false → bodies_after n name ≡ n
bodies-stay zero name begins ends = rw begins refl
bodies-stay (suc n) name begins ends = rw (begins, ends) refl

repetitions-stay : (n : ℕ) (name : List ℕ) → bytes_eq name (codes "ECHO") ≡ false → bytes_eq name (codes "DUP") ≡ false → bytes_eq name (codes "ENDD") ≡ false →
    repetitions_after n name false ≡ n
repetitions-stay zero name echo dup ends = rw echo refl
repetitions-stay (suc n) name echo dup ends = rw (echo, dup, ends) refl

-- what is none of them counts a line down that is covered, and does no more
only-counts : (s : Standing) (name operand : List ℕ) → is_named name ≡ false → after_operation s name operand ≡ record s { cover = count_down s.cover false }
only-counts s name operand none =
    let (begins, from_endm) = or_parts (is_one_of definitions name) _ none in
    let (endm, from_ends) = or_parts (is_one_of (codes "ENDM" ∷ []) name) _ from_endm in
    let (ends, from_alone) = or_parts (is_one_of range_ends name) _ from_ends in
    let (alone, from_one) = or_parts (is_one_of counted_alone name) _ from_alone in
    let (one, from_two) = or_parts (is_one_of counted_after_one name) _ from_one in
    let (two, from_echo) = or_parts (is_one_of counted_after_two name) _ from_two in
    let (last, _) = or_parts (is_one_of (codes "ECHO" ∷ codes "IFC" ∷ []) name) _ from_echo in
    let (echo, from_ifc) = or_parts (bytes_eq name (codes "ECHO")) _ last in
    let (ifc, _) = or_parts (bytes_eq name (codes "IFC")) false from_ifc in
    let ends_body : bytes_eq name (codes "ENDM") ≡ false = (or_parts (bytes_eq name (codes "ENDM")) false endm).0 in
    let nothing : cover_of name operand ≡ Nothing = rw (alone, one, two, echo, ifc) refl in
    let bodies : bodies_after s.bodies name ≡ s.bodies = bodies-stay s.bodies name begins ends_body in
    let dup : bytes_eq name (codes "DUP") ≡ false = (or_parts (bytes_eq name (codes "DUP")) _ one).0 in
    let endd : bytes_eq name (codes "ENDD") ≡ false = (or_parts (bytes_eq name (codes "ENDD")) _ ends).0 in
    let outside : covered_after s.cover name (cover_of name operand) ≡ count_down s.cover false =
    rw (nothing, ends) (ap (λ repetitions. record { lines = s.cover.lines - 1; to_end = s.cover.to_end && not false; repetitions = repetitions }) (repetitions-stay s.cover.repetitions name echo dup endd)) in
    let within : count_down s.cover (is_one_of range_ends name) ≡ count_down s.cover false = ap (count_down s.cover) ends in
    let same : (if s.bodies == 0 then covered_after s.cover name (cover_of name operand) else count_down s.cover (is_one_of range_ends name)) ≡ count_down s.cover false =
    elim (s.bodies == 0) as (λ t. (if t then covered_after s.cover name (cover_of name operand) else count_down s.cover (is_one_of range_ends name)) ≡ count_down s.cover false)
    [ true ↦ outside | false ↦ within ] in
    ap₂ (λ (bodies : ℕ) (cover : Covered). record s { bodies = bodies; cover = cover }) bodies same

-- how they begin, but for those of IF and its kin
abbrev beginnings : List (List ℕ)
beginnings = codes "IDE" ∷ codes "END" ∷ codes "ELS" ∷ codes "ECH" ∷ codes "MAC" ∷ codes "OPD" ∷ codes "SKI" ∷ codes "DUP" ∷ []

abbrev begins_as : ℕ → ℕ → ℕ → Bool
begins_as first second third = bytes_eq (first ∷ second ∷ []) (codes "IF") || is_one_of beginnings (first ∷ second ∷ third ∷ [])

-- a word that begins as one of them
abbrev may_be_named : List ℕ → Bool
may_be_named (first ∷ second ∷ []) = bytes_eq (first ∷ second ∷ []) (codes "IF")
may_be_named (first ∷ second ∷ third ∷ more) = begins_as first second third
may_be_named word = false

-- the first word of these bytes, which begin otherwise
not-named : (first second third : ℕ) (bytes : List ℕ) → begins_as (upper_byte first) (upper_byte second) (upper_byte third) ≡ false →
    may_be_named (upper (word (first ∷ second ∷ third ∷ bytes))) ≡ false
not-named first second third bytes other =
    elim (is_blank first) as (λ t. may_be_named (upper (if t then [] else first ∷ (if is_blank second then [] else second ∷ (if is_blank third then [] else third ∷ word bytes)))) ≡ false) [
      | true ↦ refl
      | false ↦
          elim (is_blank second) as (λ t. may_be_named (upper (first ∷ (if t then [] else second ∷ (if is_blank third then [] else third ∷ word bytes)))) ≡ false) [
            | true ↦ refl
            | false ↦
                elim (is_blank third) as (λ t. may_be_named (upper (first ∷ second ∷ (if t then [] else third ∷ word bytes))) ≡ false)
                [ true ↦ (or_parts (bytes_eq (upper_byte first ∷ upper_byte second ∷ []) (codes "IF")) _ other).0 | false ↦ other ]
          ]
    ]

-- std's word for a letter in upper case
pub upper-ascii : (b : ℕ) → to_ascii_uppercase b ≡ upper_byte b
upper-ascii b = grind arith

-- the first word of bytes that begin otherwise counts a line down, and does no more
pub ordinary : (s : Standing) (bytes operand : List ℕ) → 3 ≤ length bytes → begins_as (to_ascii_uppercase (get_or bytes 0 0)) (upper_byte (get_or bytes 1 0)) (upper_byte (get_or bytes 2 0)) ≡ false →
    after_operation s (upper (word bytes)) operand ≡ record s { cover = count_down s.cover false }
ordinary s (first ∷ second ∷ third ∷ bytes) operand long other =
    let name : List ℕ = upper (word (first ∷ second ∷ third ∷ bytes)) in
    only-counts s name operand (none-in may_be_named all_names name (not-named first second third bytes (rw (upper-ascii first) at other)) refl)
ordinary s few operand long other = absurd (omega (arith, long))

-- what has no letter in lower case is in upper case
pub upper-same : (bytes : List ℕ) → every (λ b. upper_byte b == b) bytes ≡ true → upper bytes ≡ bytes
upper-same [] all = refl
upper-same (b ∷ bytes) all =
    let (here, more) = and_parts (upper_byte b == b) (every (λ b. upper_byte b == b) bytes) all in
    ap₂ (λ c rest. c ∷ rest) (eqb-true (upper_byte b) b here) (upper-same bytes more)

-- NAMES OF INSTRUCTIONS are none of them

-- HOW MANY DEFINITIONS are open grows by one at most

one-more : (n : ℕ) (name : List ℕ) → bodies_after n name ≤ suc n
one-more zero name = elim (is_one_of definitions name) as (λ t. (if t then 1 else 0) ≤ 1) [ true ↦ omega arith | false ↦ omega arith ]
one-more (suc n) name =
    elim (is_one_of definitions name) as (λ t. (if t then suc (suc n) else (if bytes_eq name (codes "ENDM") then n else suc n)) ≤ suc (suc n))
    [ true ↦ omega arith | false ↦ elim (bytes_eq name (codes "ENDM")) as (λ t. (if t then n else suc n) ≤ suc (suc n)) [ true ↦ omega arith | false ↦ omega arith ] ]

directive-bodies : (is : Bool) (s : Standing) (cover : Cover) → (if is then after_directive s cover else s).bodies ≤ suc s.bodies
directive-bodies true s cover = elim (s.bodies == 0) as (λ t. (if t then record s { cover = with_cover s.cover cover } else s).bodies ≤ suc s.bodies) [ true ↦ omega arith | false ↦ omega arith ]
directive-bodies false s cover = omega arith

pub bodies-grow : (cut : Bool) (s : Standing) (line : List ℕ) → (after_line cut s line).bodies ≤ suc s.bodies
bodies-grow cut s line =
    let name : List ℕ = upper (operation (body line)) in
    let operand : List ℕ = upper (counting_text (body line)) in
    elim (cut && has_operation (body line)) as (λ t. (if t then after_operation s name operand else with_directive cut s (body line)).bodies ≤ suc s.bodies)
    [ true ↦ one-more s.bodies name | false ↦ directive-bodies (cut && is_directive (body line)) s (directive_cover (upper (drop 1 (body line)))) ]

-- WHAT THE SOURCE REDEFINES stays

directive-redefined : (is : Bool) (s : Standing) (cover : Cover) → (if is then after_directive s cover else s).redefined ≡ s.redefined
directive-redefined true s cover = elim (s.bodies == 0) as (λ t. (if t then record s { cover = with_cover s.cover cover } else s).redefined ≡ s.redefined) [ true ↦ refl | false ↦ refl ]
directive-redefined false s cover = refl

pub same-redefined : (cut : Bool) (s : Standing) (line : List ℕ) → (after_line cut s line).redefined ≡ s.redefined
same-redefined cut s line =
    elim (cut && has_operation (body line)) as (λ t. (if t then after_operation s (upper (operation (body line))) (upper (counting_text (body line))) else with_directive cut s (body line)).redefined ≡ s.redefined)
    [ true ↦ refl | false ↦ directive-redefined (cut && is_directive (body line)) s (directive_cover (upper (drop 1 (body line)))) ]

-- A LINE OF CODE

pub code-line : (after : Bool) (line : List ℕ) → is_code (class_of after line) ≡ true → (is_comment (body line) ≡ false) × (continues (body line) ≡ false) × (may_be_code (upper (operation (body line))) ≡ true)
code-line after line h = (let code = (class-tells after line).code h in (code.comment, code.comma, code.operation))

none-over : (n : ℕ) → nat_lt 0 n ≡ false → n ≡ 0
none-over n h = let none = ltb-false 0 n h in omega (arith, none)

no-cover : (cover : Covered) → is_covering cover ≡ false → cover ≡ nothing_covered
no-cover cover h =
    let (lines, more) = or_parts (nat_lt 0 cover.lines) _ h in
    let (to_end, repetitions) = or_parts cover.to_end _ more in
    ap₂ (λ (lines : ℕ) (to_end : Bool). record { lines = lines; to_end = to_end; repetitions = cover.repetitions }) (none-over cover.lines lines) to_end
    ∙ ap (λ repetitions. record { lines = 0; to_end = false; repetitions = repetitions }) (none-over cover.repetitions repetitions)

-- a line that is not left alone comes under no definition and no count
record IsPlain (cut : Bool) (s : Standing) (line : List ℕ) : Type 0 where
  on : s.off ≡ false
  no_switch : is_off_switch (body line) ≡ false
  uncovered : cut ≡ true → s.cover ≡ nothing_covered
  no_directive : (cut && is_directive (body line)) ≡ false

undirected : (cut bodies cover continued directive : Bool) → (cut && (bodies || (cover || (continued || directive)))) ≡ false → (cut && directive) ≡ false
undirected true bodies cover continued directive h =
    (or_parts continued directive (or_parts cover _ (or_parts bodies _ h).1).1).1
undirected false bodies cover continued directive h = refl

plain-line : (cut continued : Bool) (s : Standing) (line : List ℕ) → is_alone cut s line continued ≡ false → IsPlain cut s line
plain-line cut continued s line h =
    let cover_on = is_covering s.cover || (continued || is_directive (body line)) in
    let held = nat_lt 0 s.bodies || cover_on in
    let (not_held, _) = or_parts (is_held cut s line continued) (cut && is_doubtful s.redefined (class_of true line) (body line)) h in
    let (on, more) = or_parts s.off (is_off_switch (body line) || (cut && held)) not_held in
    let (no_switch, none) = or_parts (is_off_switch (body line)) (cut && held) more in
    record {
      on = on;
      no_switch = no_switch;
      uncovered = λ cuts.
          let none_held : held ≡ false = subst (λ t. (t && held) ≡ false) cuts none in
          let (_, rest) = or_parts (nat_lt 0 s.bodies) cover_on none_held in
          no-cover s.cover (or_parts (is_covering s.cover) (continued || is_directive (body line)) rest).0;
      no_directive = undirected cut (nat_lt 0 s.bodies) (is_covering s.cover) continued (is_directive (body line)) none;
    }

pub same-off : (on_switch off off_switch : Bool) → off ≡ false → off_switch ≡ false → (if on_switch then false else (off || off_switch)) ≡ off
same-off true off off_switch none no_switch = sym none
same-off false off off_switch none no_switch = rw (none, no_switch) refl

same-open : (s : Standing) (name operand : List ℕ) → may_be_code name ≡ true → s.cover ≡ nothing_covered → after_operation s name operand ≡ s
same-open s name operand code nothing =
    only-counts s name operand (none-in (λ word. not (may_be_code word)) all_names name (not_from_true (may_be_code name) code) refl)
    ∙ ap (λ cover. record s { cover = cover }) (ap (λ cover. count_down cover false) nothing ∙ sym nothing)

same-operation : (cut has : Bool) (s other : Standing) (name operand : List ℕ) → (has ≡ true → may_be_code name ≡ true) → (cut ≡ true → s.cover ≡ nothing_covered) → other ≡ s →
    (if cut && has then after_operation s name operand else other) ≡ s
same-operation false has s other name operand code none same = same
same-operation true false s other name operand code none same = same
same-operation true true s other name operand code none same = same-open s name operand (code refl) (none refl)

-- a line that has no operation but an instruction
stays-plain : (cut : Bool) (s : Standing) (line : List ℕ) → IsPlain cut s line → (has_operation (body line) ≡ true → may_be_code (upper (operation (body line))) ≡ true) → after_line cut s line ≡ s
stays-plain cut s line h code =
    let same : with_operation cut s (body line) ≡ s =
    same-operation cut (has_operation (body line)) s (with_directive cut s (body line)) (upper (operation (body line))) (upper (counting_text (body line))) code h.uncovered
    (ap (λ t. if t then after_directive s (directive_cover (upper (drop 1 (body line)))) else s) h.no_directive) in
    ap₂ (λ (t : Standing) (off : Bool). record t { off = off }) same (same-off (is_on_switch (body line)) s.off (is_off_switch (body line)) h.on h.no_switch)

stays-if : (cut continued after alone : Bool) (s : Standing) (line : List ℕ) → is_alone cut s line continued ≡ alone →
    (is_code (if alone then Other else class_of after line) || is_comment_class (if alone then Other else class_of after line)) ≡ true → after_line cut s line ≡ s
stays-if cut continued after true s line is h = cc
stays-if cut continued after false s line is h =
    stays-plain cut s line (plain-line cut continued s line is) (by_class (or_cases (is_code (class_of after line)) (is_comment_class (class_of after line)) h))
  where
    by_class : (is_code (class_of after line) ≡ true) ⊎ (is_comment_class (class_of after line) ≡ true) → has_operation (body line) ≡ true → may_be_code (upper (operation (body line))) ≡ true
    by_class (inl code) has = let (_, _, in_table) = code-line after line code in in_table
    by_class (inr comment) has = absurd (true≢false (sym has ∙ ap (λ is. not (is || continues (body line))) ((class-tells after line).comment comment)))

-- a line of code or a comment that is not left alone has no switch, and nothing begins or ends at it
pub settled-stays : (cut continued after : Bool) (s : Standing) (line : List ℕ) →
    (is_code (class_at after (record { alone = is_alone cut s line continued; bytes = line })) || is_comment_class (class_at after (record { alone = is_alone cut s line continued; bytes = line }))) ≡ true →
    after_line cut s line ≡ s
settled-stays cut continued after s line h = stays-if cut continued after (is_alone cut s line continued) s line refl h

pub code-stays : (cut continued after : Bool) (s : Standing) (line : List ℕ) →
    is_code (class_at after (record { alone = is_alone cut s line continued; bytes = line })) ≡ true → after_line cut s line ≡ s
code-stays cut continued after s line h = settled-stays cut continued after s line (or_left _ _ h)

-- SWITCHES begin with four bytes

-- the first four bytes of a line that begins with a word of four or more
word-front : (n : ℕ) (line : List ℕ) → n ≤ length (word line) → take n (word line) ≡ take n line
word-front n line long =
    let p : ℕ = prefix_len (λ b. not (is_blank b)) line in
    let is : word line ≡ take p line = word-take line in
    let few : length (word line) ≡ min p (length line) = ap length is ∙ length-take p line in
    ap (take n) is ∙ take-take n p line (omega (arith, long, few))

trim-front : (n : ℕ) (line : List ℕ) → n ≤ length (body line) → take n (body line) ≡ take n line
trim-front zero line long = refl
trim-front (suc n) [] long = refl
trim-front (suc n) (b ∷ line) long =
    (elim (every is_return (b ∷ line)) as (λ t. suc n ≤ length (if t then [] else b ∷ trim is_return line) → take (suc n) (if t then [] else b ∷ trim is_return line) ≡ b ∷ take n line)
    [ true ↦ (λ none. absurd (omega (arith, none))) | false ↦ (λ more. ap (λ l. b ∷ l) (trim-front n line (omega (arith, more)))) ]) long

switch-front : (second line : List ℕ) → is_switch second line ≡ true → (4 ≤ length (word line)) × (bytes_eq (upper (take 4 line)) (codes "*S66") ≡ true)
switch-front second line h =
    let first = (and_parts (bytes_eq (upper (word line)) (codes "*S66")) (bytes_eq (upper (word (skip_blanks (after_word line)))) second) h).0 in
    let is : upper (word line) ≡ codes "*S66" = (bytes_eq-Decides (upper (word line)) (codes "*S66")).0 first in
    let four : length (word line) ≡ 4 = sym (length-upper (word line)) ∙ ap length is in
    let same : word line ≡ take 4 line = sym (take_all 4 (word line) (omega (arith, four))) ∙ word-front 4 line (omega (arith, four)) in
    (omega (arith, four), subst (λ w. bytes_eq (upper w) (codes "*S66") ≡ true) same first)

no-body-switch : (second line : List ℕ) → bytes_eq (upper (take 4 line)) (codes "*S66") ≡ false → is_switch second (body line) ≡ false
no-body-switch second line h =
    false_from_ne_true (is_switch second (body line)) (λ is.
    let (long, front) = switch-front second (body line) is in
    let whole = word-length (body line) in
    absurd (true≢false (sym front ∙ ap (λ l. bytes_eq (upper l) (codes "*S66")) (trim-front 4 line (omega (arith, long, whole))) ∙ h)))

-- WITHOUT `--cut` and outside of switches

-- a line that begins as no switch does isn't left alone
pub outside-alone : (s : Standing) (line : List ℕ) (continued : Bool) → s.off ≡ false → bytes_eq (upper (take 4 line)) (codes "*S66") ≡ false → is_alone false s line continued ≡ false
outside-alone s line continued on plain = rw (on, no-body-switch (codes "OFF") line plain) refl

-- and changes nothing
pub outside-after : (s : Standing) (line : List ℕ) → s.off ≡ false → bytes_eq (upper (take 4 line)) (codes "*S66") ≡ false → after_line false s line ≡ s
outside-after s line on plain =
    ap (λ off. record s { off = off }) (same-off (is_on_switch (body line)) s.off (is_off_switch (body line)) on (no-body-switch (codes "OFF") line plain))
