-- The compact text of a JSON value, as `serde_json` has it, is that of the pieces that are appended, one after the other.
use Rattle.std.specs.Fmt.{digits}
use Rattle.std.proofs.Common.{ℕ, ◌≡◌, ◌==◌, ◌∙◌, Bool, true, false, List, [], ◌∷◌, ◌++◌, ap, ap₂, append_assoc, codes, decimal, length, refl, sym}
use Rattle.json.specs.Print.{escape_byte}
use Rattle.serde_json.specs.Data.{Data, null, boolean, Items, no_items, item, Members, no_members, member}
use Rattle.serde_json.specs.Written.{comma_if, compact_text, items_text, members_text}
use Rattle.s66_isa.specs.{Profile, Row, Write, numbers}
use Rattle.s66_isa.specs.Table.{Reg}
use Rattle.s66_model.specs.{needs, Point, ResultAt, latest_result, total_of}
use Rattle.s66_command.specs.{changes, name_at, Change}
use Rattle.s66_line.specs.{Block, instrs_of, line_of, whole_text_of}
use Rattle.s66_time.specs.TimedOrder.{TimedOrder}
use Rattle.s66_why.specs.{Stretch, added, path, stretches, stretches_at}
use Rattle.s66_views.specs.{block_data, change_members, profile_members, fillers_in, found_data, instruction_data, items_of, json_line, list_of, num, order_members, parcels_in, point_data, points}
use Rattle.s66_views.specs.{points_items, register_data, result_data, result_register, row_of, wait_data, written_data, json_bound_text, changes_listed, profile_member_text, json_cause_text, conflict_text, head_text}
use Rattle.s66_views.specs.{json_instruction_text, json_instructions_text, is_some, label_text, json_lines_text, list_text, json_listed, lists_text, lost_of, lost_text, memory_text, name_of_block, name_text, needs_text}
use Rattle.s66_views.specs.{numbers_text, operands_text, path_text, place_text, point_text, points_text, json_register_text, registers_text, result_text, results_text, size_text, sort_text, source_text}
use Rattle.s66_views.specs.{start_text, steps_text, string_text, timed_text, json_times_text, truth_text, unit_text, wait_start, wait_text, waits_text, work_text, write_text, writes_text}
use Rattle.s66_views.specs.Pieces.{order_text}

-- PIECES OF PIECES

pub two : (x m y r : List ℕ) → (x ++ (m ++ y)) ++ r ≡ x ++ (m ++ (y ++ r))
two x m y r = append_assoc x (m ++ y) r ∙ ap (λ t. x ++ t) (append_assoc m y r)

pub three : (x m y n z r : List ℕ) → (x ++ (m ++ (y ++ (n ++ z)))) ++ r ≡ x ++ (m ++ (y ++ (n ++ (z ++ r))))
three x m y n z r = two x m (y ++ (n ++ z)) r ∙ ap (λ t. x ++ (m ++ t)) (two y n z r)

-- LISTS

pub listed-items : {X : Type 0} (value : X → Data) (text : X → List ℕ) → ((x : X) → compact_text (value x) ≡ text x) → (later : Bool) (xs : List X) →
    items_text later (items_of value xs) ≡ json_listed text later xs
listed-items value text same later [] = refl
listed-items value text same later (x ∷ xs) = ap₂ (λ t u. comma_if later ++ (t ++ u)) (same x) (listed-items value text same true xs)

pub list-text : {X : Type 0} (value : X → Data) (text : X → List ℕ) → ((x : X) → compact_text (value x) ≡ text x) → (xs : List X) → compact_text (list_of value xs) ≡ list_text text xs
list-text value text same xs = ap (λ t. codes "[" ++ t) (listed-items value text same false xs)

pub numbers-text : (ns : List ℕ) → compact_text (list_of num ns) ≡ numbers_text ns
unfolding numbers_text
numbers-text ns = list-text num decimal (λ n. refl) ns

pub registers-text : (rs : List Reg) → compact_text (list_of register_data rs) ≡ registers_text rs
unfolding registers_text json_register_text
registers-text rs = list-text register_data json_register_text (λ r. refl) rs

pub writes-text : (ws : List Write) → compact_text (list_of result_register ws) ≡ writes_text ws
unfolding writes_text json_register_text
writes-text ws = list-text result_register write_text (λ w. refl) ws

-- AN ORDER

pub wait-text : (x : Stretch) → compact_text (wait_data x) ≡ wait_text x
unfolding wait_text wait_start json_cause_text conflict_text sort_text name_text escape_byte
wait-text x =
    let cause = x.holder.cause in
    let by = codes ",\"by\":" ++ (decimal x.holder.number ++ codes "}") in
    let whole : List ℕ → List ℕ =
    λ t. codes "{\"conflict\":" ++ (conflict_text x.conflict ++ (codes ",\"from\":" ++ (decimal x.from ++ (codes ",\"to\":" ++ (decimal x.to ++ t))))) in
    sym
    (ap (λ t. codes "{\"conflict\":" ++ t) (three (conflict_text x.conflict) (codes ",\"from\":") (decimal x.from) (codes ",\"to\":") (decimal x.to) (json_cause_text cause ++ by))
    ∙ ap (λ t. whole (codes ",\"for\":" ++ t)) (two (sort_text cause) (codes ",\"name\":") (name_text cause) by))

pub result-text : (d : ResultAt) → compact_text (result_data d) ≡ result_text d
unfolding result_text json_register_text escape_byte
result-text d = refl

pub point-text : (s : List Point) (p : Point) → compact_text (point_data s p) ≡ point_text p (stretches_at s p)
unfolding point_text place_text json_times_text lists_text results_text waits_text escape_byte
point-text s p =
    let place : List ℕ → List ℕ =
    λ t. codes "{\"n\":" ++ (decimal p.number ++ (codes ",\"parcel\":" ++ (decimal p.parcel ++ (codes ",\"issue\":" ++ (decimal p.issue ++ t))))) in
    let times : List ℕ → List ℕ =
    λ t. codes ",\"start\":" ++ (decimal p.start ++ (codes ",\"done\":" ++ (decimal (latest_result p) ++ (codes ",\"free\":" ++ (decimal p.free ++ t))))) in
    let lists : List ℕ → List ℕ → List ℕ = λ r w. codes ",\"results\":" ++ (r ++ (codes ",\"waits\":" ++ (w ++ codes "}"))) in
    let rest = lists_text p (stretches_at s p) in
    ap₂ (λ r w. place (times (lists r w))) (list-text result_data result_text result-text p.results) (list-text wait_data wait_text wait-text (stretches_at s p))
    ∙ sym
    (ap (λ t. codes "{\"n\":" ++ t) (three (decimal p.number) (codes ",\"parcel\":") (decimal p.parcel) (codes ",\"issue\":") (decimal p.issue) (json_times_text p ++ rest))
    ∙ ap (λ t. place (codes ",\"start\":" ++ t)) (three (decimal p.start) (codes ",\"done\":") (decimal (latest_result p)) (codes ",\"free\":") (decimal p.free) rest))

pub points-items : (s : List Point) (more : Items) → items_text false (points_items s more) ≡ points_text s ++ items_text (is_some s) more
points-items [] more = refl
points-items (p ∷ s) more =
    points-items s (item (point_data s p) more) ∙ ap (λ t. points_text s ++ (comma_if (is_some s) ++ (t ++ items_text true more))) (point-text s p)
    ∙ sym (two (points_text s) (comma_if (is_some s)) (point_text p (stretches_at s p)) (items_text true more))

pub order-text : (t : TimedOrder) (more : Members) → codes "{" ++ members_text false (order_members t more) ≡ timed_text t ++ members_text true more
unfolding timed_text order_text path_text steps_text lost_text escape_byte
order-text t more =
    let s : List Point = points t in
    let rest = members_text true more in
    let time = decimal (total_of t.problem t.numbers) in
    let filled = decimal (fillers_in t) in
    let own = numbers_text t.numbers in
    let way = numbers_text (path s) in
    let adds = numbers_text (added s) in
    let ends = lost_of (stretches s) ++ rest in
    let head = order_text (total_of t.problem t.numbers) (fillers_in t) t.numbers in
    let start : List ℕ → List ℕ = λ u. codes "{\"time\":" ++ (time ++ (codes ",\"no\":" ++ (filled ++ (codes ",\"order\":" ++ u)))) in
    let after : List ℕ → List ℕ → List ℕ = λ c d. codes ",\"path\":" ++ (c ++ (codes ",\"steps\":" ++ (d ++ ends))) in
    let whole : List ℕ → List ℕ → List ℕ → List ℕ = λ a b u. start (a ++ (codes ",\"at\":[" ++ (b ++ u))) in
    let listed_points : items_text false (points_items s no_items) ≡ points_text s ++ codes "]" = points-items s no_items in
    ap (λ a. whole a (items_text false (points_items s no_items)) (after (compact_text (list_of num (path s))) (compact_text (list_of num (added s))))) (numbers-text t.numbers)
    ∙ ap (λ b. whole own b (after (compact_text (list_of num (path s))) (compact_text (list_of num (added s))))) listed_points
    ∙ ap₂ (λ c d. whole own (points_text s ++ codes "]") (after c d)) (numbers-text (path s)) (numbers-text (added s))
    ∙ ap (λ u. start (own ++ (codes ",\"at\":[" ++ u))) (append_assoc (points_text s) (codes "]") (after way adds))
    ∙ sym
    (append_assoc head (points_text s ++ (path_text (path s) ++ (steps_text (added s) ++ lost_of (stretches s)))) rest
    ∙ ap (λ u. head ++ u) (two (points_text s) (path_text (path s)) (steps_text (added s) ++ lost_of (stretches s)) rest)
    ∙ ap (λ u. head ++ (points_text s ++ (path_text (path s) ++ u))) (append_assoc (steps_text (added s)) (lost_of (stretches s)) rest)
    ∙ ap (λ u. codes "{\"time\":" ++ u) (three time (codes ",\"no\":") filled (codes ",\"order\":") (own ++ codes ",\"at\":[") (points_text s ++ (path_text (path s) ++ (steps_text (added s) ++ ends))))
    ∙ ap start (append_assoc own (codes ",\"at\":[") (points_text s ++ (path_text (path s) ++ (steps_text (added s) ++ ends)))))

pub written-text : (t : TimedOrder) → compact_text (written_data t) ≡ timed_text t ++ codes "}"
written-text t = order-text t no_members

truth-text : (b : Bool) → compact_text (boolean b) ≡ truth_text b
truth-text true = refl
truth-text false = refl

pub found-text : (t : TimedOrder) (bound splits : ℕ) →
    compact_text (found_data t bound splits) ≡ timed_text t ++ (json_bound_text bound splits (bound == total_of t.problem t.numbers) ++ codes "}")
unfolding json_bound_text escape_byte
found-text t bound splits =
    let best = bound == total_of t.problem t.numbers in
    let whole : List ℕ → List ℕ = λ u. timed_text t ++ (codes ",\"bound\":" ++ (decimal bound ++ (codes ",\"best\":" ++ (u ++ (codes ",\"splits\":" ++ (decimal splits ++ codes "}")))))) in
    order-text t (member (codes "bound") (num bound) (member (codes "best") (boolean best) (member (codes "splits") (num splits) no_members)))
    ∙ ap whole (truth-text best)
    ∙ sym (ap (λ u. timed_text t ++ (codes ",\"bound\":" ++ u)) (three (decimal bound) (codes ",\"best\":") (truth_text best) (codes ",\"splits\":") (decimal splits) (codes "}")))

-- INSTRUCTIONS

pub instruction-text : (p : Profile) (block : Block) (n : ℕ) → compact_text (instruction_data p block n) ≡ json_instruction_text p block n
unfolding json_instruction_text source_text work_text operands_text needs_text string_text unit_text memory_text escape_byte
instruction-text p block n =
    let r : Row = row_of p block n in
    let after = needs (instrs_of block) n in
    let source : List ℕ → List ℕ =
    λ t. codes "{\"n\":" ++ (decimal n ++ (codes ",\"line\":" ++ (decimal (line_of block n) ++ (codes ",\"text\":" ++ (string_text (whole_text_of block n) ++ t))))) in
    let work : List ℕ → List ℕ =
    λ t. codes ",\"unit\":" ++ (unit_text r.kind ++ (codes ",\"parcels\":" ++ (decimal r.parcels ++ (codes ",\"works\":" ++ (decimal r.hold ++ t))))) in
    let operands : List ℕ → List ℕ → List ℕ → List ℕ = λ reads writes t. codes ",\"reads\":" ++ (reads ++ (codes ",\"writes\":" ++ (writes ++ t))) in
    let last : List ℕ → List ℕ = λ ns. codes ",\"memory\":" ++ (memory_text r.memory ++ (codes ",\"after\":" ++ (ns ++ codes "}"))) in
    let rest = needs_text r after in
    ap₂ (λ reads writes. source (work (operands reads writes (last (compact_text (list_of num after)))))) (registers-text r.reads) (writes-text r.writes)
    ∙ ap (λ ns. source (work (operands (registers_text r.reads) (writes_text r.writes) (last ns)))) (numbers-text after)
    ∙ sym
    (ap (λ t. codes "{\"n\":" ++ t) (three (decimal n) (codes ",\"line\":") (decimal (line_of block n)) (codes ",\"text\":") (string_text (whole_text_of block n)) (work_text r ++ (operands_text r ++ rest)))
    ∙ ap (λ t. source (codes ",\"unit\":" ++ t)) (three (unit_text r.kind) (codes ",\"parcels\":") (decimal r.parcels) (codes ",\"works\":") (decimal r.hold) (operands_text r ++ rest))
    ∙ ap (λ t. source (work (codes ",\"reads\":" ++ t))) (two (registers_text r.reads) (codes ",\"writes\":") (writes_text r.writes) rest))

-- A BLOCK

change-members : (later : Bool) (cs : List Change) → members_text later (change_members cs) ≡ changes_listed later cs
unfolding string_text
change-members later [] = refl
change-members later (c ∷ cs) = ap (λ t. comma_if later ++ (string_text (name_at c.place) ++ (codes ":" ++ (decimal c.value ++ t)))) (change-members true cs)

profile-members : (cs : List Change) (more : Members) → members_text true (profile_members cs more) ≡ profile_member_text cs ++ members_text true more
unfolding escape_byte
profile-members [] more = refl
profile-members (c ∷ cs) more = ap (λ t. codes ",\"profile\":{" ++ (t ++ members_text true more)) (change-members false (c ∷ cs))

pub block-text : (n : ℕ) (entry : List ℕ) (block : Block) (t : TimedOrder) (found : Data) →
    compact_text (block_data n entry block t found) ≡ start_text n entry block t ++ (compact_text found ++ codes "}")
unfolding start_text head_text name_of_block json_lines_text size_text json_instructions_text label_text digits escape_byte
block-text n entry block t found =
    let rest = compact_text found ++ codes "}" in
    let ns = numbers (instrs_of block) in
    let p = t.problem.profile in
    let first = decimal (line_of block 1) in
    let last = decimal (line_of block (length (instrs_of block))) in
    let count = decimal (length (instrs_of block)) in
    let parcels = decimal (parcels_in (instrs_of block)) in
    let profile = profile_member_text (changes p) in
    let all = list_text (json_instruction_text p block) ns in
    let name : List ℕ → List ℕ =
    λ u. codes "{\"schema\":1,\"block\":" ++ (decimal n ++ (codes ",\"label\":" ++ (label_text block.label ++ (codes ",\"entry\":" ++ (label_text entry ++ u))))) in
    let lines : List ℕ → List ℕ = λ u. codes ",\"line\":" ++ (first ++ (codes ",\"last_line\":" ++ (last ++ u))) in
    let size : List ℕ → List ℕ = λ u. codes ",\"count\":" ++ (count ++ (codes ",\"parcels\":" ++ (parcels ++ u))) in
    let orders : List ℕ → List ℕ → List ℕ = λ a w. codes ",\"instructions\":" ++ (a ++ (codes ",\"written\":" ++ (w ++ (codes ",\"found\":" ++ rest)))) in
    let ending = codes ",\"written\":" ++ (timed_text t ++ codes "},\"found\":") in
    let following = json_instructions_text p block ++ ending in
    let more : Members =
    member (codes "instructions") (list_of (instruction_data p block) ns) (member (codes "written") (written_data t) (member (codes "found") found no_members)) in
    ap (λ u. name (lines (size u))) (profile-members (changes p) more)
    ∙ ap₂ (λ a w. name (lines (size (profile ++ orders a w)))) (list-text (instruction_data p block) (json_instruction_text p block) (instruction-text p block) ns) (written-text t)
    ∙ ap (λ w. name (lines (size (profile ++ (codes ",\"instructions\":" ++ (all ++ (codes ",\"written\":" ++ w))))))) (append_assoc (timed_text t) (codes "}") (codes ",\"found\":" ++ rest))
    ∙ sym
    (append_assoc (head_text n entry p block) following rest
    ∙ two (name_of_block n block.label entry) (json_lines_text block) (size_text block ++ profile) (following ++ rest)
    ∙ ap (λ u. name_of_block n block.label entry ++ (json_lines_text block ++ u)) (append_assoc (size_text block) profile (following ++ rest))
    ∙ ap (λ u. codes "{\"schema\":1,\"block\":" ++ u) (three (decimal n) (codes ",\"label\":") (label_text block.label) (codes ",\"entry\":") (label_text entry) (json_lines_text block ++ (size_text block ++ (profile ++ (following ++ rest)))))
    ∙ ap (λ u. name (codes ",\"line\":" ++ u)) (two first (codes ",\"last_line\":") last (size_text block ++ (profile ++ (following ++ rest))))
    ∙ ap (λ u. name (lines (codes ",\"count\":" ++ u))) (two count (codes ",\"parcels\":") parcels (profile ++ (following ++ rest)))
    ∙ ap (λ u. name (lines (size (profile ++ u)))) (append_assoc (json_instructions_text p block) ending rest)
    ∙ ap (λ u. name (lines (size (profile ++ (codes ",\"instructions\":" ++ (all ++ (codes ",\"written\":" ++ u))))))) (append_assoc (timed_text t) (codes "},\"found\":") rest))

-- LINES

pub written-line : (n : ℕ) (entry : List ℕ) (block : Block) (t : TimedOrder) → json_line n entry block t null ≡ start_text n entry block t ++ codes "null}\n"
written-line n entry block t = ap (λ u. u ++ codes "\n") (block-text n entry block t null) ∙ append_assoc (start_text n entry block t) (codes "null}") (codes "\n")

pub found-line : (n : ℕ) (entry : List ℕ) (block : Block) (t f : TimedOrder) (bound splits : ℕ) →
    json_line n entry block t (found_data f bound splits) ≡ start_text n entry block t ++ (timed_text f ++ (json_bound_text bound splits (bound == total_of f.problem f.numbers) ++ codes "}}\n"))
found-line n entry block t f bound splits =
    let start = start_text n entry block t in
    let found = compact_text (found_data f bound splits) in
    let bounds = json_bound_text bound splits (bound == total_of f.problem f.numbers) in
    ap (λ u. u ++ codes "\n") (block-text n entry block t (found_data f bound splits)) ∙ append_assoc start (found ++ codes "}") (codes "\n")
    ∙ ap (λ u. start ++ u) (append_assoc found (codes "}") (codes "\n") ∙ ap (λ u. u ++ codes "}\n") (found-text f bound splits) ∙ two (timed_text f) bounds (codes "}") (codes "}\n"))
