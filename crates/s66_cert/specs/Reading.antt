-- Used by contracts: a text of documents read line by line. A block has at most limit instructions, and a tree most splits.
use Rattle.std.specs.Prelude.{◌+◌, ◌-◌, ◌==◌, ◌&&◌, ◌||◌, if◌then◌else◌, ℕ, suc, Bool, true, false, not, List, [], ◌∷◌, ◌++◌, Option, None, Some, is_some, Result, Ok, Err, nat_le, nat_lt, length}
use Rattle.std.specs.Prelude.{option_map}
use Rattle.s66_isa.specs.{BLOCK_LIMIT}
use Rattle.s66_model.specs.{NoneNamed, Vertex, AtTerminal, AtSplit, Ending, Bounding, Dominated, Factual, has_dominated_line}
use Rattle.s66_moments.specs.{FactStep, is_of_supposition}
use Rattle.s66_cert.specs.Documents.{Document, names_nodes}
use Rattle.s66_cert.specs.Lines.{DocumentLine, Header, Profile, Block, Instruction, Time, Bound, Order, OfFact, OfTree, End, line_read}
use Rattle.s66_cert.specs.DocumentParts.{Parts, document_of}
use Rattle.s66_cert.specs.declared.version.Version.{Version}
use Rattle.s66_cert.specs.declared.version.Version.TheVariants.{BoundsAlone}
use Rattle.s66_cert.specs.Versions.{has_suppositions, version_rule, has_facts, may_suppose}
use Rattle.s66_cert.specs.declared.limits.TheConstants.{SPLIT_LIMIT, FACT_LIMIT}
use Rattle.s66_cert.specs.declared.error.CertError.{CertError}
use Rattle.s66_cert.specs.declared.error.CertError.TheVariants.{BadLine, Truncated, TooManyNodes}
use Rattle.s66_cert.specs.declared.document_place.DocumentPlace.{DocumentPlace}
use Rattle.s66_cert.specs.declared.document_place.DocumentPlace.TheVariants.{AtHeader, AtProfile, AtBlock, AtInstruction, AtTime, AtBound, AtOrder, AtTree, AtEnd}

-- WHAT WAS READ

-- nothing of a document
abbrev pub nothing : Parts
nothing = record { rule = NoneNamed; facts = None; profile = []; block = []; time = 0; bound = 0; numbers = []; vertices = [] }

-- no fact lines yet, if there may be some
abbrev pub first_facts : Bool → Option (List FactStep)
first_facts true = Some []
first_facts false = None

-- nothing but a version
abbrev pub headed : Version → Parts
headed version = record nothing { rule = version_rule version; facts = first_facts (has_facts version) }

pub record DocumentState : Type 0 where
  -- how many lines were read
  pub count : ℕ
  -- the whole documents
  pub documents : List Document
  -- which line comes next, the version of this document, and what its lines said
  pub place : DocumentPlace
  pub version : Version
  pub part : Parts
  -- how many instructions, or trees, are still to come
  pub left : ℕ
  pub splits : ℕ

abbrev pub first_state : DocumentState
first_state = record { count = 0; documents = []; place = AtHeader; version = BoundsAlone; part = nothing; left = 0; splits = 0 }

-- ONE LINE

abbrev pub bad : DocumentState → Result DocumentState CertError
bad s = Err (BadLine (suc s.count))

abbrev pub advanced : DocumentState → DocumentPlace → Parts → ℕ → ℕ → Result DocumentState CertError
advanced s place part left splits = Ok (record { count = suc s.count; documents = s.documents; place = place; version = s.version; part = part; left = left; splits = splits })

abbrev pub place_of_instruction : ℕ → DocumentPlace
place_of_instruction left = if left == 0 then AtTime else AtInstruction

abbrev pub place_of_tree : ℕ → DocumentPlace
place_of_tree left = if left == 0 then AtEnd else AtTree

abbrev pub with_vertex : Parts → Vertex Ending → Parts
with_vertex p vertex = record p { vertices = p.vertices ++ vertex ∷ [] }

-- dominated leaves come by a rule that names nodes, and without fact lines
abbrev pub may_dominate : Parts → Bool
may_dominate p = names_nodes p.rule && not (is_some p.facts)

-- by whether dominated leaves come, and those that come with fact lines
abbrev pub is_allowed : (dominated factual : Bool) → Vertex Ending → Bool
is_allowed dominated factual (AtTerminal (Bounding leaf)) = true
is_allowed dominated factual (AtTerminal (Dominated name)) = dominated
is_allowed dominated factual (AtTerminal (Factual leaf)) = factual
is_allowed dominated factual (AtSplit numbers) = true

abbrev pub is_leaf_of : Parts → Vertex Ending → Bool
is_leaf_of p vertex = is_allowed (may_dominate p) (is_some p.facts) vertex

abbrev pub vertex_step : ℕ → DocumentState → Vertex Ending → Result DocumentState CertError
vertex_step most s (AtTerminal ending) =
    if is_leaf_of s.part (AtTerminal ending) then advanced s (place_of_tree (s.left - 1)) (with_vertex s.part (AtTerminal ending)) (s.left - 1) s.splits
    else bad s
vertex_step most s (AtSplit numbers) =
    if nat_le most s.splits then Err TooManyNodes
    else advanced s (place_of_tree (s.left - 1 + length numbers)) (with_vertex s.part (AtSplit numbers)) (s.left - 1 + length numbers) (suc s.splits)

-- fact lines come before the tree, and there are fewer than FACT_LIMIT
abbrev pub has_room : Option (List FactStep) → Bool
has_room None = false
has_room (Some steps) = nat_lt (length steps) FACT_LIMIT

abbrev pub takes_fact : Parts → Bool
takes_fact p = length p.vertices == 0 && has_room p.facts

-- suppositions come in their version alone
abbrev pub is_step_of : Version → FactStep → Bool
is_step_of version step = may_suppose version || not (is_of_supposition step)

abbrev pub takes_step : Version → Parts → FactStep → Bool
takes_step version p step = takes_fact p && is_step_of version step

abbrev pub with_fact : Parts → FactStep → Parts
with_fact p step = record p { facts = option_map (λ steps. steps ++ step ∷ []) p.facts }

abbrev pub fact_step : DocumentState → FactStep → Result DocumentState CertError
fact_step s step =
    if takes_step s.version s.part step then advanced s AtTree (with_fact s.part step) s.left s.splits else bad s

-- dominated leaves come, and there is none
abbrev pub wants_dominated : Parts → Bool
wants_dominated p = may_dominate p && not (has_dominated_line p.vertices)

-- suppositions come, and there is none
abbrev pub wants_supposition : Version → Parts → Bool
wants_supposition version p = may_suppose version && not (has_suppositions p.facts)

-- what its version requires is missing
abbrev pub is_wanting : Version → Parts → Bool
is_wanting version p = wants_dominated p || wants_supposition version p

abbrev pub end_step : DocumentState → Result DocumentState CertError
end_step s =
    if is_wanting s.version s.part then bad s
    else Ok (record { count = suc s.count; documents = s.documents ++ document_of s.part ∷ []; place = AtHeader; version = BoundsAlone; part = nothing; left = 0; splits = 0 })

-- the line that comes at this place, and what it makes; any other is bad
abbrev pub step_at : ℕ → DocumentState → DocumentPlace → DocumentLine → Result DocumentState CertError
step_at most s AtHeader (Header version) = advanced (record s { version = version }) AtProfile (headed version) 0 0
step_at most s AtProfile (Profile numbers) = advanced s AtBlock (record s.part { profile = numbers }) 0 0
step_at most s AtBlock (Block count) = advanced s AtInstruction (record s.part { block = [] }) count 0
step_at most s AtInstruction (Instruction text) = advanced s (place_of_instruction (s.left - 1)) (record s.part { block = s.part.block ++ text ∷ [] }) (s.left - 1) 0
step_at most s AtTime (Time time) = advanced s AtBound (record s.part { time = time }) 0 0
step_at most s AtBound (Bound bound) = advanced s AtOrder (record s.part { bound = bound }) 0 0
step_at most s AtOrder (Order numbers) = advanced s AtTree (record s.part { facts = first_facts (is_some s.part.facts); numbers = numbers; vertices = [] }) 1 0
step_at most s AtTree (OfFact step) = fact_step s step
step_at most s AtTree (OfTree vertex) = vertex_step most s vertex
step_at most s AtEnd End = end_step s
step_at most s place line = bad s

abbrev pub step_if : ℕ → DocumentState → Option DocumentLine → Result DocumentState CertError
step_if most s None = bad s
step_if most s (Some line) = step_at most s s.place line

abbrev pub step : ℕ → ℕ → DocumentState → List ℕ → Result DocumentState CertError
step limit most s bytes = step_if most s (line_read limit bytes)

-- ALL LINES

abbrev pub and_then : {A B : Type 0} → Result A CertError → (A → Result B CertError) → Result B CertError
and_then (Ok x) f = f x
and_then (Err e) f = Err e

abbrev pub steps : ℕ → ℕ → DocumentState → List (List ℕ) → Result DocumentState CertError
steps limit most s [] = Ok s
steps limit most s (line ∷ lines) = and_then (step limit most s line) (λ t. steps limit most t lines)

-- the lines of a text that end with a newline; line begins the first
abbrev pub whole_lines : List ℕ → List ℕ → List (List ℕ)
whole_lines line [] = []
whole_lines line (b ∷ bytes) = if b == 10 then line ∷ whole_lines [] bytes else whole_lines (line ++ b ∷ []) bytes

-- what comes after them
abbrev pub last_bytes : List ℕ → List ℕ → List ℕ
last_bytes line [] = line
last_bytes line (b ∷ bytes) = if b == 10 then last_bytes [] bytes else last_bytes (line ++ b ∷ []) bytes

abbrev pub is_header : DocumentPlace → Bool
is_header AtHeader = true
is_header AtProfile = false
is_header AtBlock = false
is_header AtInstruction = false
is_header AtTime = false
is_header AtBound = false
is_header AtOrder = false
is_header AtTree = false
is_header AtEnd = false

abbrev pub ended : List ℕ → DocumentState → Result (List Document) CertError
ended rest s = if is_header s.place && (length rest == 0) then Ok s.documents else Err Truncated

-- the documents of a text, or its first fault
abbrev pub read_within : ℕ → ℕ → List ℕ → Result (List Document) CertError
read_within limit most text = and_then (steps limit most first_state (whole_lines [] text)) (ended (last_bytes [] text))

abbrev pub read_of : List ℕ → Result (List Document) CertError
read_of text = read_within BLOCK_LIMIT SPLIT_LIMIT text
