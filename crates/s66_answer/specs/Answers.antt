-- To be believed: what is answered for a block: what a search of its orders finds, or with `--deep` what is shown by facts that all orders below a bound have in common.
use Rattle.std.specs.Prelude.{ℕ, ◌+◌, ◌*◌, ◌≡◌, ◌≤◌, ◌⊎◌, if◌then◌else◌, false, true, List, [], ◌∷◌, map, Option, None, Some, is_some}
use Rattle.s66_isa.specs.{BLOCK_LIMIT, Profile, entries, numbers}
use Rattle.s66_model.specs.{Options, Rule, NoneNamed, ClampedStanding, source_time, Ending, IsLegal, Problem, total_of, Tree, splits}
use Rattle.s66_model.specs.Answer as search
use Rattle.s66_command.specs.{Strategy}
use Rattle.s66_moments.specs.{FactStep}
use Rattle.s66_line.specs.{instrs_of, text_of, Block}
use Rattle.s66_cert.specs.{Document, IsDocument, has_dominated}
use Rattle.s66_checker.specs.{Yes, verdict}

-- an order, what it takes, what every order takes at least, how often orders were split to find that, in all searches, and what shows
-- the bound: fact lines, if there are any, and a tree
pub record Answer : Type 0 where
  pub order : List ℕ
  pub time : ℕ
  pub bound : ℕ
  pub splits : ℕ
  pub facts : Option (List FactStep)
  pub tree : Tree Ending

-- a block's orders under a profile
abbrev pub problem_of : Profile → Block → Problem
problem_of p block = record { block = instrs_of block; profile = p }

-- CERTIFICATES

-- the text of each instruction of a block
abbrev pub texts_of : Block → List (List ℕ)
texts_of block = map (text_of block) (numbers (instrs_of block))

-- a document needs the rule by which leaves are dominated if one is, or if it has fact lines
abbrev pub rule_of : Rule → Option (List FactStep) → Tree Ending → Rule
rule_of rule None tree = if has_dominated tree then rule else NoneNamed
rule_of rule (Some steps) tree = ClampedStanding

-- what an answer, whose dominated leaves are by this rule, claims of a block under a profile
abbrev pub document_under : Rule → Profile → Block → Answer → Document
document_under rule p block a =
    record { rule = rule_of rule a.facts a.tree; facts = a.facts; profile = entries p; block = texts_of block; time = a.time; bound = a.bound; numbers = a.order; tree = a.tree }

-- BY A SEARCH

-- what is found, without fact lines
abbrev pub searched : search.Answer → Answer
searched found = record { order = found.order; time = found.time; bound = found.bound; splits = found.splits; facts = None; tree = found.tree }

-- all splits that were made, where the search itself made so many: without `--deep` there is no other, and with it others made at most
-- two and a half times as many as a search may make
abbrev pub AreAllSplits : Strategy → (own all : ℕ) → Type 0
AreAllSplits strategy own all = (own ≤ all) × (2 * all ≤ 2 * own + 5 * strategy.search.nodes) × (strategy.deep ≡ false → all ≡ own)

-- it is what a search with these options answers, without fact lines, and with the splits of all searches
abbrev pub IsSearchAnswer : Strategy → Problem → Answer → Type 0
IsSearchAnswer strategy b a =
    (found : search.Answer) × search.IsAnswer strategy.search.rule b strategy.search.nodes found × (a ≡ record (searched found) { splits = a.splits }) × AreAllSplits strategy found.splits a.splits

-- BY FACTS

-- it is best, and its tree has no more splits than a search may have, or it is no worse than some answer of a search of so many splits
abbrev pub IsEnough : Options → Problem → Answer → Type 0
IsEnough options b a =
    ((a.bound ≡ a.time) × (splits a.tree ≤ options.nodes))
    ⊎ ((found : search.Answer) × search.IsAnswer options.rule b options.nodes found × (a.time ≤ found.time) × (found.bound ≤ a.bound) × (found.splits ≤ a.splits))

pub record IsShownAnswer (options : Options) (p : Profile) (block : Block) (a : Answer) : Type 0 where
  -- a legal order with its total
  pub legal : IsLegal (instrs_of block) a.order
  pub time : a.time ≡ total_of (problem_of p block) a.order
  -- a certificate with fact lines, which passes the checker
  pub facts : is_some a.facts ≡ true
  pub document : IsDocument BLOCK_LIMIT (document_under options.rule p block a)
  pub yes : verdict (document_under options.rule p block a) ≡ Yes a.time a.bound
  -- the order takes at most the source order's total, and is the source order if it takes as much
  pub source : a.time ≤ source_time (problem_of p block)
  pub first : source_time (problem_of p block) ≡ a.time → a.order ≡ numbers (instrs_of block)
  pub enough : IsEnough options (problem_of p block) a
  -- the splits of its tree were made
  pub splits : splits a.tree ≤ a.splits
  -- all searches made at most three and a half times as many splits as one may make
  pub few : 2 * a.splits ≤ 7 * options.nodes

-- WHAT IS ANSWERED

-- it is searched, or with `--deep` it may be shown
abbrev pub IsAnswer : Strategy → Profile → Block → Answer → Type 0
IsAnswer strategy p block a = IsSearchAnswer strategy (problem_of p block) a ⊎ ((strategy.deep ≡ true) × IsShownAnswer strategy.search p block a)

-- for each block
abbrev pub AreAnswers : Strategy → Profile → List Block → List Answer → Type 0
AreAnswers strategy p [] [] = Unit {0}
AreAnswers strategy p (block ∷ blocks) (a ∷ answers) = IsAnswer strategy p block a × AreAnswers strategy p blocks answers
AreAnswers strategy p blocks answers = ⊥
