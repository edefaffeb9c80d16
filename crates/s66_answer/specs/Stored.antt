-- Used by contracts: an answer as code stores it: that of a search with the splits of those beside it, or an order with its document.
use Rattle.std.specs.Prelude.{ℕ, ◌*◌, ◌≡◌, ◌≤◌, ◌⊎◌, false, List, Some}
use Rattle.s66_isa.specs.{BLOCK_LIMIT, entries, Profile}
use Rattle.s66_model.specs.{ClampedStanding, source_time, splits}
use Rattle.s66_command.specs.{Strategy}
use Rattle.s66_line.specs.{instrs_of, Block}
use Rattle.s66_cert.specs.{IsDocument, Parts, document_of, tree_of_lines, EvidenceOf}
use Rattle.s66_ledger.specs.{AnswerOf, answer_of, LedgerOf}
use Rattle.s66_checker.specs.{Yes, verdict}
use Rattle.s66_answer.specs.declared.answers.Found.{Found}
use Rattle.s66_answer.specs.declared.answers.Found.TheVariants.{Searched, Shown}
use Rattle.s66_answer.specs.declared.answers.ByFacts.{ByFacts}
use Rattle.s66_answer.specs.declared.answers.Candidate.{Candidate}
use Rattle.s66_answer.specs.Answers.{Answer, AreAllSplits, IsAnswer, document_under, problem_of, searched, texts_of}

-- A SEARCH of the block's orders for an answer

abbrev pub IsSearchOf : Strategy → Profile → Block → LedgerOf → Type 0
IsSearchOf strategy p block l = (l.rule ≡ strategy.search.rule) × (l.problem ≡ problem_of p block) × (l.budget ≡ strategy.search.nodes)

-- splits that other searches made beside it
abbrev pub AreBeside : Strategy → ℕ → Type 0
AreBeside strategy n = (2 * n ≤ 5 * strategy.search.nodes) × (strategy.deep ≡ false → n ≡ 0)

-- FACT LINES

-- how many splits the tree of what is to show a bound has
abbrev pub tree_splits : EvidenceOf → ℕ
tree_splits e = splits (tree_of_lines e.vertices)

-- the document of an order that takes this time, and of what is to show a bound
abbrev pub parts_by : Profile → Block → (order : List ℕ) (time : ℕ) → EvidenceOf → Parts
parts_by p block order time e =
    record {
      rule = ClampedStanding;
      facts = Some e.lines;
      profile = entries p;
      block = texts_of block;
      time = time;
      bound = e.bound;
      numbers = order;
      vertices = e.vertices;
    }

-- it passes the checker
pub record IsAccepted (d : Parts) : Type 0 where
  pub document : IsDocument BLOCK_LIMIT (document_of d)
  pub yes : verdict (document_of d) ≡ Yes d.time d.bound

-- ANSWERS

-- what a document claims, after so many splits
abbrev pub claimed_by : Parts → ℕ → Answer
claimed_by d splits = record { order = d.numbers; time = d.time; bound = d.bound; splits = splits; facts = d.facts; tree = (document_of d).tree }

abbrev pub claimed : ByFacts → Answer
claimed s = claimed_by s.document s.splits

abbrev pub answer_in : Found → Answer
answer_in (Searched s) = record (searched (answer_of s.answer)) { splits = s.splits }
answer_in (Shown s) = claimed s

-- an answer with this candidate's order, by a document that has this evidence and passes the checker
pub record IsShownBy (p : Profile) (block : Block) (c : Candidate) (e : EvidenceOf) (s : ByFacts) : Type 0 where
  pub document : s.document ≡ parts_by p block c.order.numbers c.time e
  pub accepted : IsAccepted s.document
  pub order : s.order ≡ c.order
  pub source : s.source ≡ c.source
  pub splits : s.splits ≡ c.splits

-- an answer to the block, with its document, which passes the checker, and its order
pub record IsStoredClaim (strategy : Strategy) (p : Profile) (block : Block) (s : ByFacts) : Type 0 where
  pub answer : IsAnswer strategy p block (claimed s)
  pub document : document_of s.document ≡ document_under strategy.search.rule p block (claimed s)
  pub accepted : IsAccepted s.document
  pub order : s.order ≡ record { block = instrs_of block; numbers = s.document.numbers }
  pub source : s.source ≡ source_time (problem_of p block)

-- of a search of this block
abbrev pub IsFound : Strategy → Profile → Block → AnswerOf → Type 0
IsFound strategy p block found = (found.rule ≡ strategy.search.rule) × (found.problem ≡ problem_of p block) × (found.budget ≡ strategy.search.nodes)

abbrev pub IsFor : Strategy → Profile → Block → Found → Type 0
IsFor strategy p block (Searched s) = IsFound strategy p block s.answer × AreAllSplits strategy (answer_of s.answer).splits s.splits
IsFor strategy p block (Shown s) = IsStoredClaim strategy p block s

-- facts show that the answer's order is best, by a tree of no more splits than a search may have, or as much of the answer as its
-- search did
abbrev pub IsWorth : (nodes : ℕ) → AnswerOf → EvidenceOf → Type 0
IsWorth nodes found e = ((e.bound ≡ (answer_of found).time) × (tree_splits e ≤ nodes)) ⊎ ((answer_of found).bound ≤ e.bound)
