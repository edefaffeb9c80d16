-- The document of an order that fact lines show is a document, whose tree its lines determine.
use Rattle.std.proofs.Common.{ℕ, ◌≤◌, List, length, arith}
use Rattle.s66_isa.specs.{BLOCK_LIMIT, PROFILE_LIMIT, Profile, entries}
use Rattle.s66_isa.proofs.Profiles.{entries-in-range}
use Rattle.s66_model.specs.{IsLegal}
use Rattle.s66_line.specs.{instrs_of, Block}
use Rattle.s66_cert.specs.{TIME_LIMIT, AreWhole, EvidenceOf, IsEvidence}
use Rattle.s66_answer.specs.{IsSpelled, parts_by}
use Rattle.s66_answer.proofs.AnswerDocuments.{all-in, length-texts, order-numbers, texts-instructions}

pub shown-whole : (p : Profile) (block : Block) (order : List ℕ) (time : ℕ) (e : EvidenceOf) → IsLegal (instrs_of block) order → time ≤ TIME_LIMIT → IsEvidence e → 1 ≤ length (instrs_of block) → length (instrs_of block) ≤ BLOCK_LIMIT → IsSpelled block →
    AreWhole (parts_by p block order time e)
shown-whole p block order time e legal within is some few spelled =
    let in-range = entries-in-range p in
    record {
      document = record {
        profile = (in-range.0, all-in 1 PROFILE_LIMIT (entries p) in-range.1);
        block = (omega (arith, length-texts block, some), omega (arith, length-texts block, few), texts-instructions block (length (instrs_of block)) 1 (omega arith) (omega arith) spelled);
        time = within;
        bound = is.bound;
        numbers = order-numbers (instrs_of block) few order some legal;
        tree = is.tree;
        splits = is.splits;
        facts = is.facts;
        leaves = is.leaves;
      };
      preorder = is.preorder;
    }
