use Rattle.std.proofs.Common.{ap, ◌∙◌, ◌≡◌, length, ℕ}
use Rattle.std.proofs.lemmas.List.{length-replicate}
use Rattle.s66_isa.specs.{has, kind_number, KIND_COUNT}
use Rattle.s66_time.specs.{UNIT_LIMIT}
use Rattle.s66_time.proofs.Back.{zeros}
use Rattle.s66_time.proofs.ClockPoints.{zero-units}
use Rattle.s66_time.proofs.words.Words.new.Goals as goal

pub returns : goal.returns
returns c = λ p.
    let size : length c.new-3.result.words ≡ UNIT_LIMIT = ap length c.new-3.ensures ∙ length-replicate {A = ℕ} UNIT_LIMIT 0 in
    record {
      done = λ r small. c.new.ensures r;
      read = λ r small. c.new-2.ensures r;
      units = λ kind t. zero-units p kind t c.new-3.result.words c.new-3.ensures;
      size = size;
      kinds = length-replicate {A = ℕ} KIND_COUNT 0;
      worked = λ kind. zeros KIND_COUNT (kind_number kind);
      refs = c.new-4.ensures.words.0;
      stores = c.new-4.ensures.words.1;
      parcel = c.new-4.ensures.words.2;
      next = c.new-4.ensures.words.3;
      total = c.new-4.ensures.words.4;
      pushed = λ m. ap (has m) c.new-4.ensures.pushed;
    }
