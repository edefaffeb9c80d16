use Rattle.std.proofs.Common.{ℕ, ap, ◌∙◌, arith}
use Rattle.std.proofs.lemmas.List.{length-replicate}
use Rattle.s66_isa.specs.{has, kind_number, KIND_COUNT}
use Rattle.s66_time.proofs.Back.{zeros}
use Rattle.s66_time.proofs.Cleared.{none-busy}
use Rattle.s66_time.proofs.words.Words.clear.Goals as goal

pub returns : goal.returns
returns c =
    let p = c.args.profile.now in
    record {
      done = λ r small. c.new-self.ensures r;
      read = λ r small. c.new-self-2.ensures r;
      units = λ kind t. omega (arith, none-busy p kind t _ (c.clear_all.ensures.zeros kind));
      size = c.clear_all.ensures.size ∙ c.requires;
      kinds = length-replicate {A = ℕ} KIND_COUNT 0;
      worked = λ kind. zeros KIND_COUNT (kind_number kind);
      refs = c.new-self-3.ensures.words.0;
      stores = c.new-self-3.ensures.words.1;
      parcel = c.new-self-3.ensures.words.2;
      next = c.new-self-3.ensures.words.3;
      total = c.new-self-3.ensures.words.4;
      pushed = λ m. ap (has m) c.new-self-3.ensures.pushed;
    }
