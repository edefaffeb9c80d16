-- Used by contracts: which replies of the machine the answers of a ledger are.
use Rattle.s66_model.specs.LedgerRuns as model
use Rattle.s66_ledger.specs.declared.reply.Offered.{Offered}
use Rattle.s66_ledger.specs.declared.reply.Offered.TheVariants as offered

abbrev pub offered_reply : Offered → model.Reply
offered_reply offered.Lower = model.Lower
offered_reply (offered.NotLower n) = model.NotLower n
offered_reply offered.OtherBlock = model.OtherBlock
