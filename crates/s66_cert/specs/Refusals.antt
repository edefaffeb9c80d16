-- To be believed: the line that says why documents were refused, without its newline.
use Rattle.std.specs.Prelude.{ℕ, List, ◌++◌, codes, decimal}
use Rattle.s66_cert.specs.declared.error.CertError.{CertError}
use Rattle.s66_cert.specs.declared.error.CertError.TheVariants.{BadLine, OutOfMemory, TooManyNodes, Truncated}

abbrev pub document_refusal_line : CertError → List ℕ
document_refusal_line (BadLine line) = codes "LINE " ++ decimal line ++ codes " BAD LINE"
document_refusal_line Truncated = codes "TRUNCATED"
document_refusal_line TooManyNodes = codes "TOO MANY NODES"
document_refusal_line OutOfMemory = codes "OUT OF MEMORY"
