-- Used by contracts: what a line says that code has read.
use Rattle.s66_model.specs.{vertex_of}
use Rattle.s66_cert.specs.Lines.{DocumentLine}
use Rattle.s66_cert.specs.Lines as line
use Rattle.s66_cert.specs.declared.line.LineOf.{LineOf}
use Rattle.s66_cert.specs.declared.line.LineOf.TheVariants as code

abbrev pub said : LineOf → DocumentLine
said (code.Header version) = line.Header version
said (code.Profile numbers) = line.Profile numbers.items
said (code.Block count) = line.Block count
said (code.Instruction text) = line.Instruction text.bytes.now
said (code.Time time) = line.Time time
said (code.Bound bound) = line.Bound bound
said (code.Order numbers) = line.Order numbers.now
said (code.OfFact step) = line.OfFact step
said (code.OfTree vertex) = line.OfTree (vertex_of vertex)
said code.End = line.End
