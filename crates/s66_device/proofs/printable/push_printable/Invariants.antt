use Rattle.std.proofs.Common.{◌≡◌, ◌++◌, take}
use Rattle.s66_device.specs.{printable}
use Rattle.s66_device.proofs.printable.push_printable.Given as goal

abbrev pub invariant-loop-byte : goal.invariant-loop-byte
invariant-loop-byte l = l.out.items ≡ l.fn.out.items ++ printable (take l.byte-index l.bytes)
