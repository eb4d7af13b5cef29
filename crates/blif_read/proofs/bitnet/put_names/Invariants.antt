-- the copies so far
use Rattle.std.proofs.Common.{◌≡◌, ◌++◌, take}
use Rattle.stimulus.specs.Texts.{texts}
use Rattle.blif_read.proofs.bitnet.put_names.Given as goal

abbrev pub invariant-loop-name : goal.invariant-loop-name
invariant-loop-name l = l.names.items ≡ l.fn.names.items ++ texts (take l.name-index l.more)
