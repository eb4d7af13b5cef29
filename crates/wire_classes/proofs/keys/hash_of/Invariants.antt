-- the number of the bytes so far
use Rattle.std.proofs.Common.{◌≡◌, take}
use Rattle.wire_classes.specs.Keys.{hash_of}
use Rattle.wire_classes.proofs.keys.hash_of.Given as goal

abbrev pub invariant-loop-byte : goal.invariant-loop-byte
invariant-loop-byte l = l.hash ≡ hash_of (take l.byte-index l.key)
