use Rattle.std.proofs.Common.{◌≤◌, length, take}
use Rattle.std.specs.Io.KnownBytes.{Appends}
use Rattle.chw_base.proofs.std_sink.write_whole.Given as goal

abbrev pub invariant-loop : goal.invariant-loop
invariant-loop g l =
    (l.taken ≤ length l.bytes) × Appends (g.W.Write.contents l.initial.to) (g.W.Write.contents l.to) (take l.taken l.bytes)
