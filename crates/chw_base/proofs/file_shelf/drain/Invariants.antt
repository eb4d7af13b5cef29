use Rattle.std.proofs.Common.{◌≤◌, length}
use Rattle.std.specs.Io.KnownBytes.{Consumes}
use Rattle.chw_base.proofs.file_shelf.drain.Given as goal

abbrev pub invariant-loop : goal.invariant-loop
invariant-loop g l =
    (length l.into.items ≤ l.fn.limit) × Consumes (g.F.Read.remaining l.initial.file) (g.F.Read.remaining l.file) l.into.items
