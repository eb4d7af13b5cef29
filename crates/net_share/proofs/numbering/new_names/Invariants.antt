-- the numbers of what serves the wires so far
use Rattle.std.proofs.Common.{◌≡◌, take, map}
use Rattle.std.specs.Prelude.{slice_index}
use Rattle.net_share.proofs.numbering.new_names.Given as goal

abbrev pub invariant-loop-server : goal.invariant-loop-server
invariant-loop-server l = l.names.items ≡ map (λ v. slice_index l.numbers v) (take l.server-index l.servers)
