-- the copy has the items so far
use Rattle.std.proofs.Common.{◌≡◌, take}
use Rattle.net_share.proofs.ports.copy_port_list.Given as goal

abbrev pub invariant-loop-port : goal.invariant-loop-port
invariant-loop-port l = l.copy.items ≡ take l.port-index l.port-items
