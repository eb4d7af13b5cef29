-- the nodes so far, with those that are left
use Rattle.std.proofs.Common.{◌≡◌, ◌++◌, drop, map}
use Rattle.blif_text.specs.BlifText.{all_nodes}
use Rattle.blif_read.specs.Nets.{node_of}
use Rattle.blif_read.specs.Shown.{all_said}
use Rattle.blif_read.proofs.bitnet.nodes_of.Given as goal

abbrev pub invariant-loop-place : goal.invariant-loop-place
invariant-loop-place l = map node_of l.nodes.items ++ all_nodes (all_said (drop l.place l.all)) ≡ all_nodes (all_said l.all)
