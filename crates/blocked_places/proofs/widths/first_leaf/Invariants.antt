-- none of the leaves so far passes a limit
use Rattle.std.proofs.Common.{◌≡◌}
use Rattle.type_ports.specs.declared.ports.Leaf.{Leaf}
use Rattle.blocked_places.specs.Firsts.{NonePasses}
use Rattle.blocked_places.specs.Limits.{IsLeafTooWide}
use Rattle.blocked_places.proofs.widths.first_leaf.Given as goal

abbrev pub invariant-loop-leaf : goal.invariant-loop-leaf
invariant-loop-leaf l = record {
  same : l.widths ≡ l.initial.widths;
  none : NonePasses Leaf (IsLeafTooWide l.initial.widths) l.leaves l.leaf-index;
}
