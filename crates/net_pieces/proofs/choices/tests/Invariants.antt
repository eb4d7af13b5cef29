-- the tests so far, with those that are left, are all
use Rattle.std.proofs.Common.{◌≡◌, ◌++◌, drop, length}
use Rattle.net_built.specs.Data.{tests, test_wires}
use Rattle.net_built.specs.Wires.{◌▸◌}
use Rattle.net_pieces.proofs.choices.tests.Given as goal

abbrev pub invariant-loop-bits : goal.invariant-loop-bits
invariant-loop-bits l = record {
  piece : l.into ▸ tests l.k l.a (drop l.bits-index l.words) (length l.into.widths)
      ≡ l.initial.into ▸ tests l.k l.a l.words (length l.initial.into.widths);
  tested : l.wires.items ++ test_wires l.k l.a (drop l.bits-index l.words) (length l.into.widths)
      ≡ test_wires l.k l.a l.words (length l.initial.into.widths);
}
