-- the choices so far, with those that are left, are all
use Rattle.std.proofs.Common.{◌≡◌, reverse, take, length}
use Rattle.std.specs.Prelude.{zip}
use Rattle.net_built.specs.Data.{choices}
use Rattle.net_built.specs.Wires.{◌▸◌}
use Rattle.net_pieces.proofs.choices.choices.Given as goal

abbrev pub invariant-loop-i : goal.invariant-loop-i
invariant-loop-i l =
    l.into ▸ choices l.width (reverse (take l.i (zip l.tested l.results))) l.other (length l.into.widths)
    ≡ l.initial.into
    ▸ choices l.width (reverse (zip l.tested l.results)) l.initial.other (length l.initial.into.widths)
