-- What is said of the bits of all wires at a history: the net of single bits keeps them.
use Rattle.std.specs.Prelude.{ℕ, ◌<◌, Bool, List, length}
use Rattle.chw_clock.specs.Histories.{FitsPorts}
use Rattle.chw_clock.specs.declared.event.Event.{Event}
use Rattle.netlist.specs.NetValue.{NetValue}
use Rattle.netlist.specs.declared.net.Flat.{Flat}
use Rattle.bit_laws.specs.CellLaws.{HasWord}

-- at the history the net of single bits has the bits that a wire has
abbrev pub KeepsWord : Flat → List Event → ℕ → Type 0
KeepsWord flat h w = (bits : List Bool) → NetValue flat h w bits → HasWord flat h w bits

-- it has those of all wires at all shorter histories of the ports
abbrev pub KeptBefore : Flat → List Event → Type 0
KeptBefore flat h =
    (past : List Event) (w : ℕ) → length past < length h → FitsPorts flat.ports past
    → KeepsWord flat past w
