-- The cells of a flat net as a graph, in which each refers to those that drive what it waits for.
-- The cells drive the wires after the inputs in order.
use Rattle.std.specs.Prelude.{ℕ, ◌-◌, ◌^◌, nat_lt, List, map, reverse, if◌then◌else◌}
use Rattle.netlist.specs.Feeds.{awaited}
use Rattle.netlist.specs.declared.net.Cell.{Cell}

-- the place of the cell that drives a wire, where so many wires are inputs. For an input it is past
-- all cells.
abbrev pub driving_place : ℕ → ℕ → ℕ
driving_place inputs wire = if nat_lt wire inputs then 2 ^ 32 - 1 else wire - inputs

-- the places of the cells that drive the wires that a cell waits for, the last one first
abbrev pub waits_of : ℕ → Cell → List ℕ
waits_of inputs cell = reverse (map (λ w. driving_place inputs w.number) (awaited cell))

-- by the place of a cell, the places of those that drive what it waits for
abbrev pub waits : ℕ → List Cell → List (List ℕ)
waits inputs cells = map (waits_of inputs) cells
