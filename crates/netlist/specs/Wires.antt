-- Wires of a module, and the cells that drive them.
use Rattle.std.specs.Prelude.{ℕ, Bool, ◌==◌, List, [], ◌∷◌, Option, Some, None, if◌then◌else◌}
use Rattle.std.specs.List.{list_any}
use Rattle.chw_base.specs.declared.index.WireId.{WireId}
use Rattle.netlist.specs.declared.net.Cell.{Cell}
use Rattle.netlist.specs.declared.net.Cell.TheVariants.{Const, Copy, Join, Cut, Un, Bin, Mux, Reg, Ram, Use}

-- the wires that a cell drives
abbrev pub driven : Cell → List WireId
driven (Const w bits) = w ∷ []
driven (Copy w a) = w ∷ []
driven (Join w parts) = w ∷ []
driven (Cut w a high low) = w ∷ []
driven (Un w op a) = w ∷ []
driven (Bin w op a b) = w ∷ []
driven (Mux w c a b) = w ∷ []
driven (Reg w domain initial a) = w ∷ []
driven (Ram w domain words inputs) = w ∷ []
driven (Use m reads drives) = drives

-- the wires that a cell reads
abbrev pub read_by : Cell → List WireId
read_by (Const w bits) = []
read_by (Copy w a) = a ∷ []
read_by (Join w parts) = parts
read_by (Cut w a high low) = a ∷ []
read_by (Un w op a) = a ∷ []
read_by (Bin w op a b) = a ∷ b ∷ []
read_by (Mux w c a b) = c ∷ a ∷ b ∷ []
read_by (Reg w domain initial a) = a ∷ []
read_by (Ram w domain words inputs) = inputs.read ∷ inputs.enable ∷ inputs.place ∷ inputs.value ∷ []
read_by (Use m reads drives) = reads

-- the cell drives the wire of this number
abbrev pub drives : ℕ → Cell → Bool
drives wire cell = list_any (λ w. w.number == wire) (driven cell)

-- the first of the cells that drives the wire of this number
abbrev pub driver : List Cell → ℕ → Option Cell
driver [] wire = None
driver (cell ∷ cells) wire = if drives wire cell then Some cell else driver cells wire
