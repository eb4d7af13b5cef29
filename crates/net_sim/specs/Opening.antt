-- What constants, registers and RAMs have before any event.
use Rattle.std.specs.Prelude.{Bool, List, []}
use Rattle.netlist.specs.declared.net.Cell.{Cell}
use Rattle.netlist.specs.declared.net.Cell.TheVariants.{Const, Reg, Ram}

-- the cell is a constant or a register
abbrev pub IsStarted : Cell → Type 0
IsStarted (Const w bits) = Unit {0}
IsStarted (Reg w domain initial a) = Unit {0}
IsStarted _ = ⊥

-- the cell is a RAM
abbrev pub IsRam : Cell → Type 0
IsRam (Ram w domain words inputs) = Unit {0}
IsRam _ = ⊥

-- the bits that a constant or a register has before any event
abbrev pub initial_bits : Cell → List Bool
initial_bits (Const w bits) = bits
initial_bits (Reg w domain initial a) = initial
initial_bits _ = []

-- the words that a RAM has before any event
abbrev pub initial_words : Cell → List (List Bool)
initial_words (Ram w domain words inputs) = words
initial_words _ = []
