-- A net of two modules, and its flat net.
use Rattle.std.specs.Prelude.{ℕ, [], ◌∷◌}
use Rattle.chw_base.specs.declared.index.WireId.{WireId}
use Rattle.chw_bits.specs.Bits.{bits_of}
use Rattle.chw_clock.specs.declared.event.Ports.{Ports}
use Rattle.netlist.specs.declared.net.Cell.TheVariants.{Copy, Reg, Use}
use Rattle.netlist.specs.declared.net.Flat.{Flat}
use Rattle.netlist.specs.declared.net.Module.{Module}
use Rattle.netlist.specs.declared.net.Net.{Net}

abbrev pub wire : ℕ → WireId
wire n = record { number = n }

-- a register of its input
abbrev pub keeper : Module
keeper = record {
  inputs = 1;
  widths = 8 ∷ 8 ∷ [];
  outputs = wire 1 ∷ [];
  cells = Reg (wire 1) (record { number = 0 }) (bits_of 8 5) (wire 0) ∷ [];
}

-- a use of it
abbrev pub user : Module
user = record {
  inputs = 1;
  widths = 8 ∷ 8 ∷ [];
  outputs = wire 1 ∷ [];
  cells = Use (record { number = 0 }) (wire 0 ∷ []) (wire 1 ∷ []) ∷ [];
}

abbrev pub two_modules : Ports → Net
two_modules the_ports = record { ports = the_ports; modules = keeper ∷ user ∷ [] }

-- the top's wires are 0 and 1, those of the register's module 2 and 3
abbrev pub two_flattened : Ports → Flat
two_flattened the_ports = record {
  ports = the_ports;
  widths = 8 ∷ 8 ∷ 8 ∷ 8 ∷ [];
  outputs = wire 1 ∷ [];
  cells = Copy (wire 1) (wire 3) ∷ Copy (wire 2) (wire 0)
      ∷ Reg (wire 3) (record { number = 0 }) (bits_of 8 5) (wire 2) ∷ [];
}
