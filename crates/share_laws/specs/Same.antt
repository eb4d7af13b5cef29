-- Which wires of a flat net are equal: the least equality that its copies, its constants and its
-- equal cells give. The order of cells plays no part in it.
use Rattle.std.specs.Prelude.{◌≡◌, ℕ, suc, ◌<◌, ◌==◌, Bool, List, [], ◌∷◌, length, map}
use Rattle.std.specs.Prelude.{Some, slice_get, if◌then◌else◌}
use Rattle.chw_base.specs.declared.index.WireId.{WireId}
use Rattle.chw_bits.specs.Bits.{number_of}
use Rattle.netlist.specs.Feeds.{target}
use Rattle.netlist.specs.NetValue.{HasCell}
use Rattle.netlist.specs.Operators.{operator}
use Rattle.netlist.specs.Wires.{read_by}
use Rattle.netlist.specs.declared.net.Cell.{Cell}
use Rattle.netlist.specs.declared.net.Cell.TheVariants.{Const, Copy, Join, Cut, Un, Bin, Mux}
use Rattle.netlist.specs.declared.net.Cell.TheVariants.{Reg, Ram, Use}
use Rattle.netlist.specs.declared.net.Flat.{Flat}

-- the wire of number 0
abbrev pub wire_0 : WireId
wire_0 = record { number = 0 }

-- as many wires of number 0
abbrev pub zero_wires : List WireId → List WireId
zero_wires wires = map (λ w. wire_0) wires

-- the cell with wire 0 in the place of each of its wires: its kind and its fields
abbrev pub bare : Cell → Cell
bare (Const w bits) = Const wire_0 bits
bare (Copy w a) = Copy wire_0 wire_0
bare (Join w parts) = Join wire_0 (zero_wires parts)
bare (Cut w a high low) = Cut wire_0 wire_0 high low
bare (Un w op a) = Un wire_0 op wire_0
bare (Bin w op a b) = Bin wire_0 op wire_0 wire_0
bare (Mux w c a b) = Mux wire_0 wire_0 wire_0 wire_0
bare (Reg w domain initial a) = Reg wire_0 domain initial wire_0
bare (Ram w domain words inputs) = Ram wire_0 domain words (record {
  read = wire_0;
  enable = wire_0;
  place = wire_0;
  value = wire_0;
})
bare (Use m reads drives) = Use m (zero_wires reads) (zero_wires drives)

-- the cell gives a constant where all that it reads is known: it keeps nothing, and is no constant,
-- no copy and no choice
abbrev pub IsFolded : Cell → Type 0
IsFolded (Const w bits) = ⊥
IsFolded (Copy w a) = ⊥
IsFolded (Mux w c a b) = ⊥
IsFolded (Reg w domain initial a) = ⊥
IsFolded (Ram w domain words inputs) = ⊥
IsFolded (Use m reads drives) = ⊥
IsFolded _ = Unit {0}

mutual
  -- the wires are equal
  pub data Same (flat : Flat) : ℕ → ℕ → Type 0 where
    itself : (w : ℕ) → w < length flat.widths → Same flat w w
    turned : (v w : ℕ) → Same flat v w → Same flat w v
    chained : (u v w : ℕ) → Same flat u v → Same flat v w → Same flat u w
    -- a wire and the one that its cell copies
    copied : (cell : Cell) (w a : ℕ) → HasCell flat cell → target cell ≡ Some w
        → Copies flat cell a → Same flat w a
    -- the wires of two cells of one kind, with the same fields, that read equal wires. Registers
    -- are of one domain and have the same initial bits, and RAMs the same initial words.
    equal_cells : (c d : Cell) (v w : ℕ) → HasCell flat c → HasCell flat d
        → target c ≡ Some v → target d ≡ Some w → bare c ≡ bare d
        → AllSame flat (read_by c) (read_by d) → Same flat v w
    -- two wires of which the same bits are known
    equal_bits : (v w : ℕ) (bits : List Bool) → IsKnown flat v bits → IsKnown flat w bits
        → Same flat v w

  -- the wires are equal, one by one
  pub data AllSame (flat : Flat) : List WireId → List WireId → Type 0 where
    same_none : AllSame flat [] []
    same_and : (v w : WireId) (vs ws : List WireId) → Same flat v.number w.number
        → AllSame flat vs ws → AllSame flat (v ∷ vs) (w ∷ ws)

  -- the cell gives what this wire has
  pub data Copies (flat : Flat) : Cell → ℕ → Type 0 where
    copy : (w a : WireId) → Copies flat (Copy w a) a.number
    -- a cut of a whole wire
    whole : (w a : WireId) (high : ℕ) → slice_get flat.widths a.number ≡ Some (suc high)
        → Copies flat (Cut w a high 0) a.number
    -- a join of one wire
    single : (w a : WireId) → Copies flat (Join w (a ∷ [])) a.number
    -- a choice between equal wires
    either : (w c a b : WireId) → Same flat a.number b.number → Copies flat (Mux w c a b) a.number
    -- a choice by a known condition
    chosen : (w c a b : WireId) (on : List Bool) → IsKnown flat c.number on
        → Copies flat (Mux w c a b) (if number_of on == 1 then a.number else b.number)

  -- the wire has these bits at each history, by the constants of the net
  pub data IsKnown (flat : Flat) : ℕ → List Bool → Type 0 where
    constant : (w : WireId) (bits : List Bool) → HasCell flat (Const w bits)
        → IsKnown flat w.number bits
    -- a folded cell gives what its operator makes of what is known of all that it reads
    folded : (cell : Cell) (w : ℕ) (values : List (List Bool)) → HasCell flat cell
        → IsFolded cell → target cell ≡ Some w → AllKnown flat (read_by cell) values
        → IsKnown flat w (operator cell values)
    carried : (v w : ℕ) (bits : List Bool) → Same flat v w → IsKnown flat v bits
        → IsKnown flat w bits

  -- the wires have these bits at each history, one by one
  pub data AllKnown (flat : Flat) : List WireId → List (List Bool) → Type 0 where
    known_none : AllKnown flat [] []
    known_and : (w : WireId) (wires : List WireId) (bits : List Bool) (values : List (List Bool))
        → IsKnown flat w.number bits → AllKnown flat wires values
        → AllKnown flat (w ∷ wires) (bits ∷ values)

-- no bits of the wire are known
abbrev pub IsOpen : Flat → ℕ → Type 0
IsOpen flat w = (bits : List Bool) → IsKnown flat w bits → ⊥
