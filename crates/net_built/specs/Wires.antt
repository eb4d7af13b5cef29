-- Wires of a module, and pieces of it: cells with the widths of the wires that they drive.
use Rattle.std.specs.Prelude.{ℕ, zero, suc, ◌+◌, ◌-◌, List, [], ◌∷◌, ◌++◌, length}
use Rattle.chw_base.specs.declared.index.WireId.{WireId}
use Rattle.netlist.specs.declared.net.Cell.{Cell}
use Rattle.netlist.specs.declared.net.Cell.TheVariants.{Copy}

abbrev pub wire : ℕ → WireId
wire n = record { number = n }

-- so many wires, numbered from this number on
abbrev pub wires_from : (n count : ℕ) → List WireId
wires_from n zero = []
wires_from n (suc count) = wire n ∷ wires_from (n + 1) count

-- the widths that aren't 0: a part of width 0 has no wire
abbrev pub present : List ℕ → List ℕ
present [] = []
present (zero ∷ widths) = present widths
present (suc w ∷ widths) = suc w ∷ present widths

-- how many wires parts of these widths have
abbrev pub wire_count : List ℕ → ℕ
wire_count widths = length (present widths)

-- wires for parts of these widths, numbered from this number on
abbrev pub new_wires : ℕ → List ℕ → List WireId
new_wires n widths = wires_from n (wire_count widths)

-- a piece of a module: cells in order, and the widths of the wires that they drive, in order; these
-- wires are numbered from some number on
pub record Piece : Type 0 where
  pub widths : List ℕ
  pub cells : List Cell

abbrev pub nothing : Piece
nothing = record { widths = []; cells = [] }

-- what is there where a wire has bits
abbrev pub if_wide : ℕ → List Cell → List Cell
if_wide zero cells = []
if_wide (suc w) cells = cells

-- one cell on one wire; nothing where the wire has no bits
abbrev pub one : ℕ → Cell → Piece
one w cell = record { widths = present (w ∷ []); cells = if_wide w (cell ∷ []) }

infixr 30 ◌▸◌
-- one piece, and then another
abbrev pub ◌▸◌ : Piece → Piece → Piece
p ▸ q = record { widths = p.widths ++ q.widths; cells = p.cells ++ q.cells }

-- the number after those of a piece's wires, which begin at n
abbrev pub after : ℕ → Piece → ℕ
after n p = n + length p.widths

-- the last wire of a piece whose wires begin at n
abbrev pub last_wire : ℕ → Piece → WireId
last_wire n p = wire (after n p - 1)

-- its last wires, one for each part of these widths
abbrev pub last_wires : ℕ → Piece → List ℕ → List WireId
last_wires n p widths = wires_from (after n p - wire_count widths) (wire_count widths)

-- a copy of each wire, on wires from n on
abbrev pub copy_cells : ℕ → List WireId → List Cell
copy_cells n [] = []
copy_cells n (a ∷ wires) = Copy (wire n) a ∷ copy_cells (n + 1) wires

-- copies of wires, for parts of these widths
abbrev pub copies : ℕ → List WireId → List ℕ → Piece
copies n wires widths = record { widths = present widths; cells = copy_cells n wires }
