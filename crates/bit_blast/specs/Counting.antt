-- How many nodes cells become.
use Rattle.std.specs.Prelude.{ℕ, zero, suc, ◌+◌, ◌-◌, ◌*◌, min, length}
use Rattle.std.specs.Prelude.{if◌then◌else◌, slice_index}
use Rattle.chw_base.specs.declared.index.DomId.{DomId}
use Rattle.chw_base.specs.declared.index.WireId.{WireId}
use Rattle.chw_clock.specs.Histories.{has_reset}
use Rattle.netlist.specs.declared.net.Cell.{Cell}
use Rattle.netlist.specs.declared.net.Cell.TheVariants.{Const, Copy, Join, Cut, Un, Bin, Mux, Reg}
use Rattle.netlist.specs.declared.net.Cell.TheVariants.{Ram, Use}
use Rattle.netlist.specs.declared.net.Flat.{Flat}
use Rattle.netlist.specs.declared.net.Op1.{Op1}
use Rattle.netlist.specs.declared.net.Op1.TheVariants.{Not, RedAnd, RedOr, RedXor}
use Rattle.netlist.specs.declared.net.Op2.{Op2}
use Rattle.netlist.specs.declared.net.Op2.TheVariants.{Add, Sub, Mul, And, Or, Xor, Eq, LtU, LtS}
use Rattle.netlist.specs.declared.net.Op2.TheVariants.{Shl, Shr, Sar}
use Rattle.bit_blast.specs.declared.limit.TheConstants.{BIT_NODES}

-- the rows of a product of n bits, by the lowest m bits of the other word
abbrev pub rows_count : (n m : ℕ) → ℕ
rows_count n zero = 0
rows_count n (suc zero) = n
rows_count n (suc (suc m)) = rows_count n (suc m) + (1 + 3 * (n - suc m))

-- an operator on a word of this width
abbrev pub unary_count : Op1 → (width : ℕ) → ℕ
unary_count Not width = width
unary_count RedAnd width = width + 1
unary_count RedOr width = width + 1
unary_count RedXor width = width + 1

-- an operator on a word of this width and another one, of so many bits
abbrev pub binary_count : Op2 → (width bits : ℕ) → ℕ
binary_count Add width bits = 1 + 2 * width
binary_count Sub width bits = 1 + 3 * width
binary_count Mul width bits = rows_count width width + width
binary_count And width bits = width
binary_count Or width bits = width
binary_count Xor width bits = width
binary_count Eq width bits = 2 * width + 2
binary_count LtU width bits = width + 2
binary_count LtS width bits = width + 2
binary_count Shl width bits = 1 + bits * width + width
binary_count Shr width bits = 1 + bits * width + width
binary_count Sar width bits = 1 + bits * width + width

-- a RAM of so many words of this width
abbrev pub ram_count : (words width : ℕ) → ℕ
ram_count words width = 2 * width + words * (2 + 3 * width)

-- the width of a wire
abbrev pub width_in : Flat → ℕ → ℕ
width_in flat w = slice_index flat.widths w

-- a register: twice its width where its domain has a reset
abbrev pub register_count : Flat → WireId → DomId → ℕ
register_count flat w domain =
    if has_reset flat.ports domain then 2 * width_in flat w.number else width_in flat w.number

-- the nodes of a cell
abbrev pub cell_count : Flat → Cell → ℕ
cell_count flat (Const w bits) = width_in flat w.number
cell_count flat (Copy w a) = width_in flat w.number
cell_count flat (Join w parts) = width_in flat w.number
cell_count flat (Cut w a high low) = width_in flat w.number
cell_count flat (Un w op a) = unary_count op (width_in flat a.number)
cell_count flat (Bin w op a b) = binary_count op (width_in flat a.number) (width_in flat b.number)
cell_count flat (Mux w c a b) = width_in flat w.number
cell_count flat (Reg w domain initial a) = register_count flat w domain
cell_count flat (Ram w domain words inputs) = ram_count (length words) (width_in flat w.number)
cell_count flat (Use m reads drives) = 0

-- so many nodes, and one above the limit for all that is more
abbrev pub capped : ℕ → ℕ
capped n = min n (BIT_NODES + 1)
