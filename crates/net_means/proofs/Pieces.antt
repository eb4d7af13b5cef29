-- The cells of two pieces.
use Rattle.std.proofs.Common.{ℕ, zero, suc, List, [], ◌∷◌, ◌++◌}
use Rattle.netlist.specs.declared.net.Cell.{Cell}
use Rattle.netlist.specs.declared.net.Net.{Net}
use Rattle.cell_bits.specs.Bearing.{HasCells}

-- the cells of the first of two pieces, and those of the second
pub has_first : {net : Net} {path : List ℕ} (xs ys : List Cell) → HasCells net path (xs ++ ys) → HasCells net path xs
has_first [] ys has i cell e = cc
has_first (x ∷ xs) ys has zero cell e = has zero cell e
has_first (x ∷ xs) ys has (suc i) cell e = has_first xs ys (λ j other f. has (suc j) other f) i cell e

pub has_second : {net : Net} {path : List ℕ} (xs ys : List Cell) → HasCells net path (xs ++ ys) → HasCells net path ys
has_second [] ys has = has
has_second (x ∷ xs) ys has = has_second xs ys (λ j other f. has (suc j) other f)
