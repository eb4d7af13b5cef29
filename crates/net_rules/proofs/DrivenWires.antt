-- The wires that the cells of a module drive.
use Rattle.std.proofs.Common.{ℕ, ◌<◌, List, [], ◌∷◌, ◌++◌, length}
use Rattle.std.specs.List.{flat_map, AllByRecursion}
use Rattle.chw_base.specs.declared.index.WireId.{WireId}
use Rattle.net_rules.specs.WellFormed.{NamesExist}
use Rattle.netlist.specs.Wires.{driven}
use Rattle.netlist.specs.declared.net.Cell.{Cell}
use Rattle.netlist.specs.declared.net.Module.{Module}

all_of_both : {X : Type 0} (P : X → Type 0) (xs ys : List X) → AllByRecursion P xs → AllByRecursion P ys → AllByRecursion P (xs ++ ys)
all_of_both P [] ys h k = k
all_of_both P (x ∷ xs) ys h k = (h.0, all_of_both P xs ys h.1 k)

-- they exist where all that the cells name exists
pub driven_exist : (domains : ℕ) (earlier : List Module) (widths : List ℕ) (cells : List Cell) → AllByRecursion (NamesExist domains earlier widths) cells
    → AllByRecursion (λ (w : WireId). w.number < length widths) (flat_map driven cells)
driven_exist domains earlier widths [] all = tt
driven_exist domains earlier widths (cell ∷ cells) all =
    all_of_both (λ (w : WireId). w.number < length widths) (driven cell) (flat_map driven cells) all.0.driven (driven_exist domains earlier widths cells all.1)
