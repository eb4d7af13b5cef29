-- The step of the table of drivers: the cell before those that were seen.
use Rattle.std.proofs.Common.{◌≡◌, ℕ, ◌+◌, ◌<◌, Bool, true, false, List, ◌∷◌, length, get_or, drop, refl, Option, Some, if◌then◌else◌, sym, ap, ◌∙◌}
use Rattle.std.proofs.lemmas.List.{drop_more}
use Rattle.std.proofs.lemmas.Option.{slice_get_read}
use Rattle.netlist.specs.Wires.{drives, driver}
use Rattle.netlist.specs.declared.net.Cell.{Cell}
use Rattle.verilog_print.specs.Drivers.{cell_at}

-- an entry, by whether the cell drives its wire
entry : (cells : List Cell) (place : ℕ) (cell : Cell) (seen : Option Cell) (old : Option ℕ) (hit : Bool) → cell_at cells (Some place) ≡ Some cell → cell_at cells old ≡ seen → cell_at cells (if hit then Some place else old) ≡ (if hit then Some cell else seen)
entry cells place cell seen old true here before = here
entry cells place cell seen old false here before = before

-- one more cell: its place stands where it drives the wire, and else what stood there
pub noted : (cells : List Cell) (place wire : ℕ) (cell : Cell) (old new : Option ℕ) → place < length cells → cell ≡ get_or cells place cell → new ≡ (if drives wire cell then Some place else old) → cell_at cells old ≡ driver (drop (place + 1) cells) wire → cell_at cells new ≡ driver (drop place cells) wire
noted cells place wire cell old new below is e before =
    ap (λ o. cell_at cells o) e
    ∙ entry cells place cell (driver (drop (place + 1) cells) wire) old (drives wire cell) (slice_get_read cells (length cells) place cell refl below is) before
    ∙ sym (ap (λ l. driver l wire) (drop_more cells place cell below ∙ ap (λ x. x ∷ drop (place + 1) cells) (sym is)))
