-- A renamed cell: what it is, drives and reads.
use Rattle.std.proofs.Common.{◌≡◌, ℕ, List, [], ◌∷◌, Some, refl, ap}
use Rattle.chw_base.specs.declared.index.WireId.{WireId}
use Rattle.netlist.specs.Feeds.{target}
use Rattle.netlist.specs.Wires.{read_by}
use Rattle.netlist.specs.Sound.{FitsCell}
use Rattle.netlist.specs.declared.net.Cell.{Cell}
use Rattle.netlist.specs.declared.net.Cell.TheVariants.{Const, Copy, Join, Cut, Un, Bin, Mux, Reg, Ram, Use}
use Rattle.share_laws.specs.Same.{bare, zero_wires, wire_0}
use Rattle.net_share.specs.Renaming.{new_wires, renamed}

zero_renamed : (names : List ℕ) (wires : List WireId) → zero_wires wires ≡ zero_wires (new_wires names wires)
zero_renamed names [] = refl
zero_renamed names (w ∷ wires) = ap (λ ws. wire_0 ∷ ws) (zero_renamed names wires)

-- its kind and its fields stay
pub renamed_bare : (names : List ℕ) (n domains : ℕ) (widths : List ℕ) (cell : Cell) → FitsCell domains widths cell → bare cell ≡ bare (renamed names n cell)
renamed_bare names n domains widths (Const w bits) f = refl
renamed_bare names n domains widths (Copy w a) f = refl
renamed_bare names n domains widths (Join w parts) f = ap (λ ws. Join wire_0 ws) (zero_renamed names parts)
renamed_bare names n domains widths (Cut w a high low) f = refl
renamed_bare names n domains widths (Un w op a) f = refl
renamed_bare names n domains widths (Bin w op a b) f = refl
renamed_bare names n domains widths (Mux w c a b) f = refl
renamed_bare names n domains widths (Reg w domain initial a) f = refl
renamed_bare names n domains widths (Ram w domain words inputs) f = refl
renamed_bare names n domains widths (Use m reads drives) f = absurd f

pub renamed_target : (names : List ℕ) (n domains : ℕ) (widths : List ℕ) (cell : Cell) → FitsCell domains widths cell → target (renamed names n cell) ≡ Some n
renamed_target names n domains widths (Const w bits) f = refl
renamed_target names n domains widths (Copy w a) f = refl
renamed_target names n domains widths (Join w parts) f = refl
renamed_target names n domains widths (Cut w a high low) f = refl
renamed_target names n domains widths (Un w op a) f = refl
renamed_target names n domains widths (Bin w op a b) f = refl
renamed_target names n domains widths (Mux w c a b) f = refl
renamed_target names n domains widths (Reg w domain initial a) f = refl
renamed_target names n domains widths (Ram w domain words inputs) f = refl
renamed_target names n domains widths (Use m reads drives) f = absurd f

pub renamed_reads : (names : List ℕ) (n : ℕ) (cell : Cell) → read_by (renamed names n cell) ≡ new_wires names (read_by cell)
renamed_reads names n (Const w bits) = refl
renamed_reads names n (Copy w a) = refl
renamed_reads names n (Join w parts) = refl
renamed_reads names n (Cut w a high low) = refl
renamed_reads names n (Un w op a) = refl
renamed_reads names n (Bin w op a b) = refl
renamed_reads names n (Mux w c a b) = refl
renamed_reads names n (Reg w domain initial a) = refl
renamed_reads names n (Ram w domain words inputs) = refl
renamed_reads names n (Use m reads drives) = refl
