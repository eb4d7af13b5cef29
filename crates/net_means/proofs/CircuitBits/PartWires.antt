-- The wires of parts, and copies of them.
use Rattle.std.specs.Prelude.{slice_get, take}
use Rattle.std.proofs.Common.{◌≡◌, ℕ, zero, suc, ◌+◌, ◌-◌, Bool, List, [], ◌∷◌, length, Some, refl, sym, subst, arith}
use Rattle.chw_base.specs.declared.index.WireId.{WireId}
use Rattle.chw_clock.specs.declared.event.Event.{Event}
use Rattle.netlist.specs.declared.net.Cell.TheVariants.{Copy}
use Rattle.netlist.specs.declared.net.Net.{Net}
use Rattle.use_laws.specs.ValueIn.{operated, read_none, read_and}
use Rattle.net_built.specs.Wires.{wire, wires_from, wire_count, last_wires, copies, copy_cells}
use Rattle.cell_bits.specs.Bearing.{HasCells, Bears, bears_nothing, bears_bits}
use Rattle.net_means.specs.CircuitBits.Leaves.{part_wires}

rest_cells : {net : Net} {path : List ℕ} (n : ℕ) (a : WireId) (wires : List WireId) → HasCells net path (copy_cells n (a ∷ wires)) → HasCells net path (copy_cells (n + 1) wires)
rest_cells n a wires has i cell e = has (suc i) cell e

module _ {net : Net} {path : List ℕ} {h : List Event} where
  -- the first of copies
  first_copy : (n w : ℕ) (wires : List WireId) (b : List Bool) → Bears net path h (take 1 wires) b → length b ≡ suc w → HasCells net path (copy_cells n wires) → Bears net path h (wire n ∷ []) b
  first_copy n w [] b bears e has = empty bears e
    where
      empty : {b : List Bool} → Bears net path h [] b → length b ≡ suc w → Bears net path h (wire n ∷ []) b
      empty bears_nothing e = absurd (omega (arith, e))
  first_copy n w (a ∷ wires) b bears e has = one bears
    where
      one : {b : List Bool} → Bears net path h (a ∷ []) b → Bears net path h (wire n ∷ []) b
      one (bears_bits {bit = bit} {bits = bits} value) =
          bears_bits (operated path (Copy (wire n) a) n h ((bit ∷ bits) ∷ []) (has 0 (Copy (wire n) a) refl) tt refl (read_and path h a [] (bit ∷ bits) [] value (read_none path h)))

  copies_from : (k n : ℕ) (widths : List ℕ) (wires : List WireId) (b : List Bool) → Bears net path h (part_wires k widths wires) b → slice_get widths k ≡ Some (length b) → HasCells net path (copy_cells n wires) → Bears net path h (part_wires k widths (wires_from n (wire_count widths))) b
  copies_from k n [] wires b bears e has = absurd cc
  copies_from zero n (zero ∷ widths) wires b bears e has = bears
  copies_from zero n (suc w ∷ widths) wires b bears e has =
      let long : suc w ≡ length b = cc in first_copy n w wires b bears (sym long) has
  copies_from (suc k) n (zero ∷ widths) wires b bears e has = copies_from k n widths wires b bears e has
  copies_from (suc k) n (suc w ∷ widths) [] b bears e has = copies_from k (n + 1) widths [] b bears e (λ i cell f. absurd cc)
  copies_from (suc k) n (suc w ∷ widths) (a ∷ wires) b bears e has = copies_from k (n + 1) widths wires b bears e (rest_cells n a wires has)

  -- copies of parts have their bits
  pub copies_part : (k n : ℕ) (widths : List ℕ) (wires : List WireId) (b : List Bool) → Bears net path h (part_wires k widths wires) b → slice_get widths k ≡ Some (length b) → HasCells net path (copy_cells n wires) → Bears net path h (part_wires k widths (last_wires n (copies n wires widths) widths)) b
  copies_part k n widths wires b bears e has =
      let place : n ≡ n + wire_count widths - wire_count widths = omega arith in
      subst (λ m. Bears net path h (part_wires k widths (wires_from m (wire_count widths))) b) place (copies_from k n widths wires b bears e has)
