-- Variables and literals as right sides.
use Rattle.std.proofs.Common.{◌≡◌, ◌<◌, ℕ, zero, suc, ◌+◌, ◌-◌, Bool, List, [], ◌∷◌, Some, slice_get, refl, sym, ap, ◌∙◌, subst, arith}
use Rattle.chw_base.specs.declared.index.WireId.{WireId}
use Rattle.chw_types.specs.declared.kind.Scalar.{Scalar}
use Rattle.chw_types.specs.TypeTree.{TypeTree}
use Rattle.chw_terms.specs.TermTree.{var, lit}
use Rattle.rewriting.specs.Origins.{Origins}
use Rattle.netlist.specs.declared.net.Cell.TheVariants.{Copy}
use Rattle.netlist.specs.declared.net.Net.{Net}
use Rattle.net_built.specs.Bodies.{ValueCells, value_variable}
use Rattle.net_built.specs.Circuits.{Ground as Built}
use Rattle.net_built.specs.Terms.{Variable, wires_at}
use Rattle.net_built.specs.Wires.{wire, Piece, last_wires, copies, copy_cells}
use Rattle.cell_bits.specs.Bearing.{HasCells}
use Rattle.net_means.specs.SideBits.Sides.{LooksAt}
use Rattle.net_means.specs.WireOrder.Awaits.{AllSettle}
use Rattle.net_means.specs.WireOrder.Sides.{SideLaid, HasItsWires}
use Rattle.net_means.proofs.WireOrder.Looks.{View, itself, of_element, of_operand, view, wires_there}
use Rattle.net_means.proofs.WireOrder.Reached.{Held, Meets, Ends, cell_meets, last_settle}

name_piece : {ground : Built} {scope : List Variable} {n w x : ℕ} {p : Piece} → ValueCells ground scope n w (var x) [] [] p → p ≡ copies n (wires_at scope x) (w ∷ [])
name_piece value_variable = refl

module _ (net : Net) (path : List ℕ) where
  -- the copy of the only wire
  copy_ends : (n w u j : ℕ) (wires : List WireId) (v : WireId) → 0 < w → Held wires u → slice_get wires j ≡ Some v → HasCells net path (copy_cells n wires) → Ends net path n (copies n wires (w ∷ [])) v
  copy_ends n zero u j wires v some h e has = absurd (omega (arith, some))
  copy_ends n (suc w) u j [] v some h e has = absurd cc
  copy_ends n (suc w) u zero (a ∷ wires) v some h e has =
      let number : n ≡ n + 1 - 1 = omega arith in
      subst (λ k. Meets net path k v.number) number (cell_meets net path (copy_cells n (a ∷ wires)) 0 0 n (Copy (wire n) a) v has refl tt refl e)
  copy_ends n (suc w) zero (suc j) (a ∷ wires) v some h e has = absurd (omega (arith, h))
  copy_ends n (suc w) (suc u) (suc j) (a ∷ []) v some h e has = absurd cc
  copy_ends n (suc w) (suc u) (suc j) (a ∷ b ∷ wires) v some h e has = absurd (omega (arith, h))

module _ (o : Origins) (order : List ℕ) (scope : List Variable) (net : Net) (path : List ℕ) (n w : ℕ) (t : TypeTree) (piece : Piece) where
  pub name_settles : (y x : ℕ) (it : Variable) → SideLaid o order scope net path n w t (var y) piece → LooksAt (var y) x → slice_get scope x ≡ Some it → AllSettle net path (last_wires n piece (w ∷ [])) path it.wires
  name_settles y x it g looks known = by (view looks)
    where
      by : View (var y) x → AllSettle net path (last_wires n piece (w ∷ [])) path it.wires
      by (itself e) =
          let same : y ≡ x = cc in
          let wires : wires_at scope y ≡ it.wires = ap (λ x. wires_at scope x) same ∙ wires_there scope x it known in
          let is : piece ≡ copies n it.wires (w ∷ []) = name_piece g.built ∙ ap (λ (ws : List WireId). copies n ws (w ∷ [])) wires in
          let its : HasItsWires o.program.datas it.ty it.wires = g.held x it looks known in
          let cells : HasCells net path (copy_cells n it.wires) = subst (λ (q : Piece). HasCells net path q.cells) is g.cells in
          subst (λ (q : Piece). AllSettle net path (last_wires n q (w ∷ [])) path it.wires) (sym is)
          (last_settle net path n w (copies n it.wires (w ∷ [])) it.wires (λ some j v e. copy_ends net path n w its.width j it.wires v some its.many e cells))
      by (of_element u es i e at) = absurd cc
      by (of_operand i at busy) = absurd cc

  -- a literal looks at nothing
  pub literal_settles : (s : Scalar) (bits : List Bool) (x : ℕ) (it : Variable) → SideLaid o order scope net path n w t (lit s bits) piece → LooksAt (lit s bits) x → slice_get scope x ≡ Some it → AllSettle net path (last_wires n piece (w ∷ [])) path it.wires
  literal_settles s bits x it g looks known = by (view looks)
    where
      by : View (lit s bits) x → AllSettle net path (last_wires n piece (w ∷ [])) path it.wires
      by (itself e) = absurd cc
      by (of_element u es i e at) = absurd cc
      by (of_operand i at busy) = absurd cc
