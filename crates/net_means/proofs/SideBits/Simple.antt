-- Variables and literals as right sides.
use Rattle.std.proofs.Common.{◌≡◌, ◌≤◌, ℕ, zero, suc, ◌+◌, ◌-◌, Bool, List, [], ◌∷◌, length, refl, sym, subst, arith}
use Rattle.chw_base.specs.declared.index.WireId.{WireId}
use Rattle.chw_clock.specs.declared.event.Event.{Event}
use Rattle.chw_types.specs.declared.declarations.Data.{Data}
use Rattle.chw_types.specs.declared.kind.Kind.{Kind}
use Rattle.chw_types.specs.declared.kind.Scalar.{Scalar}
use Rattle.chw_types.specs.SamePromises.{SameValues, natural_value}
use Rattle.chw_types.specs.SameTypes.{SameTypes}
use Rattle.chw_types.specs.TypeTree.{TypeTree, TypeTrees, nat_lit, scalar}
use Rattle.type_laws.specs.SameKept.{FieldsKeepSame}
use Rattle.chw_terms.specs.TermTree.{var, lit}
use Rattle.chw_typing.specs.HeadTypes.{widest}
use Rattle.chw_typing.specs.Scopes.{Setting}
use Rattle.chw_typing.specs.Typing.{HasType, h_lit}
use Rattle.rewriting.specs.Origins.{Origins}
use Rattle.chw_layout.specs.Measured.{HasWidth}
use Rattle.chw_meaning.specs.Values.{closed, Thunks}
use Rattle.carrying.specs.Carrying.{Shows}
use Rattle.netlist.specs.declared.net.Cell.TheVariants.{Const, Copy}
use Rattle.netlist.specs.declared.net.Net.{Net}
use Rattle.use_laws.specs.ValueIn.{ValueIn, operated, read_none, read_and}
use Rattle.net_built.specs.Bodies.{ValueCells, value_variable, value_literal}
use Rattle.net_built.specs.Circuits.{Ground as Built}
use Rattle.net_built.specs.Terms.{Variable, wires_at}
use Rattle.net_built.specs.Wires.{wire, Piece, one, last_wires, copies, copy_cells}
use Rattle.cell_bits.specs.Bearing.{HasCells, Bears, bears_nothing, bears_bits}
use Rattle.net_grounds.specs.Facts.{Facts}
use Rattle.net_means.specs.SideBits.Sides.{SideGiven, SideHas, at_itself}
use Rattle.net_means.proofs.SideBits.Operands.{Ground, operand_has}

-- copies of wires have their bits
copies_bear : {net : Net} {path : List ℕ} {h : List Event} (n w : ℕ) {wires : List WireId} {b : List Bool} → Bears net path h wires b → length b ≡ w → HasCells net path (copy_cells n wires) → Bears net path h (last_wires n (copies n wires (w ∷ [])) (w ∷ [])) b
copies_bear n zero bears_nothing e has = bears_nothing
copies_bear n (suc w) bears_nothing e has = absurd (omega (arith, e))
copies_bear n zero (bears_bits value) e has = absurd (omega (arith, e))
copies_bear {net} {path} {h} n (suc w) (bears_bits {w = a} {bit = bit} {bits = bits} value) e has =
    let place : n ≡ n + 1 - 1 = omega arith in
    bears_bits {w = wire (n + 1 - 1)} (subst (λ k. ValueIn net path h k (bit ∷ bits)) place
    (operated path (Copy (wire n) a) n h ((bit ∷ bits) ∷ []) (has 0 (Copy (wire n) a) refl) tt refl (read_and path h a [] (bit ∷ bits) [] value (read_none path h))))

name_piece : {ground : Built} {scope : List Variable} {n w x : ℕ} {p : Piece} → ValueCells ground scope n w (var x) [] [] p → p ≡ copies n (wires_at scope x) (w ∷ [])
name_piece value_variable = refl

literal_piece : {ground : Built} {scope : List Variable} {n w : ℕ} {s : Scalar} {bits : List Bool} {p : Piece} → ValueCells ground scope n w (lit s bits) [] [] p → p ≡ one w (Const (wire n) bits)
literal_piece value_literal = refl

-- a literal is as wide as each type that it has up to naturals
literal_typed : {s : Setting} {kinds : List Kind} {vars : List TypeTree} {r : Scalar} {bits : List Bool} {u : TypeTree} → HasType s kinds vars (lit r bits) u → (u ≡ scalar r (nat_lit (length bits))) × (length bits ≤ widest)
literal_typed (h_lit l) = (refl, l)

literal_wide : Facts → (values : SameValues) (datas : List Data) (n : ℕ) (v : TypeTree) (s : Scalar) (w : ℕ) → SameTypes (nat_lit n) v → n ≤ widest → HasWidth datas (scalar s v) w → n ≡ w
unfolding natural_value
literal_wide facts values datas n v s w same l has =
    let number = facts.same_layout.same_number values same in
    let width = facts.widths.scalar_width has in
    omega (arith, number, width, l)

module _ (facts : Facts) (o : Origins) (order : List ℕ) (scope : List Variable) (γ : Thunks) (δ : TypeTrees) (net : Net) (path : List ℕ) (h : List Event) (n w : ℕ) (t : TypeTree) (piece : Piece) (values : SameValues) (keep : FieldsKeepSame) where
  pub name_bears : (x : ℕ) → SideGiven o order scope γ net path h n w t (var x) piece → SideHas o.program γ δ net path h t (var x) (last_wires n piece (w ∷ []))
  name_bears x g =
      let ground : Ground o = record { values = values; keep = keep; sound = g.sound } in
      let at = operand_has facts o ground scope g.scoped γ δ net path h x t t g.typed (facts.same.same_self t) (λ it e. g.variables x it at_itself e) in
      let is : piece ≡ copies n (wires_at scope x) (w ∷ []) = name_piece g.built in
      let cells : HasCells net path (copy_cells n (wires_at scope x)) = subst (λ (q : Piece). HasCells net path q.cells) is g.cells in
      record {
        bits = at.bits;
        carries = at.carries;
        bears = subst (λ (q : Piece). Bears net path h (last_wires n q (w ∷ [])) at.bits) (sym is) (copies_bear n w at.bears (facts.shows.shown_length (at.carries []) g.wide) cells);
      }

  pub literal_bears : (s : Scalar) (bits : List Bool) → SideGiven o order scope γ net path h n w t (lit s bits) piece → SideHas o.program γ δ net path h t (lit s bits) (last_wires n piece (w ∷ []))
  literal_bears s bits g =
      let typed = literal_typed g.typed.has in
      let at = facts.same.as_scalar (facts.same.same_turned (subst (SameTypes t) typed.0 g.typed.same)) in
      let wide : HasWidth o.program.datas (scalar s at.0) w = subst (λ t. HasWidth o.program.datas t w) at.1 g.wide in
      let size : length bits ≡ w = literal_wide facts values o.program.datas (length bits) at.0 s w at.2 typed.1 wide in
      let is : piece ≡ one w (Const (wire n) bits) = literal_piece g.built in
      let cells : HasCells net path (one w (Const (wire n) bits)).cells = subst (λ (q : Piece). HasCells net path q.cells) is g.cells in
      let last : Bears net path h (last_wires n (one w (Const (wire n) bits)) (length bits ∷ [])) bits =
      facts.cells.operator_bears w n (Const (wire n) bits) [] bits size (λ l. refl) tt refl (λ l. read_none path h) cells in
      record {
        bits = bits;
        carries = λ g. subst (λ t. Shows o.program t (closed (lit s bits) γ δ) g bits) (sym at.1) (facts.shows.literal_carries o.program s at.0 bits γ δ g (subst (HasWidth o.program.datas (scalar s at.0)) (sym size) wide));
        bears = subst (λ (q : Piece). Bears net path h (last_wires n q (w ∷ [])) bits) (sym is) (subst (λ k. Bears net path h (last_wires n (one w (Const (wire n) bits)) (k ∷ [])) bits) size last);
      }
