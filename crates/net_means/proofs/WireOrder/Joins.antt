-- Vectors and constructors as right sides.
use Rattle.std.specs.Prelude.{◌-◌}
use Rattle.std.proofs.Common.{◌≡◌, ◌<◌, ℕ, ◌+◌, List, [], ◌∷◌, ◌++◌, length, Some, slice_get, refl, sym, ap, ◌∙◌, subst}
use Rattle.chw_base.specs.declared.index.WireId.{WireId}
use Rattle.chw_bits.specs.Bits.{bits_of}
use Rattle.chw_types.specs.TypeTree.{TypeTree}
use Rattle.chw_terms.specs.TermTree.{TermTree, con, vec_lit, Terms}
use Rattle.chw_terms.specs.TermView.{terms_of}
use Rattle.rewriting.specs.Origins.{Origins}
use Rattle.normal_forms.specs.Values.{on_names}
use Rattle.netlist.specs.declared.net.Cell.TheVariants.{Const, Join}
use Rattle.netlist.specs.declared.net.Net.{Net}
use Rattle.net_built.specs.Bodies.{ValueCells, value_constructor, value_vector}
use Rattle.net_built.specs.Circuits.{Ground as Built}
use Rattle.net_built.specs.Data.{constructed}
use Rattle.net_built.specs.Terms.{list_of, Variable, wires_of_all}
use Rattle.net_built.specs.Wires.{wire, new_wires, Piece, one, ◌▸◌, after, last_wires}
use Rattle.net_built.specs.Words.{zeros}
use Rattle.cell_bits.specs.Bearing.{HasCells}
use Rattle.net_means.specs.SideBits.Sides.{LooksAt}
use Rattle.net_means.proofs.SideBits.Heads.{names, IsHead, built_at}
use Rattle.net_means.specs.WireOrder.Awaits.{AllSettle}
use Rattle.net_means.specs.WireOrder.Sides.{SideLaid}
use Rattle.net_means.proofs.WireOrder.Looks.{View, itself, of_element, of_operand, view, Looked, looked, named, among_all}
use Rattle.net_means.proofs.WireOrder.Reached.{back_cells, Ends, then_ends, in_front, behind, last_settle}
use Rattle.net_means.proofs.WireOrder.WordForms.{joined_ends}

listed : (es : List TermTree) → list_of (terms_of es) ≡ es
listed [] = refl
listed (e ∷ es) = ap (λ l. e ∷ l) (listed es)

vector_piece : {ground : Built} {scope : List Variable} {n w : ℕ} {u : TypeTree} (es : List TermTree) {p : Piece} → ValueCells ground scope n w (vec_lit u (terms_of es)) [] [] p → p ≡ one w (Join (wire n) (wires_of_all scope es))
vector_piece {scope = scope} {n = n} {w = w} es value_vector = ap (λ es. one w (Join (wire n) (wires_of_all scope es))) (listed es)

-- of a constructor's cells the numbers
record ConPiece (scope : List Variable) (n w : ℕ) (es : List TermTree) (p : Piece) : Type 0 where
  tag : ℕ
  number : ℕ
  fields : ℕ
  is : p ≡ constructed tag number fields w n (wires_of_all scope es)

con_piece : {ground : Built} {scope : List Variable} {n w c : ℕ} {types : List TypeTree} {es : List TermTree} {p : Piece} → ValueCells ground scope n w (con c) types es p → ConPiece scope n w es p
con_piece (value_constructor at measured) = record { tag = _; number = _; fields = _; is = refl }

module _ (net : Net) (path : List ℕ) where
  constructed_ends : (tag number fields width at k : ℕ) (wires : List WireId) (v : WireId) → 0 < width → slice_get wires k ≡ Some v → HasCells net path (constructed tag number fields width at wires).cells → Ends net path at (constructed tag number fields width at wires) v
  constructed_ends tag number fields width at k wires v some e has =
      let padding : ℕ = width - (tag + fields) in
      let p : Piece = one tag (Const (wire at) (bits_of tag number)) in
      let q : Piece = one padding (Const (wire (after at p)) (zeros padding)) in
      let front : List WireId = new_wires at (tag ∷ []) in
      let back : List WireId = new_wires (after at p) (padding ∷ []) in
      let r : Piece = one width (Join (wire (after (after at p) q)) ((front ++ wires) ++ back)) in
      let own : HasCells net path r.cells = back_cells net path q.cells r.cells (back_cells net path p.cells (q.cells ++ r.cells) has) in
      then_ends net path at p (q ▸ r) v
      (then_ends net path (after at p) q r v
      (joined_ends net path width (after (after at p) q) (length front + k) ((front ++ wires) ++ back) v some (in_front (front ++ wires) back (length front + k) v (behind front wires k (length front + k) v refl e)) own))

module _ (o : Origins) (order : List ℕ) (scope : List Variable) (net : Net) (path : List ℕ) (n w : ℕ) (t : TypeTree) (piece : Piece) where
  pub vector_settles : (u : TypeTree) (xs : List ℕ) (x : ℕ) (it : Variable) → SideLaid o order scope net path n w t (vec_lit u (terms_of (names xs))) piece → LooksAt (vec_lit u (terms_of (names xs))) x → slice_get scope x ≡ Some it
      → AllSettle net path (last_wires n piece (w ∷ [])) path it.wires
  vector_settles u xs x it g looks known = by (view looks)
    where
      by : View (vec_lit u (terms_of (names xs))) x → AllSettle net path (last_wires n piece (w ∷ [])) path it.wires
      by (itself e) = absurd cc
      by (of_element r es i e at) =
          let same : es ≡ terms_of (names xs) = cc in
          let place : slice_get xs i ≡ Some x = named xs i x (ap (λ es. slice_get es i) (sym (listed (names xs)) ∙ ap (λ (es : Terms). list_of es) (sym same)) ∙ at) in
          let wires : List WireId = wires_of_all scope (names xs) in
          let is : piece ≡ one w (Join (wire n) wires) = vector_piece (names xs) g.built in
          let cells = subst (λ (q : Piece). HasCells net path q.cells) is g.cells in
          subst (λ (q : Piece). AllSettle net path (last_wires n q (w ∷ [])) path it.wires) (sym is)
          (last_settle net path n w (one w (Join (wire n) wires)) it.wires
          (λ some j v e. let there = among_all scope xs i x j it v place known e in joined_ends net path w n there.0 wires v some there.1 cells))
      by (of_operand i at busy) = absurd cc

  pub constructor_settles : (c : ℕ) (types : List TypeTree) (xs : List ℕ) (x : ℕ) (it : Variable) → SideLaid o order scope net path n w t (on_names (con c) types xs) piece → LooksAt (on_names (con c) types xs) x → slice_get scope x ≡ Some it
      → AllSettle net path (last_wires n piece (w ∷ [])) path it.wires
  constructor_settles c types xs x it g looks known =
      let head : IsHead (con c) = record { head = refl; types = refl; operands = refl } in
      let at : Looked (con c) types xs x = looked head ((λ y e. absurd cc), (λ t es e. absurd cc)) types xs x looks in
      let q : ConPiece scope n w (names xs) piece = con_piece (built_at head types xs g.built) in
      let wires : List WireId = wires_of_all scope (names xs) in
      let cells = subst (λ (q : Piece). HasCells net path q.cells) q.is g.cells in
      subst (λ (q : Piece). AllSettle net path (last_wires n q (w ∷ [])) path it.wires) (sym q.is)
      (last_settle net path n w (constructed q.tag q.number q.fields w n wires) it.wires
      (λ some j v e. let there = among_all scope xs at.i x j it v at.at known e in constructed_ends net path q.tag q.number q.fields w n there.0 wires v some there.1 cells))
