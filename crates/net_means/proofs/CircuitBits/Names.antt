-- Variables as right sides.
use Rattle.std.specs.Prelude.{slice_get}
use Rattle.std.proofs.Common.{◌≡◌, ℕ, suc, Bool, List, [], length, Some, sym, ap, ◌∙◌, subst, refl}
use Rattle.chw_base.specs.declared.index.WireId.{WireId}
use Rattle.chw_types.specs.SamePromises.{SameValues}
use Rattle.chw_types.specs.TypeTree.{TypeTree, TypeTrees}
use Rattle.type_laws.specs.SameKept.{FieldsKeepSame}
use Rattle.chw_terms.specs.declared.program.Program.{Program}
use Rattle.chw_terms.specs.declared.scene.Sort.TheVariants.{Circuit}
use Rattle.chw_terms.specs.TermTree.{var}
use Rattle.chw_typing.specs.Programs.{IsSound, setting_of}
use Rattle.chw_typing.specs.Alike.{AreLike}
use Rattle.rewriting.specs.Origins.{Origins}
use Rattle.chw_meaning.specs.Gives.{LeafOf}
use Rattle.chw_meaning.specs.Values.{History, Thunk, closed, Thunks, thunk_at}
use Rattle.chw_meaning.specs.Eval.{e_var, f_closed}
use Rattle.carrying.specs.Carrying.{Shows}
use Rattle.netlist.specs.declared.net.Net.{Net}
use Rattle.net_built.specs.Circuits.{Ground as Built, CircuitCells, of_variable}
use Rattle.net_built.specs.Data.{HasParts}
use Rattle.net_built.specs.Terms.{Variable, wires_at}
use Rattle.net_built.specs.Wires.{Piece, last_wires, copies, copy_cells}
use Rattle.cell_bits.specs.Bearing.{HasCells, Bears}
use Rattle.net_grounds.specs.Facts.{Facts}
use Rattle.net_means.proofs.SideBits.Operands.{sound_alone}
use Rattle.net_means.specs.CircuitBits.Leaves.{HasAllOf, part_wires, IsLeaf, LeafHas, VariableLeaf, CircuitGiven}
use Rattle.net_means.proofs.CircuitBits.PartWires.{copies_part}
use Rattle.net_means.proofs.CircuitBits.Ports.{leaf_follows, leaf_width, parts_along}
use Rattle.net_means.proofs.CircuitBits.Signals.{wires_there, operand_like}

-- a leaf of a thunk that has all that another one has, at a type that is the same
pub record LeafAlong (p : Program) (h : History) (u : TypeTree) (th : Thunk) (k : ℕ) (ws : List ℕ) (bits : List Bool) : Type 0 where
  pub leaf : LeafOf
  pub is : IsLeaf p.datas u th k leaf
  pub shows : Shows p leaf.payload leaf.thunk h bits
  pub long : slice_get ws k ≡ Some (length bits)

pub leaf_along : Facts → (p : Program) → IsSound (setting_of p) → SameValues → FieldsKeepSame → {net : Net} {path : List ℕ} {h : History} {t u : TypeTree} {on : Thunk} {wires : List WireId} {k : ℕ} (th : Thunk) (ws : List ℕ) (has : LeafHas p net path h t on wires k) → AreLike (setting_of p) t u → HasAllOf p h th on → HasParts p.datas Circuit u ws → LeafAlong p h u th k ws has.bits
leaf_along facts p sound values keep {h = h} th ws has like all parts =
    let f = leaf_follows facts p h sound keep th has.is like all in
    let shown = facts.shows.shown_same p sound values keep (facts.shows.shows_through f.has has.shows) f.like in
    let at = leaf_width facts parts f.is in
    record {
      leaf = f.other;
      is = f.is;
      shows = shown;
      long = at.1 ∙ ap (λ w. Some w) (sym (facts.shows.shown_length shown at.2));
    }

pub variable_has_all : {p : Program} {h : History} {x : ℕ} {γ : Thunks} {δ : TypeTrees} {th : Thunk} → thunk_at γ x ≡ Some th → HasAllOf p h (closed (var x) γ δ) th
variable_has_all there n v f = (suc n, f_closed (e_var there f))

name_piece : {ground : Built} {scope : List Variable} {n x : ℕ} {widths : List ℕ} {p : Piece} → CircuitCells ground scope n widths (var x) [] [] p → p ≡ copies n (wires_at scope x) widths
name_piece of_variable = refl

module _ (facts : Facts) (o : Origins) (order : List ℕ) (scope : List Variable) (γ : Thunks) (δ : TypeTrees) (net : Net) (path : List ℕ) (h : History) (n : ℕ) (widths : List ℕ) (t : TypeTree) (piece : Piece) (values : SameValues) (keep : FieldsKeepSame) where
  pub name_has : (x k : ℕ) → CircuitGiven o order scope net path n widths t (var x) piece → VariableLeaf o.program net path scope γ h x k → LeafHas o.program net path h t (closed (var x) γ δ) (last_wires n piece widths) k
  name_has x k g v =
      let p : Program = o.program in
      let sound = sound_alone o g.sound in
      let like = operand_like facts o scope x v.it t g.sound g.scoped v.known g.typed in
      let along = leaf_along facts p sound values keep (closed (var x) γ δ) widths v.has like (variable_has_all v.there) g.parts in
      let same : v.has.widths ≡ widths = facts.built.parts_once (parts_along facts p h sound values keep v.thunk v.has.parts like) g.parts in
      let wires = wires_there scope x v.it v.known in
      let is : piece ≡ copies n (wires_at scope x) widths = name_piece g.built in
      let cells : HasCells net path (copy_cells n (wires_at scope x)) = subst (λ (q : Piece). HasCells net path q.cells) is g.cells in
      let bears : Bears net path h (part_wires k widths (wires_at scope x)) v.has.bits =
      subst (λ ws. Bears net path h (part_wires k ws (wires_at scope x)) v.has.bits) same
      (subst (λ ws. Bears net path h (part_wires k v.has.widths ws) v.has.bits) (sym wires) v.has.bears) in
      record {
        widths = widths;
        parts = g.parts;
        leaf = along.leaf;
        is = along.is;
        bits = v.has.bits;
        shows = along.shows;
        bears = subst (λ (q : Piece). Bears net path h (part_wires k widths (last_wires n q widths)) v.has.bits) (sym is) (copies_part k n widths (wires_at scope x) v.has.bits bears along.long cells);
      }
