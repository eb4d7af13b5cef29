-- What is promised of block RAMs.
use Rattle.std.specs.Prelude.{◌≡◌, ℕ, zero, ◌+◌, List, [], ◌∷◌, Some, slice_get}
use Rattle.chw_clock.specs.Histories.{before}
use Rattle.chw_types.specs.TypeTree.{TypeTree, TypeTrees, domain}
use Rattle.chw_prims.specs.declared.prim.Primitive.TheVariants.{BlockRam}
use Rattle.chw_terms.specs.TermTree.{TermTree}
use Rattle.rewriting.specs.Origins.{Origins}
use Rattle.normal_forms.specs.Circuits.{IsConstant, beginning_with, content_type}
use Rattle.chw_layout.specs.Encodes.{HaveConstructors}
use Rattle.chw_layout.specs.Measured.{HasWidth}
use Rattle.chw_meaning.specs.Eval.{dom}
use Rattle.chw_meaning.specs.Values.{History, closed, Thunks}
use Rattle.netlist.specs.declared.net.Net.{Net}
use Rattle.net_built.specs.Terms.{Variable}
use Rattle.net_built.specs.Wires.{Piece, wire, last_wires}
use Rattle.use_laws.specs.ValueIn.{HasWidthAt}
use Rattle.net_means.specs.CircuitBits.Leaves.{VariableLeaf, CircuitGiven, LeafHas}

-- the second history ends at a tick of the domain before the present event of the first
pub data IsEarlier (d : ℕ) : History → History → Type 0 where
  last_before : {h g : History} → before h (dom d) ≡ Some g → IsEarlier d h g
  further_before : {h g k : History}
      → before h (dom d) ≡ Some g → IsEarlier d g k → IsEarlier d h k

-- in the instance the wires from this number on have these widths
abbrev pub HasWidths : Net → List ℕ → ℕ → List ℕ → Type 0
HasWidths net path n widths =
    (i w : ℕ) → slice_get widths i ≡ Some w → HasWidthAt net path (wire (n + i)) w

-- what a block RAM takes: a constant, of a type with a width; data types with constructors, for it
-- shows zeros; the widths of its wires; and at each earlier tick the address to read and the write
pub record MemoryTakes (o : Origins) (net : Net) (path : List ℕ) (scope : List Variable)
    (γ : Thunks) (h : History) (n d x y : ℕ) (m a : TypeTree) (c : TermTree) (piece : Piece)
    : Type 0 where
  pub constant : IsConstant o.program.datas c
  pub size : ℕ
  pub wide : HasWidth o.program.datas (content_type m a) size
  pub constructors : HaveConstructors o.program.datas
  pub widths : HasWidths net path n piece.widths
  pub read : (g : History) → IsEarlier d h g → VariableLeaf o.program net path scope γ g x zero
  pub write : (g : History) → IsEarlier d h g → VariableLeaf o.program net path scope γ g y zero

-- then its leaf has bits
abbrev pub MemoriesHave : Type 0
MemoriesHave =
    (d : ℕ) (m k a : TypeTree) (c : TermTree) (x y : ℕ) (o : Origins) (order : List ℕ)
    (scope : List Variable) (γ : Thunks) (δ : TypeTrees) (net : Net) (path : List ℕ)
    (h : History) (n : ℕ) (widths : List ℕ) (t : TypeTree) (piece : Piece)
    → CircuitGiven o order scope net path n widths t
    (beginning_with BlockRam (domain d ∷ m ∷ k ∷ a ∷ []) c (x ∷ y ∷ [])) piece
    → MemoryTakes o net path scope γ h n d x y m a c piece
    → LeafHas o.program net path h t
    (closed (beginning_with BlockRam (domain d ∷ m ∷ k ∷ a ∷ []) c (x ∷ y ∷ [])) γ δ)
    (last_wires n piece widths) zero
