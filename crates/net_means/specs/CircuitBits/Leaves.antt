-- Leaves of circuits' variables: what they show at a history, and which bits their wires have.
use Rattle.std.specs.Prelude.{◌≡◌, ℕ, zero, suc, ◌+◌, ◌<◌, Bool, List, [], ◌∷◌, length}
use Rattle.std.specs.Prelude.{Some, drop, take, slice_get}
use Rattle.chw_base.specs.declared.index.ConId.{ConId}
use Rattle.chw_base.specs.declared.index.WireId.{WireId}
use Rattle.chw_types.specs.declared.declarations.Data.{Data}
use Rattle.chw_types.specs.declared.kind.Kind.{Kind}
use Rattle.chw_types.specs.TypeTree.{TypeTree}
use Rattle.chw_types.specs.TypeView.{trees_of}
use Rattle.chw_terms.specs.Constructors.{Constructor, con_at}
use Rattle.chw_terms.specs.declared.program.Program.{Program}
use Rattle.chw_terms.specs.declared.scene.Sort.TheVariants.{Circuit}
use Rattle.chw_terms.specs.declared.term.Pattern.TheVariants.{OfCon}
use Rattle.chw_terms.specs.TermTree.{TermTree}
use Rattle.chw_typing.specs.HeadTypes.{fields_at, PatternOf}
use Rattle.chw_typing.specs.Programs.{IsSound}
use Rattle.chw_typing.specs.Scopes.{HasKind, AreTermTypes}
use Rattle.chw_typing.specs.Typing.{HasTypeUpTo}
use Rattle.rewriting.specs.Origins.{Origins, setting_at}
use Rattle.chw_meaning.specs.Gives.{LeafOf, PortLeaves}
use Rattle.chw_meaning.specs.Values.{History, Value, Thunk, Thunks, thunk_at}
use Rattle.chw_meaning.specs.Eval.{Forces}
use Rattle.carrying.specs.Carrying.{Shows}
use Rattle.netlist.specs.declared.net.Net.{Net}
use Rattle.net_built.specs.Circuits.{CircuitCells, HaveParts}
use Rattle.net_built.specs.Data.{HasParts}
use Rattle.net_built.specs.Terms.{head_of, types_of, operands_of, Variable}
use Rattle.net_built.specs.Wires.{Piece, wire_count}
use Rattle.cell_bits.specs.Bearing.{HasCells, Bears}
use Rattle.net_means.specs.SideBits.Sides.{ground_of, types_in}

-- the first thunk has at the history whatever the second one has there
abbrev pub HasAllOf : Program → History → Thunk → Thunk → Type 0
HasAllOf p h th on = (n : ℕ) (v : Value) → Forces p n on h v → (m : ℕ) × Forces p m th h v

-- of wires of parts of these widths those of the part of this number; a part without bits has none
abbrev pub part_wires : ℕ → List ℕ → List WireId → List WireId
part_wires k [] wires = []
part_wires zero (w ∷ widths) wires = take (wire_count (w ∷ [])) wires
part_wires (suc k) (w ∷ widths) wires = part_wires k widths (drop (wire_count (w ∷ [])) wires)

-- before the leaves of the field of this number stand so many, where the fields have these parts
abbrev pub leaves_before : ℕ → List (List ℕ) → ℕ
leaves_before i [] = 0
leaves_before zero (widths ∷ parts) = 0
leaves_before (suc i) (widths ∷ parts) = length widths + leaves_before i parts

-- a thunk of the port has this leaf at this number
pub record IsLeaf (datas : List Data) (t : TypeTree) (th : Thunk) (k : ℕ) (leaf : LeafOf) : Type 0
  where
    pub leaves : List LeafOf
    pub are : PortLeaves datas t th leaves
    pub at : slice_get leaves k ≡ Some leaf

-- at the history the thunk of the port shows bits at the leaf of this number, and in the instance
-- they are on those of these wires that are the leaf's
pub record LeafHas (p : Program) (net : Net) (path : List ℕ) (h : History) (t : TypeTree)
    (th : Thunk) (wires : List WireId) (k : ℕ) : Type 0 where
  pub widths : List ℕ
  pub parts : HasParts p.datas Circuit t widths
  pub leaf : LeafOf
  pub is : IsLeaf p.datas t th k leaf
  pub bits : List Bool
  pub shows : Shows p leaf.payload leaf.thunk h bits
  pub bears : Bears net path h (part_wires k widths wires) bits

-- so a variable in scope does
pub record VariableLeaf (p : Program) (net : Net) (path : List ℕ) (scope : List Variable)
    (γ : Thunks) (h : History) (x k : ℕ) : Type 0 where
  pub it : Variable
  pub known : slice_get scope x ≡ Some it
  pub thunk : Thunk
  pub there : thunk_at γ x ≡ Some thunk
  pub has : LeafHas p net path h it.ty thunk it.wires k

-- of a product on these variables, where its fields have these parts: the field of this number is a
-- variable that has this leaf
pub record FieldLeaf (p : Program) (net : Net) (path : List ℕ) (scope : List Variable)
    (γ : Thunks) (h : History) (c : ℕ) (types : List TypeTree) (xs : List ℕ)
    (parts : List (List ℕ)) (i j : ℕ) : Type 0 where
  pub it : Constructor
  pub known : con_at p.datas c ≡ Some it
  pub have : HaveParts p.datas (fields_at it (trees_of types)) parts
  pub x : ℕ
  pub is : slice_get xs i ≡ Some x
  pub leaf : VariableLeaf p net path scope γ h x j

-- of a variable whose fields have these parts: one has as many as these widths, and of that one's
-- leaves the variable has the one of this number
pub record ProjectedLeaf (p : Program) (net : Net) (path : List ℕ) (scope : List Variable)
    (γ : Thunks) (h : History) (c : ConId) (count x : ℕ) (parts : List (List ℕ)) (i j : ℕ)
    : Type 0 where
  pub leaf : VariableLeaf p net path scope γ h x (leaves_before i parts + j)
  pub fields : List TypeTree
  pub pattern : PatternOf p.datas leaf.it.ty (OfCon c count) fields
  pub have : HaveParts p.datas fields parts
  pub widths : List ℕ
  pub one : slice_get parts i ≡ Some widths
  pub within : j < length widths

-- each variable in scope has the wires of its parts
abbrev pub AreHeld : List Data → List Variable → Type 0
AreHeld datas scope =
    (x : ℕ) (it : Variable) → slice_get scope x ≡ Some it
    → (widths : List ℕ) × HasParts datas Circuit it.ty widths
    × (length it.wires ≡ wire_count widths)

-- a right side of a circuit, of this type and with parts of these widths, among these variables:
-- the instance has its cells
pub record CircuitGiven (o : Origins) (order : List ℕ) (scope : List Variable) (net : Net)
    (path : List ℕ) (n : ℕ) (widths : List ℕ) (t : TypeTree) (e : TermTree) (piece : Piece)
    : Type 0 where
  pub sound : IsSound (setting_at o)
  pub scoped : AreTermTypes (setting_at o) [] (types_in scope)
  pub held : AreHeld o.program.datas scope
  pub typed : HasTypeUpTo (setting_at o) [] (types_in scope) e t
  pub kind : Kind
  pub kinded : HasKind (setting_at o) [] t kind
  pub parts : HasParts o.program.datas Circuit t widths
  pub built :
      CircuitCells (ground_of o.program order) scope n widths (head_of e) (types_of e)
      (operands_of e) piece
  pub cells : HasCells net path piece.cells
