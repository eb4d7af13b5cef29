-- What is promised of the order of wires.
use Rattle.std.specs.Prelude.{◌≡◌, ℕ, zero, suc, ◌+◌, ◌<◌, ◌≤◌, List, [], ◌∷◌, ◌++◌, length}
use Rattle.std.specs.Prelude.{Bool, map, Some, slice_get}
use Rattle.chw_base.specs.declared.index.ConId.{ConId}
use Rattle.chw_base.specs.declared.index.WireId.{WireId}
use Rattle.chw_types.specs.declared.declarations.Data.{Data}
use Rattle.chw_types.specs.declared.kind.Scalar.{Scalar}
use Rattle.chw_types.specs.TypeTree.{TypeTree}
use Rattle.chw_types.specs.TypeView.{trees_of}
use Rattle.chw_prims.specs.declared.prim.Primitive.{Primitive as Prim}
use Rattle.chw_prims.specs.declared.prim.Primitive.TheVariants.{VGet, VAt, UnsafeSynchronizer}
use Rattle.chw_prims.specs.Schemas.{schema_type}
use Rattle.chw_terms.specs.Constructors.{Constructor, con_at}
use Rattle.chw_terms.specs.declared.scene.Sort.TheVariants.{Circuit}
use Rattle.chw_terms.specs.declared.term.Pattern.TheVariants.{OfCon}
use Rattle.chw_terms.specs.TermTree.{TermTree, var, made, con, prim, lit, vec_lit, case_of}
use Rattle.chw_terms.specs.TermTree.{Alts, no_alts, alt}
use Rattle.chw_terms.specs.TermView.{terms_of}
use Rattle.chw_typing.specs.Alternatives.{IsCovered}
use Rattle.chw_typing.specs.HeadTypes.{fields_at, PatternOf}
use Rattle.rewriting.specs.Origins.{Origins}
use Rattle.rewriting.specs.Spots.{asked_for, IsOnWords}
use Rattle.normal_forms.specs.Values.{on_names, IsSide}
use Rattle.chw_meaning.specs.Eval.{choice, looks}
use Rattle.netlist.specs.Orders.{IsOrder}
use Rattle.netlist.specs.declared.net.Flat.{Flat}
use Rattle.netlist.specs.declared.net.Module.{Module}
use Rattle.netlist.specs.declared.net.Net.{Net}
use Rattle.net_flat.specs.Flattened.{IsFlatOf}
use Rattle.net_built.specs.Circuits.{HaveParts}
use Rattle.net_built.specs.Data.{HasParts, Tested, tested_of, field_cuts, variables_from}
use Rattle.net_built.specs.Data.{case_cells, case_wires}
use Rattle.net_built.specs.Terms.{head_of, Variable}
use Rattle.net_built.specs.Wires.{Piece, wire_count, new_wires, last_wires}
use Rattle.cell_bits.specs.Bearing.{HasCells}
use Rattle.net_means.specs.SideBits.Cases.{alts_count, AreTested}
use Rattle.net_means.specs.SideBits.Sides.{types_in, LooksAt}
use Rattle.net_means.specs.CircuitBits.Leaves.{CircuitGiven, part_wires, leaves_before}
use Rattle.net_means.specs.CircuitBits.Uses.{UsedAt}
use Rattle.net_means.specs.WireOrder.Awaits.{AllSettle, Ranked}
use Rattle.net_means.specs.WireOrder.Sides.{SideLaid}

-- where the flat net has an order, the wires of instances have ranks
abbrev pub SettledInOrder : Type 0
SettledInOrder =
    (net : Net) (flat : Flat) (places : List ℕ)
    → IsFlatOf net flat → IsOrder flat places → Ranked net

-- the last wire of a right side of a value settles by the wires of each variable at which it looks
abbrev pub SideSettles : TermTree → Type 0
SideSettles e =
    (o : Origins) (order : List ℕ) (scope : List Variable) (net : Net) (path : List ℕ) (n w : ℕ)
    (t : TypeTree) (piece : Piece) (x : ℕ) (it : Variable)
    → SideLaid o order scope net path n w t e piece
    → LooksAt e x → slice_get scope x ≡ Some it
    → AllSettle net path (last_wires n piece (w ∷ [])) path it.wires

-- so it is with a variable
abbrev pub NamesSettle : Type 0
NamesSettle = (x : ℕ) → SideSettles (var x)

-- with a literal, which looks at none
abbrev pub LiteralsSettle : Type 0
LiteralsSettle = (s : Scalar) (bits : List Bool) → SideSettles (lit s bits)

-- with a vector of variables
abbrev pub VectorsSettle : Type 0
VectorsSettle =
    (t : TypeTree) (xs : List ℕ) → SideSettles (vec_lit t (terms_of (map (λ x. var x) xs)))

-- with a constructor on types and variables
abbrev pub ConstructorsSettle : Type 0
ConstructorsSettle =
    (c : ℕ) (types : List TypeTree) (xs : List ℕ) → SideSettles (on_names (con c) types xs)

-- with a primitive on words, with all that its type asks for
abbrev pub PrimitivesSettle : Type 0
PrimitivesSettle =
    (q : Prim) (types : List TypeTree) (xs : List ℕ)
    → IsOnWords q → length types + length xs ≡ asked_for (schema_type q)
    → SideSettles (on_names (prim q) types xs)

-- with an element of a vector, by its number
abbrev pub ElementsSettle : Type 0
ElementsSettle =
    (i m a : TypeTree) (x : ℕ) → SideSettles (on_names (prim VGet) (i ∷ m ∷ a ∷ []) (x ∷ []))

-- and by an index
abbrev pub IndexedSettle : Type 0
IndexedSettle =
    (m k a : TypeTree) (x y : ℕ)
    → SideSettles (on_names (prim VAt) (m ∷ k ∷ a ∷ []) (x ∷ y ∷ []))

-- so each right side of a normal block that is no call; a case has other cells than these
abbrev pub SidesSettle : Type 0
SidesSettle =
    (e : TermTree) (o : Origins) (order : List ℕ) (scope : List Variable) (net : Net)
    (path : List ℕ) (n w : ℕ) (t : TypeTree) (piece : Piece) (x : ℕ) (it : Variable)
    → IsSide o (types_in scope) e → ((m : ℕ) → ¬ (head_of e ≡ made m))
    → SideLaid o order scope net path n w t e piece
    → LooksAt e x → slice_get scope x ≡ Some it
    → AllSettle net path (last_wires n piece (w ∷ [])) path it.wires

-- the wires of a case of several alternatives settle by those of each result
abbrev pub ResultsSettle : Type 0
ResultsSettle =
    (net : Net) (path : List ℕ) (on : Tested) (alts : Alts) (w n k : ℕ) (p : Piece)
    (results : List (List WireId)) (wires : List WireId)
    → HasCells net path (case_cells on alts w n p results).cells
    → 2 ≤ alts_count alts → length results ≡ alts_count alts
    → slice_get results k ≡ Some wires → length wires ≡ wire_count (w ∷ [])
    → AllSettle net path (case_wires on alts w n p results) path wires

-- and by those of the variable that is tested, of which there is a bit that is tested
abbrev pub TestedSettle : Type 0
TestedSettle =
    (net : Net) (path : List ℕ) (datas : List Data) (u : TypeTree) (whole : ℕ)
    (wires : List WireId) (on : Tested) (alts : Alts) (w n : ℕ) (p : Piece)
    (results : List (List WireId))
    → on ≡ tested_of datas u whole n wires → length wires ≡ wire_count (whole ∷ [])
    → HasCells net path (case_cells on alts w n p results).cells
    → 2 ≤ alts_count alts → length results ≡ alts_count alts → 0 < on.bits
    → AllSettle net path (case_wires on alts w n p results) path wires

-- so it is wherever the meaning of the case looks at what is tested. A case of one alternative has
-- the wires of its result, and settles by the tested variable only as far as that does.
abbrev pub LooksSettle : Type 0
LooksSettle =
    (net : Net) (path : List ℕ) (datas : List Data) (u : TypeTree) (whole : ℕ)
    (wires : List WireId) (on : Tested) (alts : Alts) (w n : ℕ) (p : Piece)
    (results : List (List WireId))
    → AreTested datas u whole alts → choice datas alts ≡ looks
    → on ≡ tested_of datas u whole n wires → length wires ≡ wire_count (whole ∷ [])
    → HasCells net path (case_cells on alts w n p results).cells
    → 2 ≤ alts_count alts → length results ≡ alts_count alts
    → AllSettle net path (case_wires on alts w n p results) path wires

-- a case that leaves nothing out has several alternatives where its meaning looks
abbrev pub LooksHaveSeveral : Type 0
LooksHaveSeveral =
    (datas : List Data) (alts : Alts)
    → IsCovered datas alts → choice datas alts ≡ looks → 2 ≤ alts_count alts

-- a case of one alternative has the wires of its result
abbrev pub OneResult : Type 0
OneResult =
    (on : Tested) (alts : Alts) (w n : ℕ) (p : Piece) (wires : List WireId)
    → alts_count alts ≡ 1 → case_wires on alts w n p (wires ∷ []) ≡ wires

-- the wires of a field that is cut out settle by those of the variable from which it is cut
abbrev pub FieldsSettle : Type 0
FieldsSettle =
    (net : Net) (path : List ℕ) (below whole n y : ℕ) (wires : List WireId)
    (fields : List TypeTree) (widths : List ℕ) (v : Variable)
    → HasCells net path (field_cuts below wires widths n).cells
    → length wires ≡ wire_count (whole ∷ [])
    → slice_get (variables_from n fields widths) y ≡ Some v
    → AllSettle net path v.wires path wires

-- a variable as a circuit's right side settles at each part by the same part of what it names
abbrev pub CopiesSettle : Type 0
CopiesSettle =
    (o : Origins) (order : List ℕ) (scope : List Variable) (net : Net) (path : List ℕ) (n : ℕ)
    (widths own : List ℕ) (t : TypeTree) (piece : Piece) (x k : ℕ) (it : Variable)
    → CircuitGiven o order scope net path n widths t (var x) piece
    → slice_get scope x ≡ Some it → HasParts o.program.datas Circuit it.ty own
    → AllSettle net path (part_wires k widths (last_wires n piece widths)) path
    (part_wires k own it.wires)

-- so does a signal that is taken into another domain
abbrev pub CrossingsSettle : Type 0
CrossingsSettle =
    (o : Origins) (order : List ℕ) (scope : List Variable) (net : Net) (path : List ℕ) (n : ℕ)
    (widths own : List ℕ) (d e a t : TypeTree) (piece : Piece) (x : ℕ) (it : Variable)
    → CircuitGiven o order scope net path n widths t
    (on_names (prim UnsafeSynchronizer) (d ∷ e ∷ a ∷ []) (x ∷ [])) piece
    → slice_get scope x ≡ Some it → HasParts o.program.datas Circuit it.ty own
    → AllSettle net path (part_wires zero widths (last_wires n piece widths)) path
    (part_wires zero own it.wires)

-- a product settles at a leaf of a field by this leaf of the field's variable
abbrev pub ProductsSettle : Type 0
ProductsSettle =
    (o : Origins) (order : List ℕ) (scope : List Variable) (net : Net) (path : List ℕ) (n : ℕ)
    (widths own : List ℕ) (t : TypeTree) (piece : Piece) (c : ℕ) (types : List TypeTree)
    (xs : List ℕ) (parts : List (List ℕ)) (i j x : ℕ) (con_of : Constructor) (it : Variable)
    → CircuitGiven o order scope net path n widths t (on_names (con c) types xs) piece
    → con_at o.program.datas c ≡ Some con_of
    → HaveParts o.program.datas (fields_at con_of (trees_of types)) parts
    → slice_get xs i ≡ Some x → slice_get scope x ≡ Some it
    → HasParts o.program.datas Circuit it.ty own → j < length own
    → AllSettle net path
    (part_wires (leaves_before i parts + j) widths (last_wires n piece widths)) path
    (part_wires j own it.wires)

-- the parts of a projection are those of the field that it takes
abbrev pub ProjectedParts : Type 0
ProjectedParts =
    (o : Origins) (order : List ℕ) (scope : List Variable) (net : Net) (path : List ℕ) (n : ℕ)
    (widths : List ℕ) (t : TypeTree) (piece : Piece) (c : ConId) (count x z i : ℕ)
    (fields : List TypeTree) (parts : List (List ℕ)) (it : Variable)
    → z + suc i ≡ count
    → CircuitGiven o order scope net path n widths t
    (case_of (var x) (alt (OfCon c count) (var z) no_alts)) piece
    → slice_get scope x ≡ Some it → PatternOf o.program.datas it.ty (OfCon c count) fields
    → HaveParts o.program.datas fields parts → slice_get parts i ≡ Some widths

-- a projection settles at a leaf by the leaf of the field in the variable that is taken apart
abbrev pub ProjectionsSettle : Type 0
ProjectionsSettle =
    (o : Origins) (order : List ℕ) (scope : List Variable) (net : Net) (path : List ℕ) (n : ℕ)
    (widths whole one : List ℕ) (t : TypeTree) (piece : Piece) (c : ConId) (count x z i j : ℕ)
    (fields : List TypeTree) (parts : List (List ℕ)) (it : Variable)
    → z + suc i ≡ count
    → CircuitGiven o order scope net path n widths t
    (case_of (var x) (alt (OfCon c count) (var z) no_alts)) piece
    → slice_get scope x ≡ Some it → HasParts o.program.datas Circuit it.ty whole
    → PatternOf o.program.datas it.ty (OfCon c count) fields
    → HaveParts o.program.datas fields parts → slice_get parts i ≡ Some one → j < length one
    → AllSettle net path (part_wires j widths (last_wires n piece widths)) path
    (part_wires (leaves_before i parts + j) whole it.wires)

-- a part of what a use gives settles by this part of the outputs of the used instance
abbrev pub UsesSettle : Type 0
UsesSettle =
    (net : Net) (path : List ℕ) (inner : Module) (n k : ℕ) (widths : List ℕ)
    (reads : List WireId) (at : UsedAt net path reads (new_wires n widths) inner)
    → AllSettle net path (part_wires k widths (new_wires n widths)) (at.place ∷ path)
    (part_wires k widths inner.outputs)

-- and a part of an input of the used instance by this part of the operand that is read
abbrev pub InputsSettle : Type 0
InputsSettle =
    (net : Net) (path : List ℕ) (inner : Module) (front wires back drives : List WireId)
    (widths : List ℕ) (k : ℕ) (at : UsedAt net path (front ++ (wires ++ back)) drives inner)
    → AllSettle net (at.place ∷ path)
    (part_wires k widths (new_wires (length front) widths)) path (part_wires k widths wires)

-- the wires of what a use of a value gives settle by the outputs of the used instance
abbrev pub ValueUsesSettle : Type 0
ValueUsesSettle =
    (net : Net) (path : List ℕ) (inner : Module) (n w : ℕ) (reads : List WireId)
    (at : UsedAt net path reads (new_wires n (w ∷ [])) inner)
    → length inner.outputs ≡ wire_count (w ∷ [])
    → AllSettle net path (new_wires n (w ∷ [])) (at.place ∷ path) inner.outputs

-- and those of an input of a value by the operand that is read
abbrev pub ValueInputsSettle : Type 0
ValueInputsSettle =
    (net : Net) (path : List ℕ) (inner : Module) (front wires back drives : List WireId) (w : ℕ)
    (at : UsedAt net path (front ++ (wires ++ back)) drives inner)
    → length wires ≡ wire_count (w ∷ [])
    → AllSettle net (at.place ∷ path) (new_wires (length front) (w ∷ [])) path wires
