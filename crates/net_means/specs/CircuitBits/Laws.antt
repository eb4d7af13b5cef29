-- What is promised of right sides of circuits.
use Rattle.std.specs.Prelude.{◌≡◌, ℕ, zero, suc, ◌+◌, ◌<◌, List, [], ◌∷◌, length, Some}
use Rattle.std.specs.Prelude.{slice_get}
use Rattle.chw_base.specs.declared.index.ConId.{ConId}
use Rattle.chw_base.specs.declared.index.WireId.{WireId}
use Rattle.chw_clock.specs.Histories.{taken}
use Rattle.chw_types.specs.declared.declarations.Data.{Data}
use Rattle.chw_types.specs.TypeTree.{TypeTree, TypeTrees, domain, data_of}
use Rattle.chw_prims.specs.declared.prim.Primitive.TheVariants.{Register, UnsafeSynchronizer}
use Rattle.chw_terms.specs.Constructors.{Constructor, con_at}
use Rattle.chw_terms.specs.declared.program.Program.{Program}
use Rattle.chw_terms.specs.declared.scene.Sort.TheVariants.{Circuit}
use Rattle.chw_terms.specs.declared.term.Pattern.TheVariants.{OfCon}
use Rattle.chw_terms.specs.TermTree.{TermTree, var, con, prim, case_of, no_alts, alt}
use Rattle.chw_typing.specs.HeadTypes.{fields_at}
use Rattle.rewriting.specs.Origins.{Origins}
use Rattle.rewriting.specs.Shapes.{pure_of}
use Rattle.normal_forms.specs.Circuits.{IsConstant, beginning_with}
use Rattle.normal_forms.specs.Values.{on_names}
use Rattle.chw_meaning.specs.Eval.{dom}
use Rattle.chw_meaning.specs.Values.{History, Thunk, closed, Thunks}
use Rattle.netlist.specs.declared.net.Net.{Net}
use Rattle.net_built.specs.Circuits.{HaveParts}
use Rattle.net_built.specs.Data.{HasParts}
use Rattle.net_built.specs.Terms.{Variable}
use Rattle.net_built.specs.Wires.{Piece, last_wires}
use Rattle.net_means.specs.CircuitBits.Leaves.{VariableLeaf, CircuitGiven, LeafHas, FieldLeaf}
use Rattle.net_means.specs.CircuitBits.Leaves.{ProjectedLeaf, leaves_before}

-- for any instance, variables and wires: where the first holds of a right side that is given there,
-- its leaf of this number has bits at the history
abbrev pub LeafBears
    : TermTree → (Origins → Net → List ℕ → List Variable → Thunks → History → Type 0) → ℕ → Type 0
LeafBears e needs k =
    (o : Origins) (order : List ℕ) (scope : List Variable) (γ : Thunks) (δ : TypeTrees) (net : Net)
    (path : List ℕ) (h : History) (n : ℕ) (widths : List ℕ) (t : TypeTree) (piece : Piece)
    → CircuitGiven o order scope net path n widths t e piece → needs o net path scope γ h
    → LeafHas o.program net path h t (closed e γ δ) (last_wires n piece widths) k

-- a variable has it where the variable that it names has
abbrev pub NamesHave : Type 0
NamesHave =
    (x k : ℕ)
    → LeafBears (var x) (λ o net path scope γ h. VariableLeaf o.program net path scope γ h x k) k

-- a signal that is taken into another domain has it where it has it there
abbrev pub CrossingsHave : Type 0
CrossingsHave =
    (d e a : TypeTree) (x : ℕ)
    → LeafBears (on_names (prim UnsafeSynchronizer) (d ∷ e ∷ a ∷ []) (x ∷ []))
    (λ o net path scope γ h. VariableLeaf o.program net path scope γ h x zero) zero

-- a signal of a constant has it
abbrev pub ConstantsHave : Type 0
ConstantsHave =
    (d a : TypeTree) (c : TermTree)
    → LeafBears (pure_of d a c) (λ o net path scope γ h. IsConstant o.program.datas c) zero

-- a register has it where its signal has it at the history that was taken last, if there is one
abbrev pub RegistersHave : Type 0
RegistersHave =
    (d : ℕ) (a : TypeTree) (c : TermTree) (x : ℕ)
    → LeafBears (beginning_with Register (domain d ∷ a ∷ []) c (x ∷ []))
    (λ o net path scope γ h. IsConstant o.program.datas c
    × ((g : History) → taken h (dom d) ≡ Some g
    → VariableLeaf o.program net path scope γ g x zero)) zero

-- the leaf of this number of a product of this type is one of a field: the field, the number of the
-- leaf among those of the field, and the parts of all fields
pub record FieldWithLeaf (datas : List Data) (it : Constructor) (ts : TypeTrees) (k : ℕ) : Type 0
  where
    pub parts : List (List ℕ)
    pub have : HaveParts datas (fields_at it ts) parts
    pub field : ℕ
    pub leaf : ℕ
    pub own : List ℕ
    pub one : slice_get parts field ≡ Some own
    pub within : leaf < length own
    pub is : k ≡ leaves_before field parts + leaf

-- so it is with each leaf of a product
abbrev pub LeavesHaveFields : Type 0
LeavesHaveFields =
    (datas : List Data) (c : ℕ) (it : Constructor) (ts : TypeTrees) (widths : List ℕ) (k : ℕ)
    → con_at datas c ≡ Some it → HasParts datas Circuit (data_of it.of ts) widths
    → k < length widths → FieldWithLeaf datas it ts k

-- a product has at a leaf of a field what the field's variable has at it
abbrev pub ProductsHave : Type 0
ProductsHave =
    (c : ℕ) (types : List TypeTree) (xs : List ℕ) (parts : List (List ℕ)) (i j : ℕ)
    → LeafBears (on_names (con c) types xs)
    (λ o net path scope γ h. FieldLeaf o.program net path scope γ h c types xs parts i j)
    (leaves_before i parts + j)

-- a projection has at a leaf what the variable has at this leaf of the field; fields are numbered
-- from the first, and their names from the last
abbrev pub ProjectionsHave : Type 0
ProjectionsHave =
    (c : ConId) (count x z i j : ℕ) (parts : List (List ℕ)) → z + suc i ≡ count
    → LeafBears (case_of (var x) (alt (OfCon c count) (var z) no_alts))
    (λ o net path scope γ h. ProjectedLeaf o.program net path scope γ h c count x parts i j) j

-- a leaf without bits has none on each thunk and on any wires
abbrev pub EmptyLeavesHave : Type 0
EmptyLeavesHave =
    (p : Program) (net : Net) (path : List ℕ) (h : History) (t : TypeTree) (th : Thunk)
    (wires : List WireId) (widths : List ℕ) (k : ℕ)
    → HasParts p.datas Circuit t widths → slice_get widths k ≡ Some zero
    → LeafHas p net path h t th wires k
