-- What a thunk that goes on with another one has at a leaf; and uses of modules.
use Rattle.std.specs.Prelude.{◌≡◌, ℕ, zero, ◌<◌, Bool, List, [], ◌∷◌, ◌++◌, length}
use Rattle.std.specs.Prelude.{map, Some, slice_get}
use Rattle.chw_base.specs.declared.index.WireId.{WireId}
use Rattle.chw_types.specs.SameTypes.{SameTypes}
use Rattle.chw_types.specs.TypeTree.{TypeTree, TypeTrees, signal}
use Rattle.chw_terms.specs.declared.program.Program.{Program}
use Rattle.chw_terms.specs.declared.scene.Sort.TheVariants.{Circuit}
use Rattle.chw_terms.specs.TermTree.{TermTree, var, made, letrec, Group}
use Rattle.chw_typing.specs.Programs.{IsSound, setting_of}
use Rattle.chw_typing.specs.Scopes.{AreTermTypes}
use Rattle.chw_typing.specs.Typing.{HasTypeUpTo}
use Rattle.chw_typing.specs.Alike.{AreLike}
use Rattle.rewriting.specs.Origins.{Origins, setting_at, with_origins}
use Rattle.rewriting.specs.Shapes.{fmap_of, ap_of}
use Rattle.normal_forms.specs.Values.{on_names}
use Rattle.chw_meaning.specs.Values.{History, Thunk, closed, member, sample, Thunks, thunk_at}
use Rattle.chw_meaning.specs.Values.{in_group, body_at}
use Rattle.chw_layout.specs.Measured.{HasWidth}
use Rattle.carrying.specs.Carrying.{Carries}
use Rattle.carrying.specs.TermLaws.{onto, under_lambdas, each_closed}
use Rattle.netlist.specs.declared.net.Module.{Module}
use Rattle.netlist.specs.declared.net.Net.{Net}
use Rattle.use_laws.specs.ValueIn.{HasUseAt, IsModuleAt}
use Rattle.net_built.specs.Circuits.{Ground, place_in, used, IsLifted}
use Rattle.net_built.specs.Data.{HasParts}
use Rattle.net_built.specs.Terms.{Variable, wires_at}
use Rattle.net_built.specs.Wires.{wire_count, new_wires}
use Rattle.cell_bits.specs.Bearing.{HasCells, Bears}
use Rattle.net_means.specs.SideBits.Sides.{types_in, SideHas}
use Rattle.net_means.specs.CircuitBits.Leaves.{HasAllOf, part_wires, LeafHas, VariableLeaf}

-- a variable has all that its thunk has
abbrev pub VariablesFollow : Type 0
VariablesFollow =
    (p : Program) (h : History) (x : ℕ) (th : Thunk) (γ : Thunks) (δ : TypeTrees)
    → thunk_at γ x ≡ Some th → HasAllOf p h (closed (var x) γ δ) th

-- a group all that its body has inside the group
abbrev pub GroupsFollow : Type 0
GroupsFollow =
    (p : Program) (h : History) (g : Group) (e : TermTree) (γ : Thunks) (δ : TypeTrees)
    → HasAllOf p h (closed (letrec g e) γ δ) (closed e (in_group g γ δ) δ)

-- a member of a group all that its right side has there
abbrev pub MembersFollow : Type 0
MembersFollow =
    (p : Program) (h : History) (g : Group) (i : ℕ) (e : TermTree) (γ : Thunks) (δ : TypeTrees)
    → body_at g i ≡ Some e
    → HasAllOf p h (member g i γ δ) (closed e (in_group g γ δ) δ)

-- a function on variables all that its body has on their thunks
abbrev pub CallsFollow : Type 0
CallsFollow =
    (p : Program) (h : History) (params : List TypeTree) (e : TermTree) (xs : List ℕ) (γ : Thunks)
    (δ : TypeTrees) → length params ≡ length xs
    → HasAllOf p h (closed (on_names (under_lambdas params e) [] xs) γ δ)
    (closed e (onto (each_closed (map (λ x. var x) xs) γ δ) γ) δ)

-- a term is this one lifted on these: `ap (.. (fmap f x1) ..) xn`
pub data IsLiftOf (f : TermTree) : TermTree → List TermTree → Type 0 where
  lift_of_one : {d a b : TypeTree} {x : TermTree} → IsLiftOf f (fmap_of d a b f x) (x ∷ [])
  lift_of_more : {d a b : TypeTree} {u x : TermTree} {xs : List TermTree}
      → IsLiftOf f u xs → IsLiftOf f (ap_of d a b u x) (xs ++ x ∷ [])

-- thunks as they are at a history
abbrev pub samples : List Thunk → History → List Thunk
samples ths h = map (λ th. sample th h) ths

-- a lifted function has at a history all that its body has on what its operands are there
abbrev pub LiftsFollow : Type 0
LiftsFollow =
    (p : Program) (h : History) (params : List TypeTree) (e u : TermTree) (xs : List TermTree)
    (γ : Thunks) (δ : TypeTrees)
    → IsLiftOf (under_lambdas params e) u xs → length params ≡ length xs
    → HasAllOf p h (closed u γ δ) (closed e (onto (samples (each_closed xs γ δ) h) γ) δ)

-- a thunk that has all that another one has has what that has at a leaf, at each type that is the
-- same
abbrev pub FollowersHave : Type 0
FollowersHave =
    (p : Program) (net : Net) (path : List ℕ) (h : History) (t u : TypeTree) (on th : Thunk)
    (wires : List WireId) (k : ℕ)
    → IsSound (setting_of p) → AreLike (setting_of p) t u → HasAllOf p h th on
    → LeafHas p net path h t on wires k → LeafHas p net path h u th wires k

-- as a whole, with these terms for its made definitions, a call is one of the term for its own
abbrev pub WholesCall : Type 0
WholesCall =
    (wholes : ℕ → TermTree) (m : ℕ) (xs : List ℕ)
    → with_origins wholes (on_names (made m) [] xs) ≡ on_names (wholes m) [] xs

-- and so where it is lifted on variables
abbrev pub WholesLift : Type 0
WholesLift =
    (wholes : ℕ → TermTree) (m : ℕ) (e : TermTree) (xs : List ℕ)
    → IsLifted m e (map (λ x. var x) xs)
    → IsLiftOf (wholes m) (with_origins wholes e) (map (λ x. var x) xs)

-- the cells of a use that drives a wire are a use at a place of the instance, and the module of the
-- made definition is used there
pub record UsedAt (net : Net) (path : List ℕ) (reads drives : List WireId) (inner : Module)
    : Type 0 where
  pub place : ℕ
  pub stands : HasUseAt net path place reads drives
  pub is : IsModuleAt net (place ∷ path) inner

abbrev pub UsesAreThere : Type 0
UsesAreThere =
    (net : Net) (path : List ℕ) (ground : Ground) (m n : ℕ) (reads : List WireId)
    (widths : List ℕ) (inner : Module)
    → HasCells net path (used ground m n reads widths).cells → 0 < wire_count widths
    → slice_get net.modules (place_in ground.order m) ≡ Some inner
    → UsedAt net path reads (new_wires n widths) inner

-- a part of an operand of a use has its bits inside too, on the inputs that stand at its place
abbrev pub PartsEnter : Type 0
PartsEnter =
    (net : Net) (path : List ℕ) (h : History) (inner : Module)
    (front wires back drives : List WireId) (widths : List ℕ) (k : ℕ) (b : List Bool)
    (at : UsedAt net path (front ++ (wires ++ back)) drives inner)
    → slice_get widths k ≡ Some (length b) → Bears net path h (part_wires k widths wires) b
    → Bears net (at.place ∷ path) h (part_wires k widths (new_wires (length front) widths)) b

-- a circuit in use has at a leaf what the block of its body has inside, on its operands' thunks
abbrev pub CallsHave : Type 0
CallsHave =
    (p : Program) (net : Net) (path : List ℕ) (h : History) (params : List TypeTree)
    (e : TermTree) (xs : List ℕ) (γ : Thunks) (δ : TypeTrees) (t u : TypeTree) (n : ℕ)
    (widths : List ℕ) (reads : List WireId) (inner : Module) (k : ℕ)
    (at : UsedAt net path reads (new_wires n widths) inner)
    → IsSound (setting_of p) → AreLike (setting_of p) u t → HasParts p.datas Circuit t widths
    → length params ≡ length xs
    → LeafHas p net (at.place ∷ path) h u
    (closed e (onto (each_closed (map (λ x. var x) xs) γ δ) γ) δ) inner.outputs k
    → LeafHas p net path h t (closed (on_names (under_lambdas params e) [] xs) γ δ)
    (new_wires n widths) k

-- a value in lifted use has at a history what the block of its body carries inside, on what its
-- operands are then
abbrev pub LiftsHave : Type 0
LiftsHave =
    (p : Program) (net : Net) (path : List ℕ) (h : History) (params : List TypeTree)
    (e f : TermTree) (xs : List TermTree) (γ : Thunks) (δ : TypeTrees) (d t u : TypeTree) (n : ℕ)
    (widths : List ℕ) (reads : List WireId) (inner : Module)
    (at : UsedAt net path reads (new_wires n widths) inner)
    → IsSound (setting_of p) → AreLike (setting_of p) u t
    → HasParts p.datas Circuit (signal d t) widths
    → IsLiftOf (under_lambdas params e) f xs → length params ≡ length xs
    → SideHas p (onto (samples (each_closed xs γ δ) h) γ) δ net (at.place ∷ path) h u e
    inner.outputs
    → LeafHas p net path h (signal d t) (closed f γ δ) (new_wires n widths) zero

-- the sample of a signal of these values carries bits, and of its wires the first has them
pub record SampleHas (p : Program) (net : Net) (path : List ℕ) (h : History) (t : TypeTree)
    (th : Thunk) (wires : List WireId) : Type 0 where
  pub width : ℕ
  pub wide : HasWidth p.datas t width
  pub bits : List Bool
  pub carries : Carries p t (sample th h) bits
  pub bears : Bears net path h (part_wires zero (width ∷ []) wires) bits

-- so does that of a variable that is used as such a signal, where its leaf has bits
abbrev pub SamplesHave : Type 0
SamplesHave =
    (o : Origins) (scope : List Variable) (γ : Thunks) (δ : TypeTrees) (net : Net)
    (path : List ℕ) (h : History) (x : ℕ) (d a t : TypeTree)
    → IsSound (setting_at o) → AreTermTypes (setting_at o) [] (types_in scope)
    → HasTypeUpTo (setting_at o) [] (types_in scope) (var x) (signal d a) → SameTypes a t
    → VariableLeaf o.program net path scope γ h x zero
    → SampleHas o.program net path h t (closed (var x) γ δ) (wires_at scope x)
