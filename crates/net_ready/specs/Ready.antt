-- What is ready to be built: over the types of the variables in scope, and no wires.
use Rattle.std.specs.Prelude.{◌≡◌, ℕ, ◌<◌, Bool, List, [], ◌∷◌, ◌++◌, map, length, Some, slice_get}
use Rattle.chw_base.specs.declared.index.ConId.{ConId}
use Rattle.chw_clock.specs.declared.event.Ports.{Ports}
use Rattle.chw_types.specs.declared.declarations.Data.{Data}
use Rattle.chw_types.specs.Arguments.{arguments}
use Rattle.chw_types.specs.TypeTree.{TypeTree, domain}
use Rattle.chw_types.specs.TypeView.{trees_of}
use Rattle.chw_prims.specs.declared.prim.Primitive.{Primitive as Prim}
use Rattle.chw_prims.specs.declared.prim.Primitive.TheVariants.{VGet, VAt, Fmap, Ap, Pure}
use Rattle.chw_prims.specs.declared.prim.Primitive.TheVariants.{Register, BlockRam}
use Rattle.chw_prims.specs.declared.prim.Primitive.TheVariants.{UnsafeSynchronizer}
use Rattle.chw_terms.specs.declared.program.Program.{Program}
use Rattle.chw_terms.specs.declared.scene.Made.{Made}
use Rattle.chw_terms.specs.declared.scene.Sort.{Sort}
use Rattle.chw_terms.specs.declared.scene.Sort.TheVariants.{Value, Circuit}
use Rattle.chw_terms.specs.declared.term.Arg.{Arg}
use Rattle.chw_terms.specs.declared.term.Arg.TheVariants.{OfTerm, OfType}
use Rattle.chw_terms.specs.declared.term.Pattern.{Pattern}
use Rattle.chw_terms.specs.declared.term.Pattern.TheVariants.{OfCon}
use Rattle.chw_terms.specs.Constructors.{Constructor, con_at}
use Rattle.chw_terms.specs.TermTree.{TermTree, var, made, lam, app, ty_app, letrec, con, prim}
use Rattle.chw_terms.specs.TermTree.{lit, vec_lit, case_of, Terms, no_terms, term_and}
use Rattle.chw_terms.specs.TermTree.{Group, no_bindings, bind, Alts, no_alts, alt}
use Rattle.chw_typing.specs.HeadTypes.{PatternOf}
use Rattle.chw_typing.specs.Scopes.{with_more, declared}
use Rattle.rewriting.specs.Spots.{IsOnWords}
use Rattle.normal_forms.specs.Uses.{Uses, IsAcyclic}
use Rattle.chw_layout.specs.Measured.{fits, HasWidth, MeasuredFields}
use Rattle.chw_meaning.specs.Means.{HasPorts}
use Rattle.net_built.specs.Circuits.{IsLifted, HaveParts}
use Rattle.net_built.specs.Data.{HaveWidths, HasParts}
use Rattle.net_built.specs.Loops.{HasNoLoops}
use Rattle.net_built.specs.Memories.{HasBits, HasWords}
use Rattle.net_built.specs.Modules.{HasOutputs}
use Rattle.net_built.specs.Terms.{head_of, Variable}

-- the types of the variables in scope
abbrev pub types_on : List Variable → List TypeTree
types_on scope = map (λ (v : Variable). v.ty) scope

-- to what a term applies its head, the first one first
abbrev pub args_of : TermTree → List Arg
args_of (app f a) = args_of f ++ OfTerm a ∷ []
args_of (ty_app f t) = args_of f ++ OfType t ∷ []
args_of e = []

-- the types among arguments
abbrev pub types_among : List Arg → List TypeTree
types_among [] = []
types_among (OfTerm e ∷ args) = types_among args
types_among (OfType t ∷ args) = t ∷ types_among args

-- the constant of the type has bits
abbrev pub HasSomeBits : List Data → TypeTree → TermTree → Type 0
HasSomeBits datas t e = (bits : List Bool) × HasBits datas t e bits

-- the constant is a vector, and each of its elements, which are of the type, has bits
abbrev pub HasSomeWords : List Data → TypeTree → TermTree → Type 0
HasSomeWords datas t e = (words : List (List Bool)) × HasWords datas t e words

-- there is one width
abbrev pub IsOne : List ℕ → Type 0
IsOne (w ∷ []) = Unit {0}
IsOne _ = ⊥

-- each argument is a variable
abbrev pub AreNames : List Arg → Type 0
AreNames [] = Unit {0}
AreNames (OfTerm (var x) ∷ args) = AreNames args
AreNames _ = ⊥

-- the arguments are types, and variables behind them
abbrev pub AreTypesThenNames : List Arg → Type 0
AreTypesThenNames (OfType t ∷ args) = AreTypesThenNames args
AreTypesThenNames args = AreNames args

-- each element is a variable
abbrev pub AreNamed : Terms → Type 0
AreNamed no_terms = Unit {0}
AreNamed (term_and (var x) es) = AreNamed es
AreNamed _ = ⊥

-- `pure @d @a c`
abbrev pub PureReady : List Data → (widths : List ℕ) → List Arg → Type 0
PureReady datas widths (OfType d ∷ OfType a ∷ OfTerm c ∷ []) = IsOne widths × HasSomeBits datas a c
PureReady datas widths _ = ⊥

-- `register @d @a c x`, at a closed domain
abbrev pub RegisterReady : List Data → (widths : List ℕ) → List Arg → Type 0
RegisterReady datas widths
    (OfType (domain d) ∷ OfType a ∷ OfTerm c ∷ OfTerm (var x) ∷ []) =
    IsOne widths × HasSomeBits datas a c
RegisterReady datas widths _ = ⊥

-- `blockRam @d @n @k @a c x y`, at a closed domain
abbrev pub BlockRamReady : List Data → (widths : List ℕ) → List Arg → Type 0
BlockRamReady datas widths
    (OfType (domain d) ∷ OfType n ∷ OfType k ∷ OfType a ∷ OfTerm c ∷ OfTerm (var x)
    ∷ OfTerm (var y) ∷ []) =
    IsOne widths × HasSomeWords datas a c
BlockRamReady datas widths _ = ⊥

-- `unsafeSynchronizer @d @e @a x`
abbrev pub SynchronizerReady : List Arg → Type 0
SynchronizerReady (OfType d ∷ OfType e ∷ OfType a ∷ OfTerm (var x) ∷ []) = Unit {0}
SynchronizerReady _ = ⊥

-- `fmap @d @a @b m x`
abbrev pub FmapReady : List Arg → Type 0
FmapReady (OfType d ∷ OfType a ∷ OfType b ∷ OfTerm (made m) ∷ OfTerm (var x) ∷ []) = Unit {0}
FmapReady _ = ⊥

-- `ap @d @a @b u x`, where `u` is a made definition that is lifted on variables
abbrev pub ApReady : List Arg → Type 0
ApReady (OfType d ∷ OfType a ∷ OfType b ∷ OfTerm u ∷ OfTerm (var x) ∷ []) =
    (m : ℕ) × (xs : List ℕ) × IsLifted m u (map (λ x. var x) xs)
ApReady _ = ⊥

-- a primitive on signals, with parts of these widths
abbrev pub SignalReady : List Data → (widths : List ℕ) → Prim → List Arg → Type 0
SignalReady datas widths Pure args = PureReady datas widths args
SignalReady datas widths Register args = RegisterReady datas widths args
SignalReady datas widths BlockRam args = BlockRamReady datas widths args
SignalReady datas widths UnsafeSynchronizer args = SynchronizerReady args
SignalReady datas widths Fmap args = FmapReady args
SignalReady datas widths Ap args = ApReady args
SignalReady datas widths _ args = ⊥

-- a variable in scope is taken apart by a constructor of so many fields, which are measured ports
pub record IsTakenApart (datas : List Data) (vars : List TypeTree) (x : ℕ) (c : ConId) (n : ℕ)
    : Type 0 where
  pub ty : TypeTree
  pub held : slice_get vars x ≡ Some ty
  pub fields : List TypeTree
  pub pattern : PatternOf datas ty (OfCon c n) fields
  pub parts : List (List ℕ)
  pub have : HaveParts datas fields parts

-- an alternative `C z1 .. zn -> zi` on a variable in scope
abbrev pub ProjectionReady : List Data → (vars : List TypeTree) → ℕ → Alts → Type 0
ProjectionReady datas vars x (alt (OfCon c n) (var z) no_alts) =
    IsTakenApart datas vars x c n × (z < n)
ProjectionReady datas vars x _ = ⊥

-- a right side of a circuit with parts of these widths, by its head and arguments
abbrev pub CircuitReady : List Data → (vars : List TypeTree) → (widths : List ℕ) → TermTree
    → List Arg → Type 0
CircuitReady datas vars widths (var x) [] = Unit {0}
CircuitReady datas vars widths (made m) args = AreNames args
CircuitReady datas vars widths (con c) args = AreTypesThenNames args
CircuitReady datas vars widths (prim p) args = SignalReady datas widths p args
CircuitReady datas vars widths (case_of (var x) alts) [] = ProjectionReady datas vars x alts
CircuitReady datas vars widths _ _ = ⊥

-- a constructor that is there, on variables, and its fields have a width at these types
pub record ConstructorReady (datas : List Data) (c : ℕ) (args : List Arg) : Type 0 where
  pub it : Constructor
  pub held : con_at datas c ≡ Some it
  pub names : AreTypesThenNames args
  pub fields : ℕ
  pub measured :
      MeasuredFields datas it.decl.fields (arguments (trees_of (types_among args))) (fits fields)

-- an element of a vector, by a number
abbrev pub ElementReady : List Arg → Type 0
ElementReady (OfType i ∷ OfType m ∷ OfType a ∷ OfTerm (var x) ∷ []) = Unit {0}
ElementReady _ = ⊥

-- an element of a vector, by a word
abbrev pub ElementAtReady : List Arg → Type 0
ElementAtReady (OfType m ∷ OfType k ∷ OfType a ∷ OfTerm (var x) ∷ OfTerm (var i) ∷ []) = Unit {0}
ElementAtReady _ = ⊥

-- a primitive on values
abbrev pub PrimitiveReady : Prim → List Arg → Type 0
PrimitiveReady VGet args = ElementReady args
PrimitiveReady VAt args = ElementAtReady args
PrimitiveReady p args = IsOnWords p × AreTypesThenNames args

-- a right side of a value that is no case, by its head and arguments
abbrev pub ValueReady : List Data → TermTree → List Arg → Type 0
ValueReady datas (var x) [] = Unit {0}
ValueReady datas (lit s bits) [] = Unit {0}
ValueReady datas (vec_lit t es) [] = AreNamed es
ValueReady datas (made m) args = AreNames args
ValueReady datas (con c) args = ConstructorReady datas c args
ValueReady datas (prim p) args = PrimitiveReady p args
ValueReady datas _ _ = ⊥

mutual
  -- a block
  pub data BlockReady (datas : List Data) : Sort → List TypeTree → TermTree → Type 0 where
    ready_variable : {sort : Sort} {vars : List TypeTree} {x : ℕ}
        → BlockReady datas sort vars (var x)
    ready_letrec : {sort : Sort} {vars : List TypeTree} {g : Group} {x : ℕ}
        → GroupReady datas sort (with_more (declared g) vars) g
        → BlockReady datas sort vars (letrec g (var x))

  -- the bindings of a letrec, which are in scope
  pub data GroupReady (datas : List Data) : Sort → List TypeTree → Group → Type 0 where
    ready_none : {sort : Sort} {vars : List TypeTree} → GroupReady datas sort vars no_bindings
    ready_and : {sort : Sort} {vars : List TypeTree} {t : TypeTree} {e : TermTree} {g : Group}
        → SideReady datas sort vars t e → GroupReady datas sort vars g
        → GroupReady datas sort vars (bind t e g)

  -- the right side of a binding of this type
  pub data SideReady (datas : List Data) : Sort → List TypeTree → TypeTree → TermTree → Type 0 where
    ready_value : {vars : List TypeTree} {t : TypeTree} {e : TermTree} {w : ℕ}
        → HasWidth datas t w → ValueReady datas (head_of e) (args_of e)
        → SideReady datas Value vars t e
    ready_circuit : {vars : List TypeTree} {t : TypeTree} {e : TermTree} {widths : List ℕ}
        → HasParts datas Circuit t widths
        → CircuitReady datas vars widths (head_of e) (args_of e)
        → SideReady datas Circuit vars t e
    ready_case : {vars : List TypeTree} {x whole w : ℕ} {u t : TypeTree} {alts : Alts}
        → slice_get vars x ≡ Some u → HasWidth datas u whole → HasWidth datas t w
        → AltsReady datas vars u alts
        → SideReady datas Value vars t (case_of (var x) alts)

  -- alternatives on a value of this type
  pub data AltsReady (datas : List Data) : List TypeTree → TypeTree → Alts → Type 0 where
    ready_no_alts : {vars : List TypeTree} {u : TypeTree} → AltsReady datas vars u no_alts
    ready_alt : {vars fields : List TypeTree} {u : TypeTree} {q : Pattern} {e : TermTree}
        {more : Alts} (widths : List ℕ)
        → PatternOf datas u q fields → HaveWidths datas fields widths
        → BlockReady datas Value (with_more fields vars) e → AltsReady datas vars u more
        → AltsReady datas vars u (alt q e more)

-- a body: lambdas on variables with parts, and a block below them
pub data BodyReady (datas : List Data) (sort : Sort) : List TypeTree → TermTree → Type 0 where
  ready_lambda : {vars : List TypeTree} {t : TypeTree} {e : TermTree} {widths : List ℕ}
      → HasParts datas sort t widths → BodyReady datas sort (t ∷ vars) e
      → BodyReady datas sort vars (lam t e)
  ready_block : {vars : List TypeTree} {e : TermTree}
      → BlockReady datas sort vars e → BodyReady datas sort vars e

-- a made definition: its body, the parts of what it gives, and in a value no binding leads back to
-- itself
pub record ModuleReady (datas : List Data) (it : Made) : Type 0 where
  pub body : BodyReady datas it.sort [] it.body
  pub outputs : ℕ
  pub result : HasOutputs datas it outputs
  pub free : it.sort ≡ Value → HasNoLoops it.body

-- a state: each made definition, none of which uses itself; those that are used are there, and so
-- are the first one and the ports of the program
pub record StateReady (p : Program) (state : List Made) : Type 0 where
  pub each : (m : ℕ) (it : Made) → slice_get state m ≡ Some it → ModuleReady p.datas it
  pub acyclic : IsAcyclic state
  pub there : (m n : ℕ) → Uses state m n → n < length state
  pub first : 0 < length state
  pub ports : Ports
  pub are_ports : HasPorts p ports
