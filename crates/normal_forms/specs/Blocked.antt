-- Where a state without a step is not normal: the places that are blocked, and the first of them.
use Rattle.std.specs.Prelude.{◌≡◌, ◌⊎◌, ℕ, suc, ◌<◌, List, [], ◌∷◌, ◌++◌, map, length, replicate}
use Rattle.std.specs.Prelude.{Some}
use Rattle.std.specs.List.{slice_get, AllByRecursion}
use Rattle.chw_base.specs.declared.limits.TheConstants.{SCALAR_BITS, VECTOR_LENGTH}
use Rattle.chw_types.specs.declared.declarations.Data.{Data}
use Rattle.type_ports.specs.declared.ports.Leaf.{Leaf}
use Rattle.type_ports.specs.Ports.{Leaves}
use Rattle.type_ports.specs.Representable.{Representable}
use Rattle.chw_types.specs.TypeTree.{TypeTree, nat_lit, scalar, vector, fun, for_all}
use Rattle.chw_prims.specs.declared.prim.Primitive.{Primitive as Prim}
use Rattle.chw_prims.specs.declared.prim.Primitive.TheVariants.{Register, BlockRam}
use Rattle.chw_prims.specs.declared.prim.Primitive.TheVariants.{UnsafeSynchronizer}
use Rattle.chw_prims.specs.declared.row.Row.{Row}
use Rattle.chw_prims.specs.declared.row.Row.TheVariants.{Mapping, Applying, Constant, Delay}
use Rattle.chw_prims.specs.declared.row.Row.TheVariants.{Memory, Crossing}
use Rattle.chw_prims.specs.Schemas.{row_of, schema_type}
use Rattle.chw_terms.specs.declared.program.Program.{Program}
use Rattle.chw_terms.specs.declared.scene.Made.{Made}
use Rattle.chw_terms.specs.declared.scene.Mode.TheVariants.{V, K}
use Rattle.chw_terms.specs.declared.term.Arg.{Arg}
use Rattle.chw_terms.specs.declared.term.Arg.TheVariants.{OfType}
use Rattle.chw_terms.specs.TermTree.{TermTree, lam, letrec, prim, Group}
use Rattle.chw_terms.specs.TermView.{applied}
use Rattle.chw_terms.specs.Unrolled.{at_types}
use Rattle.chw_layout.specs.declared.outcome.NoLayout.{NoLayout}
use Rattle.chw_layout.specs.declared.outcome.NoLayout.TheVariants.{Scalar as OverScalar}
use Rattle.chw_layout.specs.declared.outcome.NoLayout.TheVariants.{Length as OverLength}
use Rattle.chw_layout.specs.Measured.{Measured, too_wide, HasWidth}
use Rattle.chw_typing.specs.Groups.{binding_at}
use Rattle.chw_typing.specs.Paths.{part_at, IsEarlier}
use Rattle.rewriting.specs.Named.{IsNamed, UnderLambdas}
use Rattle.rewriting.specs.Origins.{MadeOf, Origins, made_of}
use Rattle.rewriting.specs.Active.{IsPlaceOf}
use Rattle.rewriting.specs.Spots.{Spot, IsOnWords}
use Rattle.rewriting.specs.Lifted.{FindsAt}
use Rattle.rewriting.specs.Steps.{origins_in, HasNoStep}
use Rattle.normal_forms.specs.Normal.{all_rules}
use Rattle.normal_forms.specs.Values.{BindingRefers}

-- what blocks a place: a cycle of bindings, by their numbers; a payload that isn't representable; a
-- limit that is passed
pub data Block : Type 0 where
  recursion : List ℕ → Block
  payload : TypeTree → Block
  limit : NoLayout → Block

-- and their order at one place
abbrev pub rank_of : Block → ℕ
rank_of (recursion cycle) = 0
rank_of (payload t) = 1
rank_of (limit l) = 2

-- steps lead from the first number through these, in their order, to the last one
abbrev pub LeadsThrough : (ℕ → ℕ → Type 0) → ℕ → List ℕ → ℕ → Type 0
LeadsThrough Step a [] c = Step a c
LeadsThrough Step a (b ∷ more) c = Step a b × LeadsThrough Step b more c

-- the binding of this number has a type that isn't named at the place
abbrev pub IsUnnamedBinding : Origins → Spot → Group → ℕ → Type 0
IsUnnamedBinding o at g i =
    (b : TypeTree × TermTree) × (binding_at g i ≡ Some b)
    × (IsNamed o.program.datas at.mode b.0 → ⊥)

-- a register, a block RAM or a synchronizer, and the number of the argument that is its payload
abbrev pub HasPayload : Prim → ℕ → Type 0
HasPayload Register j = j ≡ 1
HasPayload BlockRam j = j ≡ 3
HasPayload UnsafeSynchronizer j = j ≡ 2
HasPayload _ j = ⊥

-- a type passes a limit: its own where it is representable; where it is a port, that of the first
-- leaf whose payload has no width
pub data Passes (datas : List Data) : TypeTree → NoLayout → Type 0 where
  by_width : {t : TypeTree} {l : NoLayout}
      → Representable datas t → Measured datas t (too_wide l) → Passes datas t l
  by_leaf : {t : TypeTree} {ls : List Leaf} {i : ℕ} {leaf : Leaf} {l : NoLayout}
      → Leaves datas t ls → slice_get ls i ≡ Some leaf → Measured datas leaf.payload (too_wide l)
      → ((j : ℕ) (other : Leaf) → j < i → slice_get ls j ≡ Some other
      → (w : ℕ) × HasWidth datas other.payload w)
      → Passes datas t l

-- the length of a vector, or the width of a word, as the type of a primitive names it
pub data Size : Type 0 where
  of_vector : TypeTree → Size
  of_word : TypeTree → Size

-- those of a primitive's type, in their order
abbrev pub sizes_in : TypeTree → List Size
sizes_in (for_all k t) = sizes_in t
sizes_in (fun a b) = sizes_in a ++ sizes_in b
sizes_in (vector n t) = of_vector n ∷ sizes_in t
sizes_in (scalar s w) = of_word w ∷ []
sizes_in _ = []

-- at these type arguments a size passes its limit
pub data IsOver (types : List TypeTree) : Size → NoLayout → Type 0 where
  over_length : {t : TypeTree} {n : ℕ}
      → at_types types t ≡ nat_lit n → VECTOR_LENGTH < n → IsOver types (of_vector t) (OverLength n)
  over_width : {t : TypeTree} {n : ℕ}
      → at_types types t ≡ nat_lit n → SCALAR_BITS < n → IsOver types (of_word t) (OverScalar n)

abbrev pub IsRowOnSignals : Row → Type 0
IsRowOnSignals Mapping = Unit {0}
IsRowOnSignals Applying = Unit {0}
IsRowOnSignals Constant = Unit {0}
IsRowOnSignals Delay = Unit {0}
IsRowOnSignals Memory = Unit {0}
IsRowOnSignals Crossing = Unit {0}
IsRowOnSignals _ = ⊥

-- the sizes of primitives on vectors count everywhere, those of primitives on words in constants
abbrev pub SizesCount : Spot → Prim → Type 0
SizesCount at p = (IsRowOnSignals (row_of p) → ⊥) × (IsOnWords p → at.mode ≡ K)

-- how many types a type asks for
abbrev pub types_asked : TypeTree → ℕ
types_asked (for_all k t) = suc (types_asked t)
types_asked t = 0

-- at a place a limit is passed by what is looked at in this turn: by the term's own type first,
-- then by the bindings of a letrec, or by the sizes of a primitive that has all its type arguments
pub data PassesAt (o : Origins) (at : Spot) : TermTree → ℕ → NoLayout → Type 0 where
  by_type : {e : TermTree} {t : TypeTree} {l : NoLayout}
      → FindsAt o at e t → Passes o.program.datas t l → PassesAt o at e 0 l
  by_binding : {g : Group} {e : TermTree} {i : ℕ} {b : TypeTree × TermTree} {l : NoLayout}
      → binding_at g i ≡ Some b → Passes o.program.datas b.0 l
      → PassesAt o at (letrec g e) (suc i) l
  by_size : (p : Prim) (types : List TypeTree) (more : List Arg) {i : ℕ} {size : Size}
      {l : NoLayout}
      → SizesCount at p → length types ≡ types_asked (schema_type p)
      → slice_get (sizes_in (schema_type p)) i ≡ Some size → IsOver types size l
      → PassesAt o at (applied (prim p) (map (λ t. OfType t) types ++ more)) (suc i) l

-- what blocks a term at an active place
pub data BlocksAt (o : Origins) (at : Spot) : TermTree → Block → Type 0 where
  -- a cycle of bindings without names; where values are built, and in constants, any cycle
  by_recursion : {g : Group} {e : TermTree} (i : ℕ) (more : List ℕ)
      → LeadsThrough (BindingRefers g) i more i
      → ((at.mode ≡ V) ⊎ (at.mode ≡ K)) ⊎ AllByRecursion (IsUnnamedBinding o at g) (i ∷ more)
      → BlocksAt o at (letrec g e) (recursion (i ∷ more))
  by_payload : (p : Prim) (args : List Arg) (j : ℕ) {t : TypeTree}
      → HasPayload p j → slice_get args j ≡ Some (OfType t)
      → (Representable o.program.datas t → ⊥)
      → BlocksAt o at (applied (prim p) args) (payload t)
  -- the first limit that is passed
  by_limit : {e : TermTree} {i : ℕ} {l : NoLayout}
      → PassesAt o at e i l
      → ((j : ℕ) (k : NoLayout) → j < i → PassesAt o at e j k → ⊥)
      → BlocksAt o at e (limit l)

-- a body of a made definition is blocked at a path: at an active place, or at a leading lambda
pub data IsBlocked (o : Origins) (it : MadeOf) (body : TermTree) : List ℕ → Block → Type 0 where
  at_place : {path : List ℕ} {at : Spot} {e : TermTree} {b : Block}
      → IsPlaceOf o it body path at e → BlocksAt o at e b → IsBlocked o it body path b
  at_lambda : {root : List ℕ} {vars : List TypeTree} {inner e : TermTree} {i : ℕ} {t : TypeTree}
      {l : NoLayout}
      → UnderLambdas [] body it.ty root vars inner → i < length root
      → part_at body (replicate i 0) ≡ Some (lam t e) → Passes o.program.datas t l
      → IsBlocked o it body (replicate i 0) (limit l)

-- a blocked place: in which made definition, at which path, and by what
pub record BlockedPlace : Type 0 where
  pub number : ℕ
  pub path : List ℕ
  pub block : Block

-- their order: by the number of the made definition, then by the path, then by what blocks
abbrev pub IsBlockedBefore : BlockedPlace → BlockedPlace → Type 0
IsBlockedBefore a b =
    (a.number < b.number)
    ⊎ ((a.number ≡ b.number)
    × (IsEarlier a.path b.path
    ⊎ ((a.path ≡ b.path) × (rank_of a.block < rank_of b.block))))

-- it is one of the state's
abbrev pub HasBlocked : Program → List Made → BlockedPlace → Type 0
HasBlocked p state at =
    (it : Made) × (slice_get state at.number ≡ Some it)
    × IsBlocked (origins_in p state) (made_of it) it.body at.path at.block

-- a blocked state: no rule has an instance, and this is the first of the blocked places
pub record IsFirstBlocked (p : Program) (state : List Made) (at : BlockedPlace) : Type 0 where
  pub no_step : HasNoStep all_rules p state
  pub blocked : HasBlocked p state at
  pub first : (other : BlockedPlace) → HasBlocked p state other → IsBlockedBefore other at → ⊥
