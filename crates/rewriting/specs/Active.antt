-- Where rules may act.
use Rattle.std.specs.Prelude.{◌≡◌, ℕ, suc, ◌≤◌, ◌<◌, true, false}
use Rattle.std.specs.Prelude.{List, [], ◌∷◌, ◌++◌, length, Some, slice_get}
use Rattle.type_ports.specs.Representable.{Representable}
use Rattle.chw_types.specs.TypeTree.{TypeTree}
use Rattle.chw_prims.specs.declared.prim.Primitive.{Primitive as Prim}
use Rattle.chw_prims.specs.Schemas.{schema_type}
use Rattle.chw_terms.specs.declared.scene.Mode.TheVariants.{V, C, K}
use Rattle.chw_terms.specs.declared.term.Arg.{Arg}
use Rattle.chw_terms.specs.declared.term.Arg.TheVariants.{OfTerm, OfType}
use Rattle.chw_terms.specs.Constructors.{Constructor, con_at}
use Rattle.chw_terms.specs.TermTree.{TermTree, var, letrec, con, prim, vec_lit, case_of}
use Rattle.chw_terms.specs.TermTree.{Terms, Group, Alts, size_of}
use Rattle.chw_terms.specs.TermView.{applied}
use Rattle.chw_typing.specs.HeadTypes.{con_type, PatternOf}
use Rattle.chw_typing.specs.Scopes.{with_more, declared}
use Rattle.chw_typing.specs.Typing.{HasType}
use Rattle.chw_typing.specs.Groups.{binding_at}
use Rattle.chw_typing.specs.Paths.{element_at, Branch, branch_at, argument_path}
use Rattle.rewriting.specs.Named.{IsNamed, mode_of, UnderLambdas}
use Rattle.rewriting.specs.Origins.{MadeOf, Origins, setting_at}
use Rattle.rewriting.specs.Spots.{Spot, spot, HasLets, head_mode, scrutinee_mode, asked_for}
use Rattle.rewriting.specs.Spots.{LooksAt, BeginsWith, IsOnWords, TakesElement}

-- a demanded argument of a primitive: one at which it looks, of a type that isn't named
pub record Demands
    (o : Origins) (at : Spot) (p : Prim) (args : List Arg) (i : ℕ) (a : TermTree) : Type 0
  where
    pub no_constant : at.mode ≡ K → ⊥
    pub looks : LooksAt p i
    pub is : slice_get args i ≡ Some (OfTerm a)
    pub type : TypeTree
    pub has : HasType (setting_at o) [] at.vars a type
    pub unnamed : IsNamed o.program.datas at.mode type → ⊥

-- from a place to one below it, by one step
pub data Below (o : Origins) (at : Spot) : TermTree → List ℕ → Spot → TermTree → Type 0 where
  -- letrec, of values and circuits: each right side of a named type, and the body as a result place
  right_side : {g : Group} {e : TermTree} {i : ℕ} {b : TypeTree × TermTree}
      → HasLets at.mode → binding_at g i ≡ Some b → IsNamed o.program.datas at.mode b.0
      → Below o at (letrec g e) (i ∷ [])
      (spot at.mode false (with_more (declared g) at.vars)) b.1
  let_body : {g : Group} {e : TermTree}
      → HasLets at.mode
      → Below o at (letrec g e) (size_of g ∷ [])
      (spot at.mode true (with_more (declared g) at.vars)) e
  -- letrec, of constants: the body
  constant_body : {g : Group} {e : TermTree}
      → at.mode ≡ K
      → Below o at (letrec g e) (size_of g ∷ []) (spot K false (with_more (declared g) at.vars)) e
  -- case: the scrutinee, where its type isn't named
  scrutinee : {s : TermTree} {alts : Alts} {u : TypeTree}
      → HasType (setting_at o) [] at.vars s u → (IsNamed o.program.datas at.mode u → ⊥)
      → Below o at (case_of s alts) (0 ∷ [])
      (spot (scrutinee_mode o.program.datas at.mode alts) false at.vars) s
  -- case, of values: on a variable of a named type each alternative, as a result place
  branch : {x i : ℕ} {alts : Alts} {u : TypeTree} {a : Branch} {fields : List TypeTree}
      → at.mode ≡ V → slice_get at.vars x ≡ Some u → IsNamed o.program.datas V u
      → branch_at alts i ≡ Some a → PatternOf o.program.datas u a.pattern fields
      → Below o at (case_of (var x) alts) (suc i ∷ []) (spot V true (with_more fields at.vars))
      a.body
  -- constants: each argument of a saturated constructor and of a saturated primitive on words,
  -- those that `vget` and `vat` have of their own, each element of a vector
  of_constructor : (c i : ℕ) (args : List Arg) {it : Constructor} {a : TermTree}
      → at.mode ≡ K → con_at o.program.datas c ≡ Some it → length args ≡ asked_for (con_type it)
      → slice_get args i ≡ Some (OfTerm a)
      → Below o at (applied (con c) args) (argument_path i (length args)) (spot K false at.vars) a
  of_words : (p : Prim) (i : ℕ) (args : List Arg) {a : TermTree}
      → at.mode ≡ K → IsOnWords p → asked_for (schema_type p) ≤ length args
      → i < asked_for (schema_type p) → slice_get args i ≡ Some (OfTerm a)
      → Below o at (applied (prim p) args) (argument_path i (length args)) (spot K false at.vars) a
  of_element : (p : Prim) (i : ℕ) (args : List Arg) {a : TermTree}
      → at.mode ≡ K → TakesElement p → i < asked_for (schema_type p)
      → slice_get args i ≡ Some (OfTerm a)
      → Below o at (applied (prim p) args) (argument_path i (length args)) (spot K false at.vars) a
  of_vector : {t : TypeTree} {es : Terms} {i : ℕ} {a : TermTree}
      → at.mode ≡ K → element_at es i ≡ Some a
      → Below o at (vec_lit t es) (i ∷ []) (spot K false at.vars) a
  -- a demanded argument
  demanded : {p : Prim} {i : ℕ} {args : List Arg} {a : TermTree}
      → Demands o at p args i a
      → Below o at (applied (prim p) args) (argument_path i (length args))
      (spot (head_mode at.mode) false at.vars) a
  -- circuits: what a register, a block RAM and a constant signal begin with, at a representable
  -- payload
  begins : (p : Prim) (i j : ℕ) (args : List Arg) {t : TypeTree} {a : TermTree}
      → at.mode ≡ C → BeginsWith p i j → slice_get args j ≡ Some (OfType t)
      → Representable o.program.datas t → slice_get args i ≡ Some (OfTerm a)
      → Below o at (applied (prim p) args) (argument_path i (length args)) (spot K false at.vars) a

-- the place itself, and all those below it
pub data IsActive (o : Origins) : Spot → TermTree → List ℕ → Spot → TermTree → Type 0 where
  at_it : {at : Spot} {e : TermTree} → IsActive o at e [] at e
  below : {at at' at'' : Spot} {e x y : TermTree} {p q : List ℕ}
      → Below o at e p at' x → IsActive o at' x q at'' y → IsActive o at e (p ++ q) at'' y

-- an active place of a made definition with this body: below its leading lambdas
pub record IsPlaceOf
    (o : Origins) (it : MadeOf) (body : TermTree) (path : List ℕ) (at : Spot) (x : TermTree)
    : Type 0
  where
    pub root : List ℕ
    pub vars : List TypeTree
    pub term : TermTree
    pub under : UnderLambdas [] body it.ty root vars term
    pub rest : List ℕ
    pub active : IsActive o (spot (mode_of it.sort) true vars) term rest at x
    pub is : path ≡ root ++ rest
