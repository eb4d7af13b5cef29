-- What is promised of bodies in normal form: what doesn't block them.
use Rattle.std.specs.Prelude.{◌≡◌, ℕ, List, ◌++◌, map, length, Some}
use Rattle.std.specs.List.{slice_get}
use Rattle.chw_types.specs.TypeTree.{TypeTree}
use Rattle.chw_prims.specs.declared.prim.Primitive.{Primitive as Prim}
use Rattle.chw_prims.specs.Schemas.{schema_type}
use Rattle.chw_terms.specs.declared.program.Program.{Program}
use Rattle.chw_terms.specs.declared.scene.Made.{Made}
use Rattle.chw_terms.specs.declared.term.Arg.{Arg}
use Rattle.chw_terms.specs.declared.term.Arg.TheVariants.{OfType}
use Rattle.chw_terms.specs.TermTree.{TermTree, prim}
use Rattle.chw_terms.specs.TermView.{applied}
use Rattle.chw_layout.specs.declared.outcome.NoLayout.{NoLayout}
use Rattle.rewriting.specs.Active.{IsPlaceOf}
use Rattle.rewriting.specs.Lifted.{FindsAt}
use Rattle.rewriting.specs.Origins.{Origins, made_of}
use Rattle.rewriting.specs.Spots.{Spot, HasLets, TakesElement}
use Rattle.rewriting.specs.Steps.{origins_in}
use Rattle.rule_types.specs.States.{IsTypedState}
use Rattle.normal_forms.specs.Blocked.{Block, recursion, payload, limit, IsBlocked, Passes, Size}
use Rattle.normal_forms.specs.Blocked.{sizes_in, IsOver, types_asked}
use Rattle.normal_forms.specs.Normal.{IsNormalBody}

-- no cycle of bindings blocks a body in normal form
abbrev pub NormalHasNoRecursion : Type 0
NormalHasNoRecursion =
    (p : Program) (state : List Made) (m : ℕ) (it : Made) (path cycle : List ℕ)
    → IsTypedState p state → slice_get state m ≡ Some it
    → IsNormalBody (origins_in p state) (made_of it) it.body
    → IsBlocked (origins_in p state) (made_of it) it.body path (recursion cycle) → ⊥

-- and no payload does
abbrev pub NormalHasNoPayload : Type 0
NormalHasNoPayload =
    (p : Program) (state : List Made) (m : ℕ) (it : Made) (path : List ℕ) (t : TypeTree)
    → IsTypedState p state → slice_get state m ≡ Some it
    → IsNormalBody (origins_in p state) (made_of it) it.body
    → IsBlocked (origins_in p state) (made_of it) it.body path (payload t) → ⊥

-- at a place a limit is passed by the type of what stands there, or by the vector's length or the
-- word's width of a primitive that takes an element
pub data PassesThere (o : Origins) (at : Spot) : TermTree → NoLayout → Type 0 where
  by_its_type : {e : TermTree} {t : TypeTree} {l : NoLayout}
      → FindsAt o at e t → Passes o.program.datas t l → PassesThere o at e l
  by_its_size : (p : Prim) (types : List TypeTree) (more : List Arg) (i : ℕ) (size : Size)
      {l : NoLayout}
      → TakesElement p → length types ≡ types_asked (schema_type p)
      → slice_get (sizes_in (schema_type p)) i ≡ Some size → IsOver types size l
      → PassesThere o at (applied (prim p) (map (λ t. OfType t) types ++ more)) l

-- a limit blocks a body in normal form only so, at an active place: no leading lambda, no binding
-- of a letrec and no other primitive passes one
abbrev pub NormalDeclaresNoLimit : Type 0
NormalDeclaresNoLimit =
    (p : Program) (state : List Made) (m : ℕ) (it : Made) (path : List ℕ) (l : NoLayout)
    → IsTypedState p state → slice_get state m ≡ Some it
    → IsNormalBody (origins_in p state) (made_of it) it.body
    → IsBlocked (origins_in p state) (made_of it) it.body path (limit l)
    → (at : Spot) × (e : TermTree)
    × IsPlaceOf (origins_in p state) (made_of it) it.body path at e
    × PassesThere (origins_in p state) at e l

-- and where values and circuits are built, none is passed by the type of what stands there
abbrev pub NormalBuildsNoLimit : Type 0
NormalBuildsNoLimit =
    (p : Program) (state : List Made) (m : ℕ) (it : Made) (path : List ℕ) (at : Spot)
    (e : TermTree) (t : TypeTree) (l : NoLayout)
    → IsTypedState p state → slice_get state m ≡ Some it
    → IsNormalBody (origins_in p state) (made_of it) it.body
    → IsPlaceOf (origins_in p state) (made_of it) it.body path at e → HasLets at.mode
    → FindsAt (origins_in p state) at e t → Passes p.datas t l → ⊥

-- so nothing blocks one
abbrev pub NormalIsNotBlocked : Type 0
NormalIsNotBlocked =
    (p : Program) (state : List Made) (m : ℕ) (it : Made) (path : List ℕ) (b : Block)
    → IsTypedState p state → slice_get state m ≡ Some it
    → IsNormalBody (origins_in p state) (made_of it) it.body
    → IsBlocked (origins_in p state) (made_of it) it.body path b → ⊥
