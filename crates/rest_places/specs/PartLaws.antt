-- What is promised of the parts of letrecs, of cases and of primitives at rest.
use Rattle.std.specs.Prelude.{◌≡◌, ℕ, true, false, List, [], length, Some}
use Rattle.std.specs.List.{slice_get}
use Rattle.chw_types.specs.TypeTree.{TypeTree}
use Rattle.chw_prims.specs.declared.prim.Primitive.{Primitive as Prim}
use Rattle.chw_prims.specs.Schemas.{schema_type}
use Rattle.chw_terms.specs.declared.scene.Mode.TheVariants.{V}
use Rattle.chw_terms.specs.declared.term.Arg.{Arg}
use Rattle.chw_terms.specs.TermTree.{TermTree, letrec, prim, case_of, Group, Alts, var}
use Rattle.chw_terms.specs.TermView.{applied}
use Rattle.chw_typing.specs.Scopes.{declared, with_more}
use Rattle.chw_typing.specs.Typing.{HasType}
use Rattle.rewriting.specs.Named.{IsNamed}
use Rattle.rewriting.specs.Origins.{Origins, setting_at}
use Rattle.rewriting.specs.Spots.{Spot, HasLets, asked_for, spot, scrutinee_mode}
use Rattle.rest_places.specs.Rest.{IsRestPlace}
use Rattle.chw_types.specs.SameTypes.{SameTypes}
use Rattle.chw_typing.specs.Groups.{binding_at}
use Rattle.chw_typing.specs.HeadTypes.{PatternOf}
use Rattle.chw_typing.specs.Paths.{Branch, branch_at}
use Rattle.rewriting.specs.Demanded.{DemandsLet, DemandsCase}

-- a right side at rest: it has the declared type up to naturals, which is named
pub record SideAtRest (o : Origins) (at : Spot) (g : Group) (b : TypeTree × TermTree) : Type 0 where
  pub type : TypeTree
  pub same : SameTypes b.0 type
  pub named : IsNamed o.program.datas at.mode type
  pub rest : IsRestPlace o (spot at.mode false (with_more (declared g) at.vars)) b.1 type

-- where values and circuits are built so is each one of a letrec
abbrev pub SidesAreAtRest : Type 0
SidesAreAtRest =
    (o : Origins) (at : Spot) (g : Group) (e : TermTree) (t : TypeTree) (i : ℕ)
    (b : TypeTree × TermTree)
    → HasLets at.mode → IsRestPlace o at (letrec g e) t → binding_at g i ≡ Some b
    → SideAtRest o at g b

-- and the body, of the letrec's type
abbrev pub BodyIsAtRest : Type 0
BodyIsAtRest =
    (o : Origins) (at : Spot) (g : Group) (e : TermTree) (t : TypeTree)
    → HasLets at.mode → IsRestPlace o at (letrec g e) t
    → IsRestPlace o (spot at.mode true (with_more (declared g) at.vars)) e t

-- what a case looks at, of a type that isn't named, is at rest
abbrev pub ScrutineeIsAtRest : Type 0
ScrutineeIsAtRest =
    (o : Origins) (at : Spot) (e : TermTree) (alts : Alts) (t u : TypeTree)
    → IsRestPlace o at (case_of e alts) t → HasType (setting_at o) [] at.vars e u
    → (IsNamed o.program.datas at.mode u → ⊥)
    → IsRestPlace o (spot (scrutinee_mode o.program.datas at.mode alts) false at.vars) e u

-- an alternative at rest, for values of the type u: it has the case's type up to naturals
pub record BranchAtRest (o : Origins) (at : Spot) (u t : TypeTree) (b : Branch) : Type 0 where
  pub fields : List TypeTree
  pub pattern : PatternOf o.program.datas u b.pattern fields
  pub type : TypeTree
  pub same : SameTypes t type
  pub rest : IsRestPlace o (spot V true (with_more fields at.vars)) b.body type

-- where values are built so is each one of a case on a variable of a named type
abbrev pub BranchesAreAtRest : Type 0
BranchesAreAtRest =
    (o : Origins) (at : Spot) (x : ℕ) (alts : Alts) (t u : TypeTree) (i : ℕ) (b : Branch)
    → at.mode ≡ V → IsRestPlace o at (case_of (var x) alts) t → slice_get at.vars x ≡ Some u
    → IsNamed o.program.datas V u → branch_at alts i ≡ Some b → BranchAtRest o at u t b

-- at rest no demanded argument is a letrec, or a case
abbrev pub NoDemandedLet : Type 0
NoDemandedLet =
    (o : Origins) (at : Spot) (p : Prim) (args more : List Arg) (t : TypeTree) (i : ℕ)
    → length args ≡ asked_for (schema_type p)
    → IsRestPlace o at (applied (applied (prim p) args) more) t → DemandsLet o at p args i → ⊥

abbrev pub NoDemandedCase : Type 0
NoDemandedCase =
    (o : Origins) (at : Spot) (p : Prim) (args more : List Arg) (t : TypeTree) (i : ℕ)
    → length args ≡ asked_for (schema_type p)
    → IsRestPlace o at (applied (applied (prim p) args) more) t → DemandsCase o at p args i → ⊥
