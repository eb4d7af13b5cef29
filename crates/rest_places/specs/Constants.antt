-- Constants that are known: by their types what terms at constants' places are.
use Rattle.std.specs.Prelude.{◌≡◌, ℕ, Bool, List, [], length, Some}
use Rattle.chw_types.specs.declared.declarations.Data.{Data}
use Rattle.chw_types.specs.declared.kind.Kind.TheVariants.{Val}
use Rattle.chw_types.specs.declared.kind.Scalar.{Scalar}
use Rattle.chw_types.specs.TypeTree.{TypeTree, scalar, data_of, vector}
use Rattle.type_ports.specs.Representable.{Representable}
use Rattle.chw_prims.specs.declared.prim.Primitive.{Primitive as Prim}
use Rattle.chw_prims.specs.declared.prim.Primitive.TheVariants.{VAt}
use Rattle.chw_prims.specs.Schemas.{row_of}
use Rattle.chw_terms.specs.declared.scene.Mode.TheVariants.{K, HV}
use Rattle.chw_terms.specs.declared.term.Arg.{Arg}
use Rattle.chw_terms.specs.Constructors.{Constructor, con_at}
use Rattle.chw_terms.specs.TermTree.{TermTree, letrec, con, prim, lit, vec_lit, case_of}
use Rattle.chw_terms.specs.TermTree.{Terms, Group, Alts}
use Rattle.chw_terms.specs.TermView.{applied}
use Rattle.chw_typing.specs.Given.{AsksForNone, types_then}
use Rattle.chw_typing.specs.Scopes.{HasKind}
use Rattle.normal_forms.specs.Circuits.{IsConstant}
use Rattle.rewriting.specs.Origins.{Origins, setting_at}
use Rattle.rewriting.specs.Primitives.{HasUnnamedVector}
use Rattle.rewriting.specs.Spots.{Spot}
use Rattle.rest_places.specs.PrimLaws.{IsRowUnrolled}
use Rattle.rest_places.specs.Rest.{IsRestPlace}
use Rattle.rest_places.specs.Spines.{PrimGiven}

abbrev pub IsLiteral : TermTree → Type 0
IsLiteral (lit r bits) = Unit {0}
IsLiteral e = ⊥

abbrev pub IsWrittenVector : TermTree → Type 0
IsWrittenVector (vec_lit t es) = Unit {0}
IsWrittenVector e = ⊥

-- a constructor on types and terms, as many as its type has parameters
pub record IsSaturatedCon (datas : List Data) (e : TermTree) : Type 0 where
  pub con_number : ℕ
  pub it : Constructor
  pub types : List TypeTree
  pub es : List TermTree
  pub is : con_at datas con_number ≡ Some it
  pub on_types : length types ≡ length it.it.params
  pub on_terms : length es ≡ length it.decl.fields
  pub term : e ≡ applied (con con_number) (types_then types es)

-- a constant's place: by its type what a term of values is
abbrev pub IsKnown : List Data → TypeTree → TermTree → Type 0
IsKnown datas (scalar r w) e = IsLiteral e
IsKnown datas (data_of d ts) e = IsSaturatedCon datas e
IsKnown datas (vector n t) e = IsWrittenVector e
IsKnown datas t e = Unit {0}

-- what a rule at the place above takes away
pub data IsTakenAway (datas : List Data) : TermTree → Type 0 where
  taken_letrec : {g : Group} {e : TermTree} → IsTakenAway datas (letrec g e)
  taken_case : {e : TermTree} {alts : Alts} → IsTakenAway datas (case_of e alts)
  taken_constructor : {e : TermTree} → IsSaturatedCon datas e → IsTakenAway datas e
  taken_literal : {r : Scalar} {bits : List Bool} → IsTakenAway datas (lit r bits)
  taken_vector : {t : TypeTree} {es : Terms} → IsTakenAway datas (vec_lit t es)

-- at rest no primitive that is unrolled has all its arguments; `vat` on a vector of a type that
-- isn't named
abbrev pub NoUnrolled : Type 0
NoUnrolled =
    (o : Origins) (at : Spot) (p : Prim) (types : List TypeTree) (es : List TermTree)
    (more : List Arg) (t : TypeTree)
    → IsRowUnrolled (row_of p) → (p ≡ VAt → HasUnnamedVector o at es)
    → PrimGiven (setting_at o) at.vars p types es more t
    → IsRestPlace o at (applied (applied (prim p) (types_then types es)) more) t → ⊥

-- in constants a term of values at rest is known
abbrev pub ConstantsAreKnown : Type 0
ConstantsAreKnown =
    (o : Origins) (at : Spot) (e : TermTree) (t : TypeTree)
    → at.mode ≡ K → IsRestPlace o at e t → HasKind (setting_at o) [] t Val
    → IsKnown o.program.datas t e

-- and one of a representable type is a constant of the normal form
abbrev pub ConstantsStand : Type 0
ConstantsStand =
    (o : Origins) (at : Spot) (e : TermTree) (t : TypeTree)
    → at.mode ≡ K → IsRestPlace o at e t → Representable o.program.datas t
    → IsConstant o.program.datas e

-- in heads of values a term at rest, of a type of values that isn't representable, is taken away
-- by a rule of the place above
abbrev pub ValueHeadsGo : Type 0
ValueHeadsGo =
    (o : Origins) (at : Spot) (e : TermTree) (t : TypeTree)
    → at.mode ≡ HV → IsRestPlace o at e t → AsksForNone t → HasKind (setting_at o) [] t Val
    → (Representable o.program.datas t → ⊥) → IsTakenAway o.program.datas e
