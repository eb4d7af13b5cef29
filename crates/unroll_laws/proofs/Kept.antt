-- A call of a primitive of a line of the table, and what keeps its type.
use Rattle.std.proofs.Common.{◌≡◌, ap, ◌∙◌, subst, List, [], map, length}
use Rattle.std.specs.List.{AllByRecursion}
use Rattle.chw_base.specs.declared.limits.TheConstants.{SCALAR_BITS}
use Rattle.chw_types.specs.declared.kind.Kind.{Kind}
use Rattle.chw_types.specs.TypeTree.{TypeTree}
use Rattle.chw_types.specs.SameTypes.{SameTypes}
use Rattle.chw_prims.specs.declared.prim.Primitive.{Primitive as Prim}
use Rattle.chw_prims.specs.declared.row.Row.{Row}
use Rattle.chw_prims.specs.Schemas.{row_of, row_type}
use Rattle.chw_terms.specs.TermTree.{TermTree, letrec}
use Rattle.chw_terms.specs.TermMoves.{shift}
use Rattle.chw_terms.specs.Unrolled.{named, parameters, at_types, widths_in, IsUpTo}
use Rattle.chw_typing.specs.Scopes.{Setting, IsTermType, AreTermTypes, with_more}
use Rattle.chw_typing.specs.HeadTypes.{for_each, from_each}
use Rattle.chw_typing.specs.Programs.{IsSound}
use Rattle.chw_typing.specs.Typing.{HasType, HasTypeUpTo}
use Rattle.chw_typing.proofs.Kinded.{schema_kind}
use Rattle.chw_typing.specs.Given.{IsSaturated}
use Rattle.chw_typing.proofs.Saturated.{prim_at_arguments}
use Rattle.unroll_laws.specs.Laws.{called}
use Rattle.unroll_laws.proofs.Called.{AllSmall, let_keeps}

-- a primitive of this line that is called
pub record Call (row : Row) (types : List TypeTree) (args : List TermTree) : Type 0 where
  pub s : Setting
  pub kinds : List Kind
  pub vars : List TypeTree
  pub p : Prim
  pub t : TypeTree
  pub sound : IsSound s
  pub typed : AreTermTypes s kinds vars
  pub is : row_of p ≡ row
  pub many : length args ≡ length (parameters (row_type row))
  pub narrow : AllByRecursion (λ k. IsUpTo SCALAR_BITS (at_types types k)) (widths_in (row_type row))
  pub has : HasType s kinds vars (called p types args) t

-- with this body, the letrec has the type of the call
abbrev pub Keeps : (row : Row) (types : List TypeTree) (args : List TermTree) → Call row types args → TermTree → Type 0
Keeps row types args c body =
    HasTypeUpTo c.s c.kinds c.vars (letrec (named (map (at_types types) (parameters (row_type row))) (map (λ e. shift e 0 (length args)) args)) body) c.t

schema_typed : (row : Row) (types : List TypeTree) (args : List TermTree) (c : Call row types args) (w : TypeTree) → row_type row ≡ w → IsTermType c.s [] w
schema_typed row types args c w e = subst (IsTermType c.s []) (ap row_type c.is ∙ e) (schema_kind c.s c.p c.sound)

pub call_of : (row : Row) (types : List TypeTree) (args : List TermTree) (c : Call row types args) (ks : List Kind) (ps : List TypeTree) (r : TypeTree) → row_type row ≡ for_each ks (from_each ps r) → length types ≡ length ks → length args ≡ length ps → IsSaturated c.s c.kinds c.vars ks ps r types args c.t
call_of row types args c ks ps r e l m =
    prim_at_arguments c.s c.kinds c.vars c.p ks ps r types args c.t c.sound c.typed (ap row_type c.is ∙ e) l m c.has

pub kept : (row : Row) (types : List TypeTree) (args : List TermTree) (c : Call row types args) (ks : List Kind) (ps : List TypeTree) (r : TypeTree) (e : TermTree) (u : TypeTree) → row_type row ≡ for_each ks (from_each ps r) → AllSmall types → IsSaturated c.s c.kinds c.vars ks ps r types args c.t → HasType c.s c.kinds (with_more (map (at_types types) ps) c.vars) e u → SameTypes (at_types types r) u → HasTypeUpTo c.s c.kinds c.vars (letrec (named (map (at_types types) ps) (map (λ e. shift e 0 (length args)) args)) e) c.t
kept row types args c ks ps r e u is small call d x =
    let_keeps c.s c.kinds c.vars ks ps r types args c.t e u c.sound c.typed (schema_typed row types args c (for_each ks (from_each ps r)) is) small call d x
