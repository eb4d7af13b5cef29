-- What is promised of the types of spines.
use Rattle.std.specs.Prelude.{◌≡◌, ◌↔◌, ℕ, List, [], map, length, Some}
use Rattle.chw_types.specs.declared.kind.Kind.{Kind}
use Rattle.chw_types.specs.Kinds.{KindsOf}
use Rattle.chw_types.specs.SameTypes.{SameTypes}
use Rattle.chw_types.specs.TypeTree.{TypeTree, data_of}
use Rattle.chw_types.specs.TypeView.{trees_of}
use Rattle.chw_prims.specs.declared.prim.Primitive.{Primitive as Prim}
use Rattle.chw_prims.specs.Schemas.{schema_type}
use Rattle.chw_terms.specs.Constructors.{Constructor, con_at}
use Rattle.chw_terms.specs.declared.term.Arg.{Arg}
use Rattle.chw_terms.specs.TermTree.{TermTree, letrec, con, prim}
use Rattle.chw_terms.specs.TermMoves.{shift}
use Rattle.chw_terms.specs.Unrolled.{named}
use Rattle.chw_terms.specs.TermView.{applied}
use Rattle.chw_typing.specs.HeadTypes.{for_each, from_each, fields_at}
use Rattle.chw_typing.specs.Scopes.{Setting, HasKind, AreTermTypes, with_more}
use Rattle.chw_typing.specs.Programs.{IsSound}
use Rattle.chw_typing.specs.Typing.{HasType, HasTypeUpTo}
use Rattle.chw_typing.specs.Given.{types_then, AreGiven, AllAllow, IsSaturated, AsksForNone, Takes}
use Rattle.chw_typing.specs.TypedSpines.{AtArguments}

-- a spine has a type exactly where its head has one that leads to it along the arguments
abbrev pub SpineIsTyped : Type 0
SpineIsTyped =
    (s : Setting) (kinds : List Kind) (vars : List TypeTree) (e : TermTree) (args : List Arg)
    (t : TypeTree)
    → (HasType s kinds vars (applied e args) t
    ↔ ((u : TypeTree) × HasType s kinds vars e u × AtArguments s kinds vars u args t))

-- the type of a spine has the kind of its head's type
abbrev pub SpineKeepsKind : Type 0
SpineKeepsKind =
    (s : Setting) (kinds : List Kind) (vars : List TypeTree) (u : TypeTree) (args : List Arg)
    (t : TypeTree) (k : Kind)
    → HasKind s kinds u k → AtArguments s kinds vars u args t → HasKind s kinds t k

-- a spine keeps its type, up to naturals, where its head becomes one that has each of its types
abbrev pub HeadMayChange : Type 0
HeadMayChange =
    (s : Setting) (kinds : List Kind) (vars : List TypeTree) (e f : TermTree) (args : List Arg)
    (t : TypeTree) → IsSound s → AreTermTypes s kinds vars
    → ((u : TypeTree) → HasType s kinds vars e u → HasTypeUpTo s kinds vars f u)
    → HasType s kinds vars (applied e args) t → HasTypeUpTo s kinds vars (applied f args) t

-- a head whose type asks for types and terms, at as many of both: the types have the kinds, the
-- terms have the parameters' types, and the whole has the result's
abbrev pub SchemaAtArguments : Type 0
SchemaAtArguments =
    (s : Setting) (kinds : List Kind) (vars : List TypeTree) (e : TermTree) (ks : List Kind)
    (ps : List TypeTree) (r : TypeTree) (types : List TypeTree) (es : List TermTree) (t : TypeTree)
    → IsSound s → AreTermTypes s kinds vars
    → HasType s kinds vars e (for_each ks (from_each ps r))
    → length types ≡ length ks → length es ≡ length ps
    → HasType s kinds vars (applied e (types_then types es)) t
    → IsSaturated s kinds vars ks ps r types es t

-- so a constructor: the terms have its fields' types, and the whole has the data type
abbrev pub ConAtArguments : Type 0
ConAtArguments =
    (s : Setting) (kinds : List Kind) (vars : List TypeTree) (c : ℕ) (it : Constructor)
    (types : List TypeTree) (es : List TermTree) (t : TypeTree)
    → IsSound s → AreTermTypes s kinds vars → con_at s.datas c ≡ Some it
    → length types ≡ length it.it.params → length es ≡ length it.decl.fields
    → HasType s kinds vars (applied (con c) (types_then types es)) t
    → KindsOf s.datas s.domains kinds (trees_of types) it.it.params
    × AreGiven s kinds vars (fields_at it (trees_of types)) es
    × SameTypes (data_of it.of (trees_of types)) t

-- and a primitive, by the parameters and the result of its type
abbrev pub PrimAtArguments : Type 0
PrimAtArguments =
    (s : Setting) (kinds : List Kind) (vars : List TypeTree) (p : Prim) (ks : List Kind)
    (ps : List TypeTree) (r : TypeTree) (types : List TypeTree) (es : List TermTree) (t : TypeTree)
    → IsSound s → AreTermTypes s kinds vars → schema_type p ≡ for_each ks (from_each ps r)
    → length types ≡ length ks → length es ≡ length ps
    → HasType s kinds vars (applied (prim p) (types_then types es)) t
    → IsSaturated s kinds vars ks ps r types es t

-- a spine whose type asks for nothing more: its arguments begin with as many types, and then as
-- many terms, as the head's type asks for
abbrev pub SpineIsSaturated : Type 0
SpineIsSaturated =
    (s : Setting) (kinds : List Kind) (vars : List TypeTree) (e : TermTree) (ks : List Kind)
    (ps : List TypeTree) (r : TypeTree) (args : List Arg) (t : TypeTree)
    → IsSound s → AreTermTypes s kinds vars
    → HasType s kinds vars e (for_each ks (from_each ps r))
    → HasType s kinds vars (applied e args) t → AsksForNone t
    → Takes (length ks) (length ps) args

-- a constructor takes no more than its own
abbrev pub ConIsSaturated : Type 0
ConIsSaturated =
    (s : Setting) (kinds : List Kind) (vars : List TypeTree) (c : ℕ) (it : Constructor)
    (args : List Arg) (t : TypeTree)
    → IsSound s → AreTermTypes s kinds vars → con_at s.datas c ≡ Some it
    → HasType s kinds vars (applied (con c) args) t → AsksForNone t
    → (a : Takes (length it.it.params) (length it.decl.fields) args) × (a.more ≡ [])

-- a letrec that binds terms from outside to names has its body's type, where the terms have the
-- names' types, and these have kinds that allow the body's
abbrev pub LetOfArguments : Type 0
LetOfArguments =
    (s : Setting) (kinds : List Kind) (vars ts : List TypeTree) (es : List TermTree) (k : Kind)
    (e : TermTree) (u : TypeTree)
    → AreGiven s kinds vars ts es → AllAllow s kinds k ts
    → HasType s kinds (with_more ts vars) e u → HasKind s kinds u k
    → HasType s kinds vars (letrec (named ts (map (λ e. shift e 0 (length es)) es)) e) u
