-- What is promised of the types of unrolled primitives.
use Rattle.std.specs.Prelude.{◌≡◌, List, Some}
use Rattle.chw_types.specs.declared.kind.Kind.{Kind}
use Rattle.chw_types.specs.TypeTree.{TypeTree}
use Rattle.chw_prims.specs.declared.prim.Primitive.{Primitive as Prim}
use Rattle.chw_terms.specs.TermTree.{TermTree, prim}
use Rattle.chw_terms.specs.TermView.{applied}
use Rattle.chw_terms.specs.Unrolled.{CanUnroll, unrolled}
use Rattle.chw_typing.specs.Scopes.{Setting, AreTermTypes}
use Rattle.chw_typing.specs.Typing.{HasType, HasTypeUpTo}
use Rattle.chw_typing.specs.Programs.{IsSound}
use Rattle.chw_typing.specs.Given.{types_then}

-- a primitive at these types and on these arguments, as a term
abbrev pub called : Prim → List TypeTree → List TermTree → TermTree
called p types args = applied (prim p) (types_then types args)

-- what a primitive on vectors is unrolled to has the type that the primitive has there, up to naturals
abbrev pub UnrollingKeepsType : Type 0
UnrollingKeepsType =
    (s : Setting) (kinds : List Kind) (vars : List TypeTree) (p : Prim) (types : List TypeTree) (args : List TermTree) (u : TermTree) (t : TypeTree) → IsSound s → AreTermTypes s kinds vars → CanUnroll p types args → unrolled p types args ≡ Some u
    → HasType s kinds vars (called p types args) t
    → HasTypeUpTo s kinds vars u t
