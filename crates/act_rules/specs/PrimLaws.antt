-- What is promised of rules on primitives: what they make of a typed term acts as the term.
use Rattle.std.specs.Prelude.{◌≡◌, Bool, List, map, Some}
use Rattle.chw_types.specs.declared.kind.Scalar.{Scalar}
use Rattle.chw_types.specs.TypeTree.{TypeTree}
use Rattle.chw_prims.specs.Schemas.{schema_type}
use Rattle.chw_prims.specs.declared.prim.Primitive.{Primitive as Prim}
use Rattle.chw_terms.specs.declared.rule.Rule.{Rule}
use Rattle.chw_terms.specs.TermTree.{TermTree, prim}
use Rattle.chw_terms.specs.TermView.{applied}
use Rattle.chw_terms.specs.Unrolled.{CanUnroll, unrolled}
use Rattle.chw_typing.specs.Given.{types_then}
use Rattle.rewriting.specs.Origins.{Origins}
use Rattle.rewriting.specs.Spots.{Spot}
use Rattle.rewriting.specs.Primitives.{HasValue, OfPrimitives, literal, word_given}
use Rattle.act_rules.specs.RuleLaws.{KeepsMeaning}

-- a primitive on literals, within the limits, becomes its value
abbrev pub ComputedActs : Type 0
ComputedActs =
    (p : Prim) (types : List TypeTree) (words : List (Scalar × List Bool)) (b : List Bool)
    → HasValue p types words b
    → KeepsMeaning
    (word_given (schema_type p) b) (applied (prim p) (types_then types (map literal words)))

-- a primitive on vectors, within the limits, becomes its unrolled form
abbrev pub UnrolledActs : Type 0
UnrolledActs =
    (p : Prim) (types : List TypeTree) (es : List TermTree) (e : TermTree)
    → CanUnroll p types es
    → unrolled p types es ≡ Some e
    → KeepsMeaning e (applied (prim p) (types_then types es))

-- what UNROLL, ELEM and DELTA make at any place of a scene acts as the term
abbrev pub PrimitivesAct : Type 0
PrimitivesAct =
    (o : Origins) (at : Spot) (r : Rule) (e e' : TermTree)
    → OfPrimitives o at r e e' → KeepsMeaning e' e
