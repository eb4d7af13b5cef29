-- What is promised of the primitives' types.
use Rattle.std.specs.Prelude.{ℕ, List, [], ◌++◌}
use Rattle.chw_types.specs.declared.kind.Kind.{Kind}
use Rattle.chw_types.specs.declared.declarations.Data.{Data}
use Rattle.chw_types.specs.BuiltIn.{built_in}
use Rattle.chw_types.specs.Kinds.{KindOf, IsOfTerms}
use Rattle.chw_prims.specs.declared.prim.Primitive.{Primitive}
use Rattle.chw_prims.specs.Schemas.{schema_type}

-- with no variables in scope, over any data types of which the built-in ones are the first, each has a kind that terms' types have
abbrev pub SchemasHaveKinds : Type 0
SchemasHaveKinds =
    (p : Primitive) (others : List Data) (domains : ℕ) → (k : Kind) × KindOf (built_in ++ others) domains [] (schema_type p) k × IsOfTerms k
