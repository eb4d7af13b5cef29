-- What is promised of a type that was written without zeros.
use Rattle.std.specs.Prelude.{ℕ, List}
use Rattle.chw_types.specs.declared.kind.Kind.{Kind}
use Rattle.chw_types.specs.declared.declarations.Data.{Data}
use Rattle.chw_types.specs.TypeTree.{TypeTree}
use Rattle.chw_types.specs.Kinds.{KindOf}
use Rattle.chw_types.specs.SameTypes.{SameTypes}
use Rattle.type_laws.specs.KindsKept.{AreOfTerms}

-- the second type has each kind that any type has which is the same as the first up to naturals
abbrev pub HasEachKind : TypeTree → TypeTree → Type 0
HasEachKind t r =
    (datas : List Data) (domains : ℕ) (scope : List Kind) (u : TypeTree) (k : Kind) → AreOfTerms datas → SameTypes t u → KindOf datas domains scope u k → KindOf datas domains scope r k
