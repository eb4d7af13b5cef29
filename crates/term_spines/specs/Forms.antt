-- What a term of a type gives at an argument.
use Rattle.std.specs.Prelude.{◌≡◌, List}
use Rattle.chw_types.specs.declared.kind.Kind.{Kind}
use Rattle.chw_types.specs.TypeTree.{TypeTree, fun, for_all}
use Rattle.chw_types.specs.TypeMoves.{put}
use Rattle.chw_types.specs.SameTypes.{SameTypes}
use Rattle.type_laws.specs.KindsKept.{AreOfTerms}
use Rattle.chw_typing.specs.Scopes.{Setting, HasKind}
use Rattle.chw_typing.specs.Finding.{settled}
use Rattle.seen_types.specs.declared.found.Found.{Found}

-- the type is one of functions from what is the same as the argument's type, and this is found for
-- the result
pub record Takes (f : Found) (arg : TypeTree) (r : Found) : Type 0 where
  pub from : TypeTree
  pub is : f.ty ≡ fun from r.ty
  pub same : SameTypes from arg
  pub kind : r.kind ≡ f.kind

-- it is no such type
abbrev pub TakesNot : TypeTree → TypeTree → Type 0
TakesNot t arg = (a b : TypeTree) → t ≡ fun a b → SameTypes a arg → ⊥

-- the type has a parameter of the argument's kind, and what is found is the type with the argument
-- put in, settled
pub record TakesType (s : Setting) (kinds : List Kind) (t arg : TypeTree) (r : Found) : Type 0 where
  pub j : Kind
  pub of : TypeTree
  pub is : t ≡ for_all j of
  pub kind : HasKind s kinds arg j
  pub settled : settled s kinds (put of 0 arg) ≡ r.ty
  pub kinded : HasKind s kinds r.ty r.kind

-- it has no such parameter, or nothing with a kind is the same
abbrev pub TakesTypeNot : Setting → List Kind → TypeTree → TypeTree → Type 0
TakesTypeNot s kinds t arg =
    (j k : Kind) (of u : TypeTree) → AreOfTerms s.datas → t ≡ for_all j of → HasKind s kinds arg j
    → SameTypes (put of 0 arg) u → HasKind s kinds u k → ⊥
