-- The kinds of types, as they are found.
use Rattle.std.specs.Prelude.{◌≡◌, Bool, true, false, List, [], ◌∷◌}
use Rattle.chw_types.specs.declared.kind.Kind.{Kind}
use Rattle.chw_types.specs.declared.kind.Kind.TheVariants.{Val, Cir}
use Rattle.chw_types.specs.TypeTree.{TypeTree}
use Rattle.chw_types.specs.SameTypes.{SameTypes}
use Rattle.type_laws.specs.KindsKept.{AreOfTerms}
use Rattle.chw_typing.specs.Scopes.{Setting, HasKind}
use Rattle.chw_typing.specs.Finding.{settled}
use Rattle.seen_types.specs.declared.found.Found.{Found}

-- the type has no kind
abbrev pub LacksKind : Setting → List Kind → TypeTree → Type 0
LacksKind s kinds t = (k : Kind) → HasKind s kinds t k → ⊥

-- over data types of kinds of terms no type has a kind that is the same
abbrev pub LacksKindUpTo : Setting → List Kind → TypeTree → Type 0
LacksKindUpTo s kinds t = (u : TypeTree) (k : Kind) → AreOfTerms s.datas → SameTypes t u → HasKind s kinds u k → ⊥

-- what was found is the type, with its kind
abbrev pub IsWithKind : Setting → List Kind → TypeTree → Found → Type 0
IsWithKind s kinds t f = (f.ty ≡ t) × HasKind s kinds t f.kind

-- what was found is the type settled, with its kind
abbrev pub IsSettled : Setting → List Kind → TypeTree → Found → Type 0
IsSettled s kinds t f = (settled s kinds t ≡ f.ty) × HasKind s kinds f.ty f.kind

-- each type has the kind at its place
abbrev pub HaveKinds : Setting → List Kind → List TypeTree → List Kind → Type 0
HaveKinds s kinds [] [] = Unit {0}
HaveKinds s kinds (t ∷ ts) (k ∷ ks) = HasKind s kinds t k × HaveKinds s kinds ts ks
HaveKinds s kinds _ _ = ⊥

-- there are functions from types of the first kind to types of the second
abbrev pub has_functions : Kind → Kind → Bool
has_functions Val Val = true
has_functions Val Cir = true
has_functions Cir Cir = true
has_functions _ _ = false
