-- What patterns bind.
use Rattle.std.specs.Prelude.{◌≡◌, ℕ, ◌≤◌, Bool, true, false, List, [], ◌∷◌, map, length, Some}
use Rattle.std.specs.List.{slice_get}
use Rattle.chw_types.specs.declared.kind.Kind.{Kind}
use Rattle.chw_types.specs.declared.kind.Scalar.{Scalar}
use Rattle.chw_types.specs.TypeTree.{TypeTree, scalar, data_of}
use Rattle.chw_types.specs.TypeView.{trees_of}
use Rattle.chw_types.specs.TypeMoves.{sub}
use Rattle.chw_types.specs.Arguments.{arguments}
use Rattle.chw_types.specs.SameTypes.{SameTypes}
use Rattle.chw_terms.specs.declared.term.Pattern.{Pattern}
use Rattle.chw_typing.specs.Scopes.{Setting, AreTermTypes}
use Rattle.chw_typing.specs.HeadTypes.{widest, literal_type, PatternOf}
use Rattle.chw_typing.specs.Typing.{Binds}
use Rattle.chw_typing.specs.Finding.{settled}
use Rattle.term_spines.specs.Kinding.{LacksKindUpTo, IsSettled, HaveKinds}
use Rattle.term_frames.specs.VarsView.{bound_types, bound_kinds}
use Rattle.term_frames.specs.declared.fields.Bound.{Bound}
use Rattle.term_frames.specs.declared.fields.Bound.TheVariants.{Settled}
use Rattle.seen_types.specs.declared.found.Found.{Found}

-- the pattern is none for values of the type, or a field has no kind
abbrev pub BindsNothing : Setting → List Kind → TypeTree → Pattern → Type 0
BindsNothing s kinds u q = (bound : List TypeTree) → Binds s kinds u q bound → ⊥

-- the pattern is one for values of the type, and binds variables of the types of its fields, each
-- settled
pub record BindsFound (s : Setting) (kinds : List Kind) (u : TypeTree) (q : Pattern)
    (bound : List TypeTree) : Type 0 where
  pub fields : List TypeTree
  pub pattern : PatternOf s.datas u q fields
  pub are : map (λ a. settled s kinds a) fields ≡ bound
  pub typed : AreTermTypes s kinds bound

-- so it is, and these are the types with their kinds
abbrev pub BindsKinded : Setting → List Kind → TypeTree → Pattern → Bound → Type 0
BindsKinded s kinds u q b =
    BindsFound s kinds u q (bound_types b) × HaveKinds s kinds (bound_types b) (bound_kinds b)

-- the literal isn't too wide, and its type is the same as this one
abbrev pub IsLiteralOf : TypeTree → Scalar → List Bool → Type 0
IsLiteralOf u r bits = (length bits ≤ widest) × SameTypes u (literal_type r bits)

-- for each field its type at these arguments, settled, with its kind
abbrev pub AreSettled : Setting → List Kind → List TypeTree → List TypeTree → List Found → Type 0
AreSettled s kinds [] args [] = Unit {0}
AreSettled s kinds (f ∷ fs) args (r ∷ rs) =
    IsSettled s kinds (sub f (arguments (trees_of args))) r × AreSettled s kinds fs args rs
AreSettled s kinds _ args _ = ⊥

-- what is bound are these types
abbrev pub AreBoundSettled : Setting → List Kind → List TypeTree → List TypeTree → Bound → Type 0
AreBoundSettled s kinds fs args (Settled b) = AreSettled s kinds fs args b.items
AreBoundSettled s kinds fs args _ = ⊥

-- there is none for some field
abbrev pub NoneSettled : Setting → List Kind → List TypeTree → List TypeTree → Type 0
NoneSettled s kinds fs args =
    (i : ℕ) × (f : TypeTree) × (slice_get fs i ≡ Some f)
    × LacksKindUpTo s kinds (sub f (arguments (trees_of args)))

-- a case may look at values of the type
abbrev pub is_looked_at : TypeTree → Bool
is_looked_at (scalar s w) = true
is_looked_at (data_of d ts) = true
is_looked_at _ = false
