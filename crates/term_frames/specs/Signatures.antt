-- What is kept of a program for finding the types of its terms.
use Rattle.std.specs.Prelude.{◌≡◌, ℕ, List, [], map, length, Option, Some, IfSome}
use Rattle.std.specs.List.{slice_get}
use Rattle.chw_types.specs.declared.kind.Kind.{Kind}
use Rattle.chw_types.specs.KindFound.{kind_found}
use Rattle.chw_types.specs.TypeTree.{TypeTree}
use Rattle.chw_prims.specs.declared.names.TheConstants.{ALL}
use Rattle.chw_prims.specs.Schemas.{schema_type}
use Rattle.chw_terms.specs.Constructors.{Constructor, con_at}
use Rattle.chw_terms.specs.declared.program.Program.{Program}
use Rattle.chw_typing.specs.HeadTypes.{con_type}
use Rattle.term_frames.specs.Numbers.{IsNumbering}
use Rattle.term_frames.specs.declared.signature.HeadType.{HeadType}
use Rattle.term_frames.specs.declared.signature.Signature.{Signature}

-- the kinds of the declared types of the program's definitions, each where it has one
abbrev pub kinds_declared : Program → List (Option Kind)
kinds_declared p = map (λ d. kind_found p.datas (length p.domains) [] d.ty) p.defs

-- the type with the kind that it has without type variables in scope
abbrev pub head_type : Program → TypeTree → HeadType
head_type p t = record { ty = t; kind = kind_found p.datas (length p.domains) [] t }

-- the primitives' types, in their order
abbrev pub primitive_types : Program → List HeadType
primitive_types p = map (λ which. head_type p (schema_type which)) ALL

-- this is the type of the constructor of this number
abbrev pub IsOfConstructor : Program → ℕ → HeadType → Type 0
IsOfConstructor p n t =
    (it : Constructor) × (con_at p.datas n ≡ Some it) × (t ≡ head_type p (con_type it))

-- each type that is there is that of the constructor whose number is its place
abbrev pub AreOfConstructors : Program → List (Option HeadType) → Type 0
AreOfConstructors p ts =
    (n : ℕ) (t : Option HeadType) → slice_get ts n ≡ Some t → IfSome t (IsOfConstructor p n)

-- the table has the program's constructors, the kinds are those of its definitions, the types those
-- of constructors and of the primitives, and the numbers those of these types
pub record IsSignature (p : Program) (s : Signature) : Type 0 where
  pub constructors : s.constructors ≡ p.datas
  pub kinds : s.kinds.items ≡ kinds_declared p
  pub kept : AreOfConstructors p s.kept.items
  pub primitives : s.primitives.items ≡ primitive_types p
  pub numbering : IsNumbering p s.kept.items s.numbering
