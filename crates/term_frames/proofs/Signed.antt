-- What a signature keeps: the kinds of types without variables, and the types of primitives.
use Rattle.std.proofs.Common.{◌≡◌, ℕ, Option, Some, None, refl, ap, ◌∙◌, List}
use Rattle.std.specs.List.{slice_get}
use Rattle.chw_types.specs.declared.kind.Kind.{Kind}
use Rattle.chw_types.specs.declared.declarations.Data.{Data}
use Rattle.chw_types.specs.TypeTree.{TypeTree}
use Rattle.chw_types.specs.KindFound.{kind_found}
use Rattle.chw_types.specs.Kinds.{HasNoKind}
use Rattle.chw_types.proofs.KindsFound.{found_is_kind}
use Rattle.chw_prims.specs.declared.names.TheConstants.{ALL}
use Rattle.chw_prims.specs.declared.prim.Primitive.{Primitive}
use Rattle.chw_prims.specs.Schemas.{schema_type}
use Rattle.chw_terms.specs.declared.program.Program.{Program}
use Rattle.chw_typing.proofs.Lists.{found_in_map}
use Rattle.term_frames.specs.Signatures.{head_type, primitive_types}
use Rattle.term_frames.specs.declared.signature.HeadType.{HeadType}

pub nothing_found : (datas : List Data) (domains : ℕ) (scope : List Kind) (t : TypeTree) → HasNoKind datas domains scope t → kind_found datas domains scope t ≡ None
nothing_found datas domains scope t never = at (kind_found datas domains scope t) refl
  where
    at : (o : Option Kind) → kind_found datas domains scope t ≡ o → o ≡ None
    at None e = refl
    at (Some k) e = absurd (never k (found_is_kind datas domains scope t k e))

-- the type in the signature is the primitive's
pub primitive_placed : (p : Program) (ts : List HeadType) (n : ℕ) (which : Primitive) → ts ≡ primitive_types p → slice_get ALL n ≡ Some which → slice_get ts n ≡ Some (head_type p (schema_type which))
primitive_placed p ts n which all at =
    ap (λ us. slice_get us n) all ∙ found_in_map (λ (q : Primitive). head_type p (schema_type q)) ALL n which at
