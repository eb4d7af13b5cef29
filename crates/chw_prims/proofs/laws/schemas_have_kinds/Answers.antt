use Rattle.std.proofs.Common.{[], ◌++◌}
use Rattle.chw_types.specs.BuiltIn.{built_in}
use Rattle.chw_types.proofs.KindsFound.{found_is_kind}
use Rattle.chw_prims.specs.Schemas.{schema_type}
use Rattle.chw_prims.proofs.SchemaKinds.{kind_of_schema, schema_has_kind, is_of_terms, is_circuit}
use Rattle.chw_prims.proofs.laws.schemas_have_kinds.Goals as goal

pub returns : goal.returns
returns c p others domains =
    (kind_of_schema p, found_is_kind (built_in ++ others) domains [] (schema_type p) (kind_of_schema p) (schema_has_kind p others domains), is_of_terms (is_circuit p))
