use Rattle.std.proofs.Common.{◌≡◌, take, map}
use Rattle.chw_prims.specs.declared.names.TheConstants.{ALL}
use Rattle.chw_prims.specs.Schemas.{schema_type}
use Rattle.term_frames.specs.Signatures.{head_type}
use Rattle.term_frames.proofs.signature.primitive_types.Given as goal

abbrev pub invariant-loop-which : goal.invariant-loop-which
invariant-loop-which l =
    l.types.items ≡ map (λ q. head_type l.program (schema_type q)) (take l.which-index ALL)
