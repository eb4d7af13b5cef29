use Rattle.chw_typing.proofs.Saturated.{schema_at_arguments, con_at_arguments, prim_at_arguments}
use Rattle.chw_typing.proofs.spine_laws.saturated_spines.Goals as goal

pub returns : goal.returns
returns c = record { schema = schema_at_arguments; con = con_at_arguments; prim = prim_at_arguments }
