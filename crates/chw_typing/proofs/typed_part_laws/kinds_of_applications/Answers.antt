use Rattle.chw_typing.proofs.Kinded.{function_parts}
use Rattle.chw_typing.proofs.Applied.{functions_compose, type_applied_kind}
use Rattle.chw_typing.proofs.typed_part_laws.kinds_of_applications.Goals as goal

pub returns : goal.returns
returns c = record { compose = functions_compose; applied = λ s kinds a b k d. let at = function_parts d in at.2; at_a_type = type_applied_kind }
