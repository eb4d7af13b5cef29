use Rattle.chw_typing.proofs.Kinded.{type_kinded}
use Rattle.chw_typing.proofs.OneType.{one_type}
use Rattle.chw_typing.proofs.Plugged.{same_variables}
use Rattle.chw_typing.proofs.TypedSpines.{head_typed}
use Rattle.chw_typing.proofs.Asked.{spine_takes, con_takes}
use Rattle.chw_typing.proofs.Saturated.{con_at_arguments, prim_at_arguments}
use Rattle.net_grounds.proofs.laws.types_of_terms.Goals as goal

pub returns : goal.returns
returns c = record {
  type_kinded = type_kinded;
  one_type = one_type;
  same_variables = same_variables;
  head_typed = head_typed;
  spine_takes = spine_takes;
  con_takes = con_takes;
  con_at_arguments = con_at_arguments;
  prim_at_arguments = prim_at_arguments;
}
