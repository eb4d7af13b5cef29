use Rattle.chw_typing.proofs.SameScopes.{are_same_self, are_same_turned, are_same_through, are_same_length, same_at, same_more}
use Rattle.chw_typing.proofs.Kinded.{typed_at, typed_more, bound_typed}
use Rattle.rule_types.proofs.Fields.{allowed_typed}
use Rattle.net_grounds.proofs.laws.types_of_variables.Goals as goal

pub returns : goal.returns
returns c = record {
  are_same_self = are_same_self;
  are_same_turned = are_same_turned;
  are_same_through = are_same_through;
  are_same_length = are_same_length;
  same_at = same_at;
  same_more = same_more;
  typed_at = typed_at;
  typed_more = typed_more;
  bound_typed = bound_typed;
  allowed_typed = allowed_typed;
}
