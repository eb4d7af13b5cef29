use Rattle.chw_terms.proofs.Absent.{sub_where, put_absent, shift_absent}
use Rattle.chw_terms.proofs.laws.put_where_absent.Goals as goal

pub returns : goal.returns
returns c = record { any_term = put_absent; undone = shift_absent; at_once = sub_where }
